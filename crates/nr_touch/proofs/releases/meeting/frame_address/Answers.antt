use Rattle.std.proofs.Common.{arith}
use Rattle.nr_touch.proofs.releases.meeting.frame_address.Goals as goal

pub overflow_mul-offset : goal.overflow_mul-offset
overflow_mul-offset c = let within = c.requires.within in let ends = c.requires.page.ends in omega (arith, within, ends)

pub overflow_add-result : goal.overflow_add-result
overflow_add-result c = let within = c.requires.within in let ends = c.requires.page.ends in omega (arith, within, ends)
