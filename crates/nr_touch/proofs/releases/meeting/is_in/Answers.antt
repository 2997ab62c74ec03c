use Rattle.std.proofs.Common.{arith}
use Rattle.std.proofs.lemmas.Bool.{false≢true}
use Rattle.nr_touch.proofs.releases.meeting.is_in.Goals as goal

pub returns-then-phys-release : goal.returns-then-phys-release
returns-then-phys-release c = (λ t. absurd (false≢true t), λ has. absurd (omega (arith, has.0, c.if-phys-release.true)))
