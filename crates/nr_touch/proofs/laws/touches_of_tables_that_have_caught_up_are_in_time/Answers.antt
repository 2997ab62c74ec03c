use Rattle.std.proofs.Common.{inl}
use Rattle.nr_touch.proofs.QuietPages.{right_in_time}
use Rattle.nr_touch.proofs.laws.touches_of_tables_that_have_caught_up_are_in_time.Goals as goal

pub returns : goal.returns
returns c = λ start trace touch caught. (λ right. right_in_time start trace touch caught right, λ in_time. inl in_time)
