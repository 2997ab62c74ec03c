use Rattle.nr_touch.proofs.QuietPages.{present_is_right}
use Rattle.nr_touch.proofs.laws.touches_of_the_present_are_right.Goals as goal

pub returns : goal.returns
returns c = present_is_right
