use Rattle.nr_touch.proofs.LivesFound.{HaveLivesTo}
use Rattle.nr_touch.proofs.releases.lives.lives_of.Given as goal

abbrev pub invariant-loop-row : goal.invariant-loop-row
invariant-loop-row l = HaveLivesTo l.stays l.lives.items l.row
