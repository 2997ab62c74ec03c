use Rattle.nr_explain.specs.inside.Searches.{IsUnplacedBelow}
use Rattle.nr_explain.proofs.search.replies.first_place.Given as goal

abbrev pub invariant-loop-place : goal.invariant-loop-place
invariant-loop-place l = IsUnplacedBelow l.trace l.call l.place
