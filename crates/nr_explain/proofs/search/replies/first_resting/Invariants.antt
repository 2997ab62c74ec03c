use Rattle.nr_explain.specs.inside.Searches.{RestsNowhere}
use Rattle.nr_explain.proofs.search.replies.first_resting.Given as goal

abbrev pub invariant-loop-index : goal.invariant-loop-index
invariant-loop-index l = RestsNowhere l.trace l.replica l.applied l.index
