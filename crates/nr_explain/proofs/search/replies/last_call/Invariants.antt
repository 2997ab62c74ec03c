use Rattle.nr_explain.specs.inside.Searches.{IsLastCall}
use Rattle.nr_explain.proofs.search.replies.last_call.Given as goal

abbrev pub invariant-loop-index : goal.invariant-loop-index
invariant-loop-index l = IsLastCall l.trace l.thread l.index l.last
