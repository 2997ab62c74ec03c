use Rattle.nr_explain.specs.inside.Searches.{IsOpenBelow}
use Rattle.nr_explain.proofs.search.replies.first_reply.Given as goal

abbrev pub invariant-loop-index : goal.invariant-loop-index
invariant-loop-index l = IsOpenBelow l.trace l.call l.index
