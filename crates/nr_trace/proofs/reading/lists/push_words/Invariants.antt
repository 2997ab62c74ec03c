use Rattle.nr_trace.proofs.Words.{IsFilled}
use Rattle.nr_trace.proofs.reading.lists.push_words.Given as goal

abbrev pub invariant-loop-k : goal.invariant-loop-k
invariant-loop-k l = IsFilled l.fn.dump l.run l.dump l.k l.rest
