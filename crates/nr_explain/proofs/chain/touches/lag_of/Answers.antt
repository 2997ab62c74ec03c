use Rattle.std.proofs.lemmas.Bool.{iff_false}
use Rattle.nr_explain.proofs.chain.touches.lag_of.Goals as goal

pub returns-then-not-is_fault_of_none : goal.returns-then-not-is_fault_of_none
returns-then-not-is_fault_of_none c = λ none. iff_false c.is_fault_of_none.ensures c.if-not-is_fault_of_none.true none

pub returns : goal.returns
returns c = (c.is_fault_of_none.ensures.0 c.if-not-is_fault_of_none.false, c.known_at-known.ensures.known, c.known_at-known.ensures.shown)
