use Rattle.nr_touch.proofs.touches.stale.is_fault_of_none.Goals as goal

pub returns : goal.returns
returns c = rw c.fault_code-code.ensures at c.is_same.ensures
