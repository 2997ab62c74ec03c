use Rattle.nr_slots.proofs.Batches.{RisesBelow}
use Rattle.nr_slots.proofs.slots.Slots.collect.Given as goal

abbrev pub invariant-loop-thread : goal.invariant-loop-thread
invariant-loop-thread g l = RisesBelow (λ w. ∥ g.P.SlotRule.posted w.thread w.call w.op ∥₁) l.thread l.batch.items
