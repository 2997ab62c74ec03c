use Rattle.std.proofs.Common.{◌≡◌, [], ◌∷◌, ◌++◌}
use Rattle.nr_slots.proofs.Batches.{one_more, same}
use Rattle.nr_slots.proofs.slots.Slots.collect.Goals as goal
use Rattle.nr_slots.proofs.slots.Slots.collect.Goals.{in-Some, in_default}

pub loop-thread-preserved : goal.loop-thread-preserved
loop-thread-preserved g c =
    elim c.match-take.branch [
      | in-Some w ↦
          let added : c.match-take.batch.items ≡ c.loop-thread.batch.items ++ w.in-Some.waiting ∷ [] = cc in
          one_more _ c.loop-thread.thread c.loop-thread.batch.items c.match-take.batch.items w.in-Some.waiting added
          w.in-Some.ensures.thread w.in-Some.ensures.rule c.loop-thread.invariant
      | in_default w ↦
          let kept : c.match-take.batch.items ≡ c.loop-thread.batch.items = cc in
          same _ c.loop-thread.thread c.loop-thread.batch.items c.match-take.batch.items kept c.loop-thread.invariant
    ]
