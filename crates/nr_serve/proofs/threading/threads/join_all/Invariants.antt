use Rattle.std.proofs.Common.{◌≡◌, ◌+◌, ◌≤◌, List, ◌++◌, length, map}
use Rattle.std.specs.Prelude.{vec_capacity}
use Rattle.std.specs.List.{AllZip}
use Rattle.nr_serve.specs.inside.Calls.{since}
use Rattle.nr_serve.specs.inside.Working.{IsDone, JobState}
use Rattle.nr_serve.proofs.threading.threads.join_all.Given as goal

abbrev pub invariant-loop-handle : goal.invariant-loop-handle
invariant-loop-handle g l =
    (joined : List JobState)
    × (joined ++ map (λ handle. handle.promise.job.value) l.handle-iterator.rest.items ≡ map (λ handle. handle.promise.job.value) l.fn.handles.items)
    × AllZip (λ job worker. IsDone job.pen.clock (since g.K.ReplicasName.log g.K.ReplicasName.base) job worker) joined l.workers.items
    × (length l.workers.items + length l.handle-iterator.rest.items ≤ vec_capacity l.workers)
