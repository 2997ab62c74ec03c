use Rattle.std.proofs.Common.{◌≡◌, ◌+◌, ◌≤◌, ◌++◌, All, length, map}
use Rattle.std.specs.Prelude.{vec_capacity}
use Rattle.nr_serve.specs.inside.Working.{IsReadyJob}
use Rattle.nr_serve.proofs.threading.threads.start_all.Given as goal

abbrev pub invariant-loop-job : goal.invariant-loop-job
invariant-loop-job g l =
    (map (λ handle. handle.promise.job.value) l.handles.items ++ l.job-iterator.rest.items ≡ l.fn.jobs.items)
    × All (IsReadyJob l.team.clock.now g.K.ReplicasName.log) l.job-iterator.rest.items
    × (length l.handles.items + length l.job-iterator.rest.items ≤ vec_capacity l.handles)
