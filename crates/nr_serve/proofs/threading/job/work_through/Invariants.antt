use Rattle.std.proofs.Common.{◌≤◌, length}
use Rattle.std.specs.Prelude.{vec_capacity}
use Rattle.nr_serve.specs.SegmentRun.{HasSeenMore}
use Rattle.nr_serve.specs.inside.Calls.{since}
use Rattle.nr_serve.specs.inside.Working.{IsUnderWay}
use Rattle.nr_serve.proofs.threading.job.work_through.Given as goal

abbrev pub invariant-loop-done : goal.invariant-loop-done
invariant-loop-done g l =
    IsUnderWay l.team.clock.now (since g.K.ReplicasName.log g.K.ReplicasName.base) l.thread l.script l.done l.pen l.pass l.said.items
    × (length l.script ≤ vec_capacity l.said) × HasSeenMore l.fn.pass l.pass
