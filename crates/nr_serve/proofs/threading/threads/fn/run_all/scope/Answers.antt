use Rattle.std.proofs.Common.{List, subst}
use Rattle.std.specs.List.{AllZip}
use Rattle.nr_serve.specs.inside.Calls.{WorkerState, since}
use Rattle.nr_serve.specs.inside.Working.{IsDone, JobState}
use Rattle.nr_serve.proofs.Jobs.{done_by_clock}
use Rattle.nr_serve.proofs.threading.threads.fn.run_all.scope.Goals as goal

pub returns-then-all : goal.returns-then-all
returns-then-all g c =
    let of = since g.K.ReplicasName.log g.K.ReplicasName.base in
    let R : JobState → WorkerState → Type 0 = λ job worker. IsDone job.pen.clock of job worker in
    let workers = c.join_all-workers.result.items in
    let each = subst (λ (l : List JobState). AllZip R l workers) (c.start_all-all.ensures.all c.if-all.true) c.join_all-workers.ensures in
    done_by_clock c.captures.team.now.clock.now of c.captures.jobs.items workers c.requires.2 each
