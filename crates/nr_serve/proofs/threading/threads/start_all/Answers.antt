use Rattle.std.proofs.Common.{◌≡◌, List, [], ◌∷◌, length, map, ap, ◌∙◌, arith}
use Rattle.std.proofs.Math.ListN.{length-append, length-map}
use Rattle.nr_replicas.proofs.Rests.{first_and_rest}
use Rattle.nr_serve.specs.inside.Working.{IsReadyJob, JobState}
use Rattle.nr_serve.proofs.Jobs.{one_started}
use Rattle.nr_serve.proofs.threading.threads.start_all.Goals as goal

pub loop-job-preserved : goal.loop-job-preserved
loop-job-preserved g c =
    let was = c.loop-job.invariant in
    let job = c.in-Some.job in
    let rest = c.next.new.self.rest.items in
    let old = c.loop-job.handles.items in
    let steps = c.in-Some.ensures.steps.0 in
    let items = c.in-Ok-push.ensures.items in
    let kept : c.in-Ok.handle.promise.job.value ≡ job = ap (λ p. p.job.value) c.in-Ok.ensures.ok ∙ c.of-promise.ensures in
    let ready = first_and_rest (IsReadyJob c.args.team.now.clock.now g.K.ReplicasName.log) c.loop-job.job-iterator.rest.items rest job steps was.1 in (
      one_started _ old c.push.new.self.items c.in-Ok.handle job _ rest _ items kept steps was.0,
      ready.1,
      omega (
        arith,
        was.2,
        c.in-Ok-push.ensures.capacity,
        ap (λ (l : List JobState). length l) steps,
        ap (λ (l : List _). length l) items,
        length-append old (c.in-Ok.handle ∷ []),
      ),
    )

pub returns-in_default-clause-few : goal.returns-in_default-clause-few
returns-in_default-clause-few g c =
    let was = c.loop-job.invariant in
    let split = ap (λ (l : List JobState). length l) was.0 in
    omega (
      arith,
      split,
      length-append (map (λ handle. handle.promise.job.value) c.loop-job.handles.items) c.loop-job.job-iterator.rest.items,
      length-map c.loop-job.handles.items (λ handle. handle.promise.job.value),
    )
