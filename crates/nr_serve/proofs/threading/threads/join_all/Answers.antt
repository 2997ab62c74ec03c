use Rattle.std.proofs.Common.{List, [], ◌∷◌, ◌++◌, length, map, ap, sym, subst, arith}
use Rattle.std.proofs.Math.ListN.{length-append}
use Rattle.std.specs.List.{AllZip}
use Rattle.std.proofs.lemmas.Slice.Zip.{all_zipped_more}
use Rattle.nr_serve.specs.inside.Calls.{WorkerState, since}
use Rattle.nr_serve.specs.inside.Working.{IsDone, JobState}
use Rattle.nr_serve.proofs.Jobs.{one_joined}
use Rattle.nr_serve.proofs.threading.threads.join_all.Goals as goal

pub loop-handle-init : goal.loop-handle-init
loop-handle-init g c =
    let rest = c.into_iter-handle-iterator.ensures.into_iter_gives.0 in
    let R : JobState → WorkerState → Type 0 = λ job worker. IsDone job.pen.clock (since g.K.ReplicasName.log g.K.ReplicasName.base) job worker in (
      [],
      ap (λ (l : List _). map (λ handle. handle.promise.job.value) l) rest,
      subst (λ (l : List WorkerState). AllZip R [] l) (sym c.requires.0) tt,
      omega (arith, ap (λ (l : List _). length l) rest, ap (λ (l : List WorkerState). length l) c.requires.0, c.requires.1),
    )

pub loop-handle-preserved : goal.loop-handle-preserved
loop-handle-preserved g c =
    let was = c.loop-handle.invariant in
    let steps = c.in-Some.ensures.steps.0 in
    let items = c.in-Ok.ensures.items in
    let R : JobState → WorkerState → Type 0 = λ job worker. IsDone job.pen.clock (since g.K.ReplicasName.log g.K.ReplicasName.base) job worker in
    let job = c.in-Some.handle.promise.job.value in (
      was.0 ++ job ∷ [],
      one_joined _ was.0 _ _ _ c.in-Some.handle steps was.1,
      subst (λ (l : List WorkerState). AllZip R (was.0 ++ job ∷ []) l) (sym items)
          (all_zipped_more R was.0 c.loop-handle.workers.items job c.join.result was.2 c.join.ensures),
      omega (
        arith,
        was.3,
        c.in-Ok.ensures.capacity,
        ap (λ (l : List _). length l) steps,
        ap (λ (l : List WorkerState). length l) items,
        length-append c.loop-handle.workers.items (c.join.result ∷ []),
      ),
    )
