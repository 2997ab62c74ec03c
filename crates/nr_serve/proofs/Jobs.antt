-- The jobs of all threads, and what their threads hand back.
use Rattle.std.proofs.Common.{◌≡◌, ℕ, zero, suc, ◌+◌, ◌≤◌, List, [], ◌∷◌, ◌++◌, All, Some, length, map, refl, ap, sym, subst, ◌∙◌, arith}
use Rattle.std.specs.Prelude.{slice_get}
use Rattle.std.specs.List.{AllZip}
use Rattle.std.proofs.lemmas.List.{append_assoc, map-append}
use Rattle.std.proofs.lemmas.Option.{none-some}
use Rattle.std.proofs.lemmas.Slice.Zip.{AllZip-long}
use Rattle.vs_types.specs.Query.{IsQuery}
use Rattle.vs_types.specs.declared.requests.request.Query.{Query}
use Rattle.nr_ring.specs.Pass.{Known, TableId}
use Rattle.nr_node.proofs.Lists.{same_some}
use Rattle.nr_record.specs.Pen.{ClockId, PenState, new_pens}
use Rattle.nr_serve.specs.SegmentRun.{HasSeenMore}
use Rattle.nr_serve.specs.inside.Calls.{AreServed, IsServed, Since, WorkerState}
use Rattle.nr_serve.specs.inside.Ending.{passes_of}
use Rattle.nr_serve.specs.inside.Working.{IsDone, IsReadyJob, JobState, jobs_from}

-- ---- two lists, place by place

-- one handle is taken from the front, and what it represents put at the end
pub one_joined : {H : Type 0} (f : H → JobState) (joined : List JobState) (before rest all : List H) (h : H) → before ≡ h ∷ rest
    → joined ++ map f before ≡ map f all → (joined ++ f h ∷ []) ++ map f rest ≡ map f all
one_joined {H} f joined before rest all h steps split =
    append_assoc joined (f h ∷ []) (map f rest) ∙ ap (λ (l : List H). joined ++ map f l) (sym steps) ∙ split

-- a job is taken from the front, and a handle that represents it put at the end
pub one_started : {H : Type 0} (f : H → JobState) (handles more : List H) (h : H) (job : JobState) (jobs rest all : List JobState)
    → more ≡ handles ++ h ∷ [] → f h ≡ job → jobs ≡ job ∷ rest → map f handles ++ jobs ≡ all → map f more ++ rest ≡ all
one_started {H} f handles more h job jobs rest all items kept steps split =
    ap (λ (l : List H). map f l ++ rest) items
    ∙ ap (λ (l : List JobState). l ++ rest) (map-append f handles (h ∷ []))
    ∙ append_assoc (map f handles) (f h ∷ []) rest
    ∙ ap (λ (j : JobState). map f handles ++ j ∷ rest) kept
    ∙ ap (λ (l : List JobState). map f handles ++ l) (sym steps)
    ∙ split

-- jobs that were ready were done by the clock
pub done_by_clock : (clock : ClockId) (of : Since) (jobs : List JobState) (workers : List WorkerState) → All (IsReadyJob clock of.log) jobs
    → AllZip (λ job worker. IsDone job.pen.clock of job worker) jobs workers → AllZip (IsDone clock of) jobs workers
done_by_clock clock of [] [] ready each = tt
done_by_clock clock of (j ∷ jobs) (w ∷ workers) ready each = (
  subst (λ (c : ClockId). IsDone c of j w) (ap (λ (p : PenState). p.clock) (ready 0 j (omega arith)).pen_is) each.0,
  done_by_clock clock of jobs workers (λ k d lt. ready (suc k) d (omega (arith, lt))) each.1,
)
done_by_clock clock of _ _ ready each = absurd each

-- ---- jobs

pub pens_count : (clock : ClockId) (thread : ℕ) (quotas : List ℕ) → length (new_pens clock thread quotas) ≡ length quotas
pens_count clock thread [] = refl
pens_count clock thread (q ∷ quotas) = omega (arith, pens_count clock (thread + 1) quotas)

-- new pens, passes of the log, and scripts of well-formed requests are jobs that threads may do
pub jobs_ready : (clock : ClockId) (log : TableId) (thread : ℕ) (scripts : List (List Query)) (passes : List Known)
    → All (All (IsQuery clock.layout.depth)) scripts → All (λ pass. pass.log ≡ log) passes → thread + length scripts ≤ clock.layout.threads
    → All (IsReadyJob clock log) (jobs_from thread scripts (new_pens clock thread (map (λ script. length script) scripts)) passes)
jobs_ready clock log thread (s ∷ scripts) (p ∷ passes) fit of few zero d lt =
    record { pen_is = refl; of_log = of 0 p (omega arith); is_thread = omega (arith, few); well_formed = fit 0 s (omega arith) }
jobs_ready clock log thread (s ∷ scripts) (p ∷ passes) fit of few (suc k) d lt =
    jobs_ready clock log (thread + 1) scripts passes (λ i e l. fit (suc i) e (omega (arith, l))) (λ i e l. of (suc i) e (omega (arith, l)))
    (omega (arith, few)) k d (omega (arith, lt))
jobs_ready clock log thread _ _ fit of few k d lt = absurd (omega (arith, lt))

pub jobs_count : (thread : ℕ) (scripts : List (List Query)) (pens : List PenState) (passes : List Known) → length pens ≡ length scripts
    → length passes ≡ length scripts → length (jobs_from thread scripts pens passes) ≡ length scripts
jobs_count thread [] pens passes p q = refl
jobs_count thread (s ∷ scripts) (pen ∷ pens) (pass ∷ passes) p q =
    omega (arith, jobs_count (thread + 1) scripts pens passes (omega (arith, p)) (omega (arith, q)))
jobs_count thread (s ∷ scripts) [] passes p q = absurd (omega (arith, p))
jobs_count thread (s ∷ scripts) (pen ∷ pens) [] p q = absurd (omega (arith, q))

served_from : (clock : ClockId) (of : Since) (thread : ℕ) (scripts : List (List Query)) (pens : List PenState) (passes : List Known)
    (workers : List WorkerState) → length pens ≡ length scripts → length passes ≡ length scripts
    → AllZip (IsDone clock of) (jobs_from thread scripts pens passes) workers
    → (index : ℕ) (script : List Query) (worker : WorkerState) → slice_get scripts index ≡ Some script → slice_get workers index ≡ Some worker
    → IsServed clock of (thread + index) script worker
served_from clock of thread [] pens passes workers p q each index script worker here there = absurd (none-some script here)
served_from clock of thread (s ∷ scripts) [] passes workers p q each index script worker here there = absurd (omega (arith, p))
served_from clock of thread (s ∷ scripts) (pen ∷ pens) [] workers p q each index script worker here there = absurd (omega (arith, q))
served_from clock of thread (s ∷ scripts) (pen ∷ pens) (pass ∷ passes) [] p q each index script worker here there = absurd each
served_from clock of thread (s ∷ scripts) (pen ∷ pens) (pass ∷ passes) (w ∷ workers) p q each zero script worker here there =
    let n : thread ≡ thread + 0 = omega arith in
    subst (λ (t : ℕ). IsServed clock of t script worker) n
    (subst (λ (v : WorkerState). IsServed clock of thread script v) (same_some there)
    (subst (λ (l : List Query). IsServed clock of thread l w) (same_some here) each.0.0))
served_from clock of thread (s ∷ scripts) (pen ∷ pens) (pass ∷ passes) (w ∷ workers) p q each (suc index) script worker here there =
    let n : thread + 1 + index ≡ thread + suc index = omega arith in
    subst (λ (t : ℕ). IsServed clock of t script worker) n
    (served_from clock of (thread + 1) scripts pens passes workers (omega (arith, p)) (omega (arith, q)) each.1 index script worker here there)

-- the threads have done all jobs
pub all_served : (clock : ClockId) (of : Since) (scripts : List (List Query)) (pens : List PenState) (passes : List Known) (workers : List WorkerState)
    → length pens ≡ length scripts → length passes ≡ length scripts → AllZip (IsDone clock of) (jobs_from 0 scripts pens passes) workers
    → AreServed clock of scripts workers
all_served clock of scripts pens passes workers p q each = record {
  one_each = AllZip-long (IsDone clock of) (jobs_from 0 scripts pens passes) workers each ∙ jobs_count 0 scripts pens passes p q;
  each = λ index script worker here there.
      let n : 0 + index ≡ index = omega arith in
      subst (λ (t : ℕ). IsServed clock of t script worker) n
      (served_from clock of 0 scripts pens passes workers p q each index script worker here there);
}

-- and their passes have seen what they had seen, and perhaps more
pub all_heard : (clock : ClockId) (of : Since) (thread : ℕ) (scripts : List (List Query)) (pens : List PenState) (passes : List Known)
    (workers : List WorkerState) → length pens ≡ length scripts → length passes ≡ length scripts
    → AllZip (IsDone clock of) (jobs_from thread scripts pens passes) workers → AllZip HasSeenMore passes (passes_of workers)
all_heard clock of thread [] pens [] [] p q each = tt
all_heard clock of thread [] pens [] (w ∷ workers) p q each = absurd each
all_heard clock of thread [] pens (pass ∷ passes) workers p q each = absurd (omega (arith, q))
all_heard clock of thread (s ∷ scripts) [] passes workers p q each = absurd (omega (arith, p))
all_heard clock of thread (s ∷ scripts) (pen ∷ pens) [] workers p q each = absurd (omega (arith, q))
all_heard clock of thread (s ∷ scripts) (pen ∷ pens) (pass ∷ passes) [] p q each = absurd each
all_heard clock of thread (s ∷ scripts) (pen ∷ pens) (pass ∷ passes) (w ∷ workers) p q each =
    (each.0.1, all_heard clock of (thread + 1) scripts pens passes workers (omega (arith, p)) (omega (arith, q)) each.1)
