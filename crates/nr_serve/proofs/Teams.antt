-- The pens and passes that all threads hand back.
use Rattle.std.proofs.lemmas.Simd.{map-map}
use Rattle.std.proofs.Common.{◌≡◌, ℕ, ◌+◌, ◌<◌, ◌≤◌, List, All, length, get_or, map, sum, ap, sym, subst, ◌∙◌, arith}
use Rattle.std.specs.Prelude.{Some, slice_get}
use Rattle.std.specs.List.{range_with_len, sum_by}
use Rattle.std.proofs.lemmas.List.{get_or-map, length-map, same_lists}
use Rattle.std.proofs.lemmas.List.Elements.{All-map}
use Rattle.std.proofs.lemmas.List.FromFn.{get_or-range_with_len, length-range_with_len}
use Rattle.std.proofs.lemmas.List.Sums.{get_or-le-sum_by, sum-map}
use Rattle.std.proofs.lemmas.Option.{get_or_from_slice_get, slice_get-get_or}
use Rattle.vs_types.specs.declared.requests.request.Query.{Query}
use Rattle.nr_ring.specs.Pass.{Known, TableId}
use Rattle.nr_record.specs.Pen.{AreAllPens, ClockId, PenState}
use Rattle.nr_serve.specs.inside.Calls.{AreServed, IsServed, Since, WorkerState, since}
use Rattle.nr_serve.specs.inside.Ending.{passes_of, pens_of}
use Rattle.vs_types.proofs.Lists.{item_of}

-- the thread of this number, its script, and what it has done
record IsAt (clock : ClockId) (of : Since) (scripts : List (List Query)) (workers : List WorkerState) (k : ℕ) (worker : WorkerState) : Type 0 where
  script : List Query
  at : slice_get scripts k ≡ Some script
  served : IsServed clock of k script worker

is_at : (clock : ClockId) (of : Since) (scripts : List (List Query)) (workers : List WorkerState) → AreServed clock of scripts workers
    → (k : ℕ) (d : WorkerState) → k < length workers → IsAt clock of scripts workers k (get_or workers k d)
is_at clock of scripts workers all k d lt =
    let its = item_of scripts k (omega (arith, lt, all.one_each)) in
    record { script = its.0; at = its.1; served = all.each k its.0 (get_or workers k d) its.1 (slice_get-get_or workers k d lt) }

pub all_of_log : (clock : ClockId) (of : Since) (scripts : List (List Query)) (workers : List WorkerState) → AreServed clock of scripts workers
    → All (λ pass. pass.log ≡ of.log) (passes_of workers)
all_of_log clock of scripts workers all =
    All-map (λ (pass : Known). pass.log ≡ of.log) (λ (w : WorkerState). w.pass) workers
    (λ k d lt. (is_at clock of scripts workers all k d lt).served.of_log)

threads_are : (clock : ClockId) (of : Since) (scripts : List (List Query)) (workers : List WorkerState) → AreServed clock of scripts workers
    → length scripts ≡ clock.layout.threads → map (λ pen. pen.thread) (pens_of workers) ≡ range_with_len 0 clock.layout.threads
threads_are clock of scripts workers all each =
    let n = clock.layout.threads in
    let thread_of = λ (pen : PenState). pen.thread in
    let pens = pens_of workers in
    let long : length (map thread_of pens) ≡ length workers =
    length-map pens thread_of ∙ length-map workers (λ (w : WorkerState). w.pen) in
    same_lists (map thread_of pens) (range_with_len 0 n) (long ∙ all.one_each ∙ each ∙ sym (length-range_with_len 0 n))
    (λ k d lt.
    let within : k < length workers = omega (arith, lt, long) in
    let w = (item_of workers k within).0 in
    let is = (is_at clock of scripts workers all k w within).served.of_thread in
    let there = length-map workers (λ (v : WorkerState). v.pen) in
    let counted : get_or (range_with_len 0 n) k d ≡ 0 + k = get_or-range_with_len 0 n k d (omega (arith, within, all.one_each, each)) in
    let from : k ≡ 0 + k = omega arith in
    get_or-map thread_of pens k w.pen d (omega (arith, within, there))
    ∙ ap thread_of (get_or-map (λ (v : WorkerState). v.pen) workers k w w.pen within) ∙ is ∙ from ∙ sym counted)

quotas_are : (clock : ClockId) (of : Since) (scripts : List (List Query)) (workers : List WorkerState) → AreServed clock of scripts workers
    → map (λ pen. pen.quota) (pens_of workers) ≡ map (λ script. length script) scripts
quotas_are clock of scripts workers all =
    let quota_of = λ (pen : PenState). pen.quota in
    let length_of = λ (script : List Query). length script in
    let pens = pens_of workers in
    let long : length (map quota_of pens) ≡ length workers =
    length-map pens quota_of ∙ length-map workers (λ (w : WorkerState). w.pen) in
    same_lists (map quota_of pens) (map length_of scripts) (long ∙ all.one_each ∙ sym (length-map scripts length_of))
    (λ k d lt.
    let within : k < length workers = omega (arith, lt, long) in
    let w = (item_of workers k within).0 in
    let is = is_at clock of scripts workers all k w within in
    let there = length-map workers (λ (v : WorkerState). v.pen) in
    let script_is : get_or scripts k is.script ≡ is.script = get_or_from_slice_get scripts k is.script is.script is.at in
    get_or-map quota_of pens k w.pen d (omega (arith, within, there))
    ∙ ap quota_of (get_or-map (λ (v : WorkerState). v.pen) workers k w w.pen within) ∙ is.served.quota
    ∙ ap length_of (sym script_is) ∙ sym (get_or-map length_of scripts k is.script d (omega (arith, within, all.one_each))))

-- the pens that the threads hand back are all of the clock
pub all_pens : (clock : ClockId) (of : Since) (scripts : List (List Query)) (workers : List WorkerState) → AreServed clock of scripts workers
    → length scripts ≡ clock.layout.threads → clock.calls ≡ sum (map (λ script. length script) scripts) → AreAllPens clock (pens_of workers)
all_pens clock of scripts workers all each calls = record {
  of_clock = All-map (λ (pen : PenState). pen.clock ≡ clock) (λ (w : WorkerState). w.pen) workers
      (λ k d lt. (is_at clock of scripts workers all k d lt).served.of_clock);
  threads = threads_are clock of scripts workers all each;
  quotas = sym (sum-map (λ (pen : PenState). pen.quota) (pens_of workers))
      ∙ ap (λ (xs : List ℕ). sum xs) (quotas_are clock of scripts workers all) ∙ sym calls;
}

-- the lengths of the scripts, by the lists that they are seen as
pub sum_lengths : {V : Type 0} (f : V → List Query) (xs : List V) → sum_by (λ script. length script) (map f xs) ≡ sum (map (λ x. length (f x)) xs)
sum_lengths f xs =
    let length_of = λ (script : List Query). length script in
    sym (sum-map length_of (map f xs)) ∙ ap (λ (ns : List ℕ). sum ns) (map-map length_of f xs)

pub all_few : {V : Type 0} (f : V → List Query) (xs : List V) (n : ℕ) → sum_by (λ script. length script) (map f xs) ≤ n → All (λ x. length (f x) ≤ n) xs
all_few f xs n few = λ k d lt.
    omega (arith, few, sum_lengths f xs, sum-map (λ x. length (f x)) xs, get_or-le-sum_by (λ x. length (f x)) xs k d lt)

-- the quotas that are passed are the lengths of the scripts
pub quotas_of_scripts : {V : Type 0} (f : V → List Query) (xs : List V) (ys : List V) (quotas passed : List ℕ) → passed ≡ quotas
    → quotas ≡ map (λ x. length (f x)) ys → ys ≡ xs → passed ≡ map (λ script. length script) (map f xs)
quotas_of_scripts {V} f xs ys quotas passed same are is =
    same ∙ are ∙ ap (λ (l : List V). map (λ x. length (f x)) l) is ∙ sym (map-map (λ (script : List Query). length script) f xs)

-- places that are counted from 0 are those of the log
pub from_the_first : (clock : ClockId) (log : TableId) (base : ℕ) (scripts : List (List Query)) (workers : List WorkerState) → base ≡ 0
    → AreServed clock (since log base) scripts workers → AreServed clock (since log 0) scripts workers
from_the_first clock log base scripts workers none served = subst (λ (b : ℕ). AreServed clock (since log b) scripts workers) none served
