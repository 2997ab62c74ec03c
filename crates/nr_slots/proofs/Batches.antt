-- A batch that rises still rises with an update of a later thread at its end.
use Rattle.std.proofs.Common.{◌≡◌, ℕ, ◌+◌, ◌<◌, ◌≤◌, zero, suc, List, [], ◌∷◌, ◌++◌, map, length, get_or, All, ⊎_elim, ap, ◌∙◌, arith}
use Rattle.std.proofs.Math.ListN.{get_or-append, length-append}
use Rattle.std.proofs.Math.Nat.{eq-or-lt_of_le}
use Rattle.std.proofs.Math.Seq.{get_or-append_seam}
use Rattle.std.proofs.lemmas.List.{map-append}
use Rattle.std.proofs.lemmas.List.Elements.{All-append, All-map}
use Rattle.std.specs.List.Sorted.{IsStrictlyIncreasing}
use Rattle.nr_slots.specs.Batch.{Rises}
use Rattle.nr_slots.specs.Updates.{Waiting}

at_seam : (xs : List ℕ) (n i : ℕ) → i ≡ length xs → get_or (xs ++ n ∷ []) i 0 ≡ n
at_seam xs n i e = ap (λ j. get_or (xs ++ n ∷ []) j 0) e ∙ get_or-append_seam xs n [] 0

increasing_snoc : (xs : List ℕ) (n : ℕ) → IsStrictlyIncreasing xs → All (λ x. x < n) xs → IsStrictlyIncreasing (xs ++ n ∷ [])
increasing_snoc xs n rising below k lt =
    let within : k + 1 ≤ length xs = omega (arith, length-append xs (n ∷ [])) in
    let here : get_or (xs ++ n ∷ []) k 0 ≡ get_or xs k 0 = get_or-append xs (n ∷ []) 0 k (omega arith) in
    ⊎_elim
    (λ (e : k + 1 ≡ length xs). let next = at_seam xs n (k + 1) e in let less = below k 0 (omega arith) in omega (arith, here, next, less))
    (λ (l : k + 1 < length xs). let next = get_or-append xs (n ∷ []) 0 (k + 1) l in let less = rising k l in omega (arith, here, next, less))
    (eq-or-lt_of_le within)

only : (Holds : Waiting → Type 0) (w : Waiting) → Holds w → All Holds (w ∷ [])
only Holds w holds zero d l = holds
only Holds w holds (suc k) d l = absurd (omega arith)

rises_snoc : (batch : List Waiting) (w : Waiting) → Rises batch → All (λ x. x.thread < w.thread) batch → Rises (batch ++ w ∷ [])
rises_snoc batch w rising below =
    rw map-append (increasing_snoc (map (λ x. x.thread) batch) w.thread rising (All-map (λ x. x < w.thread) (λ x. x.thread) batch below))

-- a batch of threads below a number, which rises, and of whose updates a rule holds
pub record RisesBelow (Holds : Waiting → Type 0) (n : ℕ) (batch : List Waiting) : Type 0 where
  pub rising : Rises batch
  pub below : All (λ x. x.thread < n) batch
  pub rule : All Holds batch

pub one_more : (Holds : Waiting → Type 0) (n : ℕ) (before after : List Waiting) (w : Waiting) → after ≡ before ++ w ∷ [] → w.thread ≡ n → Holds w
    → RisesBelow Holds n before → RisesBelow Holds (n + 1) after
one_more Holds n before after w e at holds is =
    let earlier : All (λ x. x.thread < w.thread) before = rw at is.below in
    rw e (record {
      rising = rises_snoc before w is.rising earlier;
      below = All-append (λ x. x.thread < n + 1) before (w ∷ []) (λ k d l. let b = is.below k d l in omega arith)
          (only (λ x. x.thread < n + 1) w (omega arith));
      rule = All-append Holds before (w ∷ []) is.rule (only Holds w holds);
    })

pub same : (Holds : Waiting → Type 0) (n : ℕ) (before after : List Waiting) → after ≡ before → RisesBelow Holds n before → RisesBelow Holds (n + 1) after
same Holds n before after e is =
    rw e (record { rising = is.rising; below = λ k d l. let b = is.below k d l in omega arith; rule = is.rule })
