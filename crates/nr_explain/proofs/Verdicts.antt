-- The verdict that an explanation has.
use Rattle.std.proofs.Common.{◌≡◌, ℕ, suc, ◌+◌, ◌-◌, ◌^◌, ◌≤◌, min, List, [], ◌∷◌, length, map, Option, Some, None, refl, sym, ap, ◌∙◌, subst, arith}
use Rattle.std.proofs.lemmas.List.{length-map}
use Rattle.nr_trace.specs.Recording.{Recording}
use Rattle.nr_trace.specs.Orders.{recorded_order}
use Rattle.nr_trace.specs.declared.refusals.fault.Fault.{Fault}
use Rattle.nr_chain.specs.Bytes.{EndsWith, GoesOnSo}
use Rattle.nr_explain.specs.Progress.{ChainState, run_in, state_after, sums_in}
use Rattle.nr_explain.specs.ChainExplanation.{GoesOnTo}

abbrev pub orders_in : List Recording → List (List ℕ)
orders_in segments = map recorded_order segments

-- right segments, and then the chain ends so
pub goes_on_so : (came last : Option ChainState) (bytes rest : List ℕ) (segments : List Recording) (found : Option Fault)
    → GoesOnTo came bytes segments last rest → EndsWith (run_in last) rest found → GoesOnSo (run_in came) bytes (orders_in segments) found
goes_on_so came last bytes rest [] found (same, left) ends =
    subst (λ (bs : List ℕ). EndsWith (run_in came) bs found) left
    (subst (λ (l : Option ChainState). EndsWith (run_in l) rest found) same ends)
goes_on_so came last bytes rest (segment ∷ more) found (behind, begins, sound, met, has_met, goes) ends = (
  segment,
  behind,
  begins,
  sound,
  refl,
  goes_on_so (Some (state_after came segment met (length begins.own))) last behind rest more found goes ends,
)

counted_more : (most a n : ℕ) → min (min (a + 1) most + n) most ≡ min (a + (n + 1)) most
counted_more most a n = omega arith

count_bound : (most a : ℕ) → a ≤ most → a ≡ min (a + 0) most
count_bound most a le = omega arith

-- how many they are
counted : (came last : Option ChainState) (bytes rest : List ℕ) (segments : List Recording) → (sums_in came).segments ≤ 2 ^ 64 - 1
    → GoesOnTo came bytes segments last rest → (sums_in last).segments ≡ min ((sums_in came).segments + length segments) (2 ^ 64 - 1)
counted came last bytes rest [] le (same, left) =
    ap (λ (l : Option ChainState). (sums_in l).segments) same ∙ count_bound (2 ^ 64 - 1) (sums_in came).segments le
counted came last bytes rest (segment ∷ more) le (behind, begins, sound, met, has_met, goes) =
    counted (Some (state_after came segment met (length begins.own))) last behind rest more
    (few (2 ^ 64 - 1) (sums_in came).segments) goes
    ∙ counted_more (2 ^ 64 - 1) (sums_in came).segments (length more)
    ∙ ap (λ (n : ℕ). min ((sums_in came).segments + n) (2 ^ 64 - 1)) (suc_more (length more)) where
      few : (most a : ℕ) → min (a + 1) most ≤ most
      few most a = omega arith

      suc_more : (n : ℕ) → n + 1 ≡ suc n
      suc_more n = omega arith

pub counted_all : (last : Option ChainState) (bytes rest : List ℕ) (segments : List Recording) → GoesOnTo None bytes segments last rest
    → (sums_in last).segments ≡ min (length (orders_in segments)) (2 ^ 64 - 1)
counted_all last bytes rest segments goes =
    counted None last bytes rest segments (omega arith) goes
    ∙ ap (λ (n : ℕ). min n (2 ^ 64 - 1)) (from_zero (length segments) ∙ sym (length-map segments recorded_order)) where
      from_zero : (n : ℕ) → 0 + n ≡ n
      from_zero n = omega arith
