-- The frames of a memory that are not among some of its frames.
use Rattle.std.proofs.Common.{◌≡◌, ◌≢◌, ℕ, ◌+◌, ◌<◌, List, [], ◌∷◌, length, get_or, ⊎_elim, sym, ap, subst, ◌∙◌, arith, Contains, nat_eq}
use Rattle.std.specs.Prelude.{All, IsSome, slice_index}
use Rattle.std.specs.FinMap as finite
use Rattle.std.specs.List.{AllPairs, IsDistinct}
use Rattle.std.proofs.lemmas.Bool.{cases_lt, eqb-true}
use Rattle.std.proofs.lemmas.Bool.Decides.{Decides-eqb}
use Rattle.std.proofs.lemmas.Cmp.{nat_eq_equiv, eq_by_cmp_equiv}
use Rattle.std.specs.Cmp.{nat_cmp_total}
use Rattle.std.proofs.lemmas.List.{get_or-map, get_or_default, length-map}
use Rattle.std.proofs.lemmas.List.Elements.{Contains-get_or}
use Rattle.std.proofs.lemmas.List.Kept.{AllPairs-cons}
use Rattle.std.proofs.lemmas.Map.Made.{length-le_from_is_member, is_member-Decides, IsDistinct-from_AllPairs}
use Rattle.std.proofs.lemmas.Map.Views.{Contains-from_any, list_any-from_Contains}
use Rattle.vs_types.proofs.Lists.{Contains-cases}
use Rattle.vs_types.proofs.Spaces.{same_key, is_true}
use Rattle.vs_walk.specs.Memory.{Memory}
use Rattle.vs_walk.specs.Differences.{IsLeast}
use Rattle.vs_walk.proofs.Dumps.{numbers_rise}
use Rattle.nr_dump.specs.inside.Checking.{IsOutside}

-- ---- the numbers of a memory's frames

pub held_listed : (memory : Memory) (number : ℕ) → IsSome (finite.get memory number) → Contains (finite.keys memory) number
held_listed memory number held =
    Contains-from_any (λ x y same. eqb-true x y (sym (same_key x y) ∙ same)) number (finite.keys memory) (sym (finite.contains_key-keys memory number) ∙ held)

-- the frames of which each is among some
abbrev pub AllAmong : Memory → List ℕ → Type 0
AllAmong memory numbers = (j : ℕ) → j < finite.len memory → Contains numbers (slice_index (finite.keys memory) j)

count_is : (memory : Memory) → finite.len memory ≡ length (finite.keys memory)
count_is memory = finite.len-entries memory ∙ sym (length-map (finite.entries memory) (λ (e : ℕ × List ℕ). e.0))

keys_rise : (memory : Memory) (i j : ℕ) → i < j → j < finite.len memory → slice_index (finite.keys memory) i < slice_index (finite.keys memory) j
keys_rise memory i j less within =
    let within_entries : j < length (finite.entries memory) = subst (λ n. j < n) (finite.len-entries memory) within in
    let rise = numbers_rise (finite.entries memory) i j (0, []) (is_true _ (finite.entries_sorted memory)) less within_entries in
    let left = get_or-map (λ (e : ℕ × List ℕ). e.0) (finite.entries memory) i (0, []) in
    let right = get_or-map (λ (e : ℕ × List ℕ). e.0) (finite.entries memory) j (0, []) in
    omega arith

-- where a frame is among them
place_of : (memory : Memory) (number : ℕ) → IsSome (finite.get memory number)
    → (j : ℕ) × (j < finite.len memory) × (slice_index (finite.keys memory) j ≡ number)
place_of memory number held =
    let at = held_listed memory number held in
    (at.0, omega (arith, at.1, count_is memory), get_or_default (finite.keys memory) at.0 0 number at.1 ∙ at.2)

at_place : (memory : Memory) (j : ℕ) → j < finite.len memory → IsSome (finite.get memory (slice_index (finite.keys memory) j))
at_place memory j within =
    let number : ℕ = slice_index (finite.keys memory) j in
    finite.contains_key-keys memory number
    ∙ list_any-from_Contains (eq_by_cmp_equiv nat_cmp_total) number (finite.keys memory)
    (Contains-get_or (finite.keys memory) j 0 (omega (arith, count_is memory)))

-- ---- one after another

pub none_outside : (memory : Memory) (numbers : List ℕ) → AllAmong memory numbers → (number : ℕ) → IsOutside memory numbers number → ⊥
none_outside memory numbers among number outside =
    let at = place_of memory number outside.0 in
    outside.1 (subst (Contains numbers) at.2 (among at.0 at.1))

pub least_outside : (memory : Memory) (numbers : List ℕ) (k : ℕ) → ((j : ℕ) → j < k → Contains numbers (slice_index (finite.keys memory) j))
    → k < finite.len memory → (Contains numbers (slice_index (finite.keys memory) k) → ⊥)
    → IsLeast (IsOutside memory numbers) (slice_index (finite.keys memory) k)
least_outside memory numbers k among within not = ((at_place memory k within, not), earlier) where
  earlier : (other : ℕ) → other < slice_index (finite.keys memory) k → IsOutside memory numbers other → ⊥
  earlier other less outside =
      let at = place_of memory other outside.0 in
      ⊎_elim
      (λ low. outside.1 (subst (Contains numbers) at.2 (among at.0 low)))
      (λ high. ⊎_elim
      (λ above. let rise = keys_rise memory k at.0 above at.1 in omega (arith, at.2, rise, less))
      (λ same. let one : at.0 ≡ k = omega arith in let equal : slice_index (finite.keys memory) k ≡ other =
      subst (λ j. slice_index (finite.keys memory) j ≡ other) one at.2 in omega arith)
      (cases_lt k at.0))
      (cases_lt at.0 k)

-- ---- by their count

pub none_by_count : (memory : Memory) (numbers : List ℕ) → AllPairs (λ a b. a < b) numbers
    → ((number : ℕ) → Contains numbers number → IsSome (finite.get memory number)) → length numbers ≡ finite.len memory
    → (number : ℕ) → IsOutside memory numbers number → ⊥
none_by_count memory numbers rising held count number outside =
    let more = length-le_from_is_member nat_eq_equiv (number ∷ numbers) (finite.keys memory) distinct (λ q among.
    (is_member-Decides Decides-eqb (finite.keys memory) q).1 (within q ((is_member-Decides Decides-eqb (number ∷ numbers) q).0 among))) in
    let counted = count_is memory in
    omega arith
  where
    apart : AllPairs (λ x y. x ≢ y) (number ∷ numbers)
    apart = AllPairs-cons (λ x y. x ≢ y) number numbers
        (λ i d lt same. outside.1 (subst (Contains numbers) (sym same) (Contains-get_or numbers i d lt)))
        (λ i j d lt within same. let less = rising i j d lt within in omega (arith, same, less))

    distinct : IsDistinct nat_eq (number ∷ numbers)
    distinct = IsDistinct-from_AllPairs Decides-eqb (number ∷ numbers) apart

    within : (q : ℕ) → Contains (number ∷ numbers) q → Contains (finite.keys memory) q
    within q has = held_listed memory q (⊎_elim
        (λ same. subst (λ n. IsSome (finite.get memory n)) same outside.0)
        (λ later. held q later)
        (Contains-cases number numbers q has))

-- ---- a number above the last one

pub last_below_all : (memory : Memory) (last number : ℕ) → finite.len memory ≡ last + 1 → slice_index (finite.keys memory) last < number
    → All (λ held. held < number) (finite.keys memory)
last_below_all memory last number count below i d within =
    let counted = count_is memory in
    let is : get_or (finite.keys memory) i d ≡ slice_index (finite.keys memory) i = get_or_default (finite.keys memory) i d 0 within in
    ⊎_elim
    (λ less. let rise = keys_rise memory i last less (omega arith) in omega arith)
    (λ last_or_more. let one : i ≡ last = omega arith in let same : slice_index (finite.keys memory) i ≡ slice_index (finite.keys memory) last =
    ap (slice_index (finite.keys memory)) one in omega arith)
    (cases_lt i last)

pub none_below_all : (memory : Memory) (number : ℕ) → finite.len memory ≡ 0 → All (λ held. held < number) (finite.keys memory)
none_below_all memory number empty i d within = let counted = count_is memory in absurd (omega arith)
