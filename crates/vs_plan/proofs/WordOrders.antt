-- Stores that fill absent entries, and stores of 0.
use Rattle.std.proofs.Common.{◌≡◌, ◌≢◌, ℕ, ◌%◌, ◌<◌, ◌≤◌, List, [], length, Option, Some, IsSome, ◌⊎◌, inl, inr, ⊎_elim, refl, sym, ap, subst, ◌∙◌, arith}
use Rattle.std.specs.Prelude.{option_map, unwrap_or, slice_index, slice_set}
use Rattle.std.proofs.lemmas.Bool.{cases_eq, cases_lt}
use Rattle.std.proofs.lemmas.List.{get_or-set_same, get_or_past}
use Rattle.std.proofs.Common.{length-set}
use Rattle.std.specs.FinMap as finite
use Rattle.vs_types.specs.Depth.{index_at}
use Rattle.vs_types.specs.declared.entries.entry.Meaning.TheVariants as entry
use Rattle.vs_walk.specs.Memory.{Memory}
use Rattle.vs_space.specs.Held.{word_at, with_word}
use Rattle.vs_space.specs.Path.{found_at}
use Rattle.vs_space.proofs.Writes.{found_elsewhere, get_written}
use Rattle.vs_plan.proofs.Orders.{IsLess}
use Rattle.vs_plan.proofs.Stored.{found_word, used_word, even_absent}

-- what isn't the word that is stored is found as before
pub elsewhere_or_here : (level : ℕ) (memory : Memory) (frame index word number address : ℕ) → IsSome (finite.get memory frame)
    → (found_at level (with_word memory frame index word) number address ≡ found_at level memory number address)
    ⊎ ((number ≡ frame) × (index_at level address ≡ index))
elsewhere_or_here level memory frame index word number address used = ⊎_elim
    (λ (same : number ≡ frame). ⊎_elim
    (λ (at : index_at level address ≡ index). inr (same, at))
    (λ (apart : index_at level address ≢ index). inl (found_elsewhere level memory frame index word number address used (λ e. apart)))
    (cases_eq (index_at level address) index))
    (λ (other : number ≢ frame). inl (found_elsewhere level memory frame index word number address used (λ e. absurd (other e))))
    (cases_eq number frame)

pub fill_is_more : (memory : Memory) (frame index old word : ℕ) → word_at memory frame index ≡ Some old → old % 2 ≡ 0
    → IsLess memory (with_word memory frame index word)
fill_is_more memory frame index old word told even level number address = ⊎_elim
    (λ same. inl (sym same))
    (λ here. inr (subst (λ n. found_at level memory n address ≡ Some entry.Absent) (sym here.0)
    (found_word level memory frame address old (ap (word_at memory frame) here.1 ∙ told) ∙ ap Some (even_absent level old even))))
    (elsewhere_or_here level memory frame index word number address (used_word memory frame index old told))

-- a frame with 0 at an index has 0 there
zero_set : (words : List ℕ) (index : ℕ) → slice_index (slice_set words index 0) index ≡ 0
zero_set words index = ⊎_elim
    (λ (lt : index < length words). get_or-set_same words index 0 0 lt)
    (λ (le : length words ≤ index). get_or_past (slice_set words index 0) index 0 (omega (arith, length-set words index 0)))
    (cases_lt index (length words))

zero_word : (memory : Memory) (frame index : ℕ) → word_at (with_word memory frame index 0) frame index ≡ Some 0
unfolding word_at
zero_word memory frame index = ap (λ (o : Option (List ℕ)). option_map (λ words. slice_index words index) o) (get_written memory frame index 0)
    ∙ ap Some (zero_set (unwrap_or (finite.get memory frame) []) index)

pub clear_is_less : (memory : Memory) (frame index : ℕ) → IsSome (finite.get memory frame) → IsLess (with_word memory frame index 0) memory
clear_is_less memory frame index used level number address = ⊎_elim
    (λ same. inl same)
    (λ here. inr (subst (λ n. found_at level (with_word memory frame index 0) n address ≡ Some entry.Absent) (sym here.0)
    (found_word level (with_word memory frame index 0) frame address 0
    (ap (word_at (with_word memory frame index 0) frame) here.1 ∙ zero_word memory frame index)
    ∙ ap Some (even_absent level 0 refl))))
    (elsewhere_or_here level memory frame index 0 number address used)
