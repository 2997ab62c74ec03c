-- How an arena's frames are laid out, each with a mark that says whether it is in use.
use Rattle.std.specs.Prelude.{◌≡◌, ℕ, suc, zero, ◌+◌, ◌^◌, ◌<◌, ◌≤◌, Bool, false, List, [], length, slice_index, slice_index_or, All, Option, Some, None, refl}
use Rattle.std.specs.Prelude.{if◌then◌else◌}
use Rattle.std.specs.Coded.{Coded, code_by, coded×, coded_ℕ, coded_list}
use Rattle.std.specs.FinMap as finite
use Rattle.std.specs.Ordering.{nat_cmp}
use Rattle.vs_types.specs.declared.limits.TheConstants.{TABLES}
use Rattle.vs_types.specs.Frame.{IsFrame}
use Rattle.vs_arena.specs.Store.{Store, Notes, zeros}
use Rattle.vs_arena.specs.Arena.{Arena}

abbrev pub arena_code : Coded Arena
arena_code = code_by (ℕ × (ℕ × (Store × Notes)))
    (coded× coded_ℕ (coded× coded_ℕ (coded× (finite.code {R = nat_cmp} coded_ℕ (coded_list coded_ℕ)) (finite.code {R = nat_cmp} coded_ℕ coded_ℕ))))
    (λ a. (a.base, (a.size, (a.frames, a.notes)))) (λ p. record { base = p.0; size = p.1.0; frames = p.1.1.0; notes = p.1.1.1 }) (λ _. refl)

-- what there is at an index, put in where there is something
abbrev pub with_some : {X : Type 0} → finite.FinMap nat_cmp X → ℕ → Option X → finite.FinMap nat_cmp X
with_some map index None = map
with_some map index (Some x) = finite.insert map index x

-- what there is at the indexes below n, as this gives it
unfoldable pub all_below : {X : Type 0} → ℕ → (ℕ → Option X) → finite.FinMap nat_cmp X
all_below zero at = finite.empty
all_below (suc n) at = with_some (all_below n at) n (at n)

-- what there is at an index that is marked
abbrev pub marked : {X : Type 0} → X → List Bool → List X → ℕ → Option X
marked blank marks xs index = if slice_index_or marks index false then Some (slice_index_or xs index blank) else None

-- the frames that are marked as in use
abbrev pub marked_frames : List Bool → List (List ℕ) → Store
marked_frames marks words = all_below (length marks) (marked [] marks words)

-- the notes of the frames that are marked as in use
abbrev pub marked_notes : List Bool → List ℕ → Notes
marked_notes marks notes = all_below (length marks) (marked 0 marks notes)

-- a frame that was freed: it isn't in use, and its words are 0
pub record IsGivenBack (words : List (List ℕ)) (marks : List Bool) (index : ℕ) : Type 0 where
  pub within : index < length marks
  pub unmarked : slice_index_or marks index false ≡ false
  pub clear : slice_index_or words index [] ≡ zeros

-- how an arena is laid out: of the frames that were ever taken, which come first, the words, a mark and the note of each,
-- and a list of those that were freed
pub record IsArena (base size : ℕ) (words : List (List ℕ)) (marks : List Bool) (notes free : List ℕ) : Type 0 where
  pub few_frames : size ≤ TABLES
  pub numbers_fit : base + size ≤ 2 ^ 40
  pub ever_taken : length marks ≤ size
  pub words_for_each : length words ≡ length marks
  pub notes_for_each : length notes ≡ length marks
  pub whole_frames : All IsFrame words
  pub given_back : (k : ℕ) → k < length free → IsGivenBack words marks (slice_index free k)
  pub given_once : (j k : ℕ) → j < length free → k < length free → slice_index free j ≡ slice_index free k → j ≡ k
  pub counted : finite.len (marked_frames marks words) + length free ≡ length marks

-- vectors of these capacities have room for what is kept of so many frames
pub record HasRoom (size for_marks for_notes for_free : ℕ) : Type 0 where
  pub marks : size ≤ for_marks
  pub notes : size ≤ for_notes
  pub free : size ≤ for_free
