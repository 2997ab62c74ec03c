-- Which words of tables are 0: those of absent entries, and no others.
use Rattle.std.proofs.Common.{◌≡◌, ◌≢◌, ℕ, List, Some, None, refl, sym, ap, subst, ◌∙◌}
use Rattle.std.specs.Prelude.{IsSome, slice_index}
use Rattle.std.specs.FinMap as finite
use Rattle.std.proofs.lemmas.Option.{same_Some}
use Rattle.vs_types.specs.Depth.{index_at}
use Rattle.vs_types.specs.Entry.{meaning}
use Rattle.vs_types.specs.declared.entries.entry.Meaning.{Meaning}
use Rattle.vs_types.specs.declared.entries.entry.Meaning.TheVariants as entry
use Rattle.vs_arena.specs.Store.{zeros}
use Rattle.vs_walk.specs.Memory.{Memory}
use Rattle.vs_space.specs.Held.{word_at, with_word}
use Rattle.vs_space.specs.Path.{found_at}
use Rattle.vs_space.specs.Tree.{AreWritten}
use Rattle.vs_types.proofs.Maps.{get-insert_same, get-insert_other}
use Rattle.vs_space.proofs.Paths.{words_found}
use Rattle.vs_space.proofs.Writes.{get_written_other}
use Rattle.vs_space.proofs.Links.{zeros_are}
use Rattle.vs_space.proofs.Written.{word_alike, written_for}
use Rattle.vs_space.proofs.Descents.{entry_read}
use Rattle.vs_space.proofs.Prunes.{word_in}

-- a word that says something isn't 0
pub some_word : (level : ℕ) {word : ℕ} {e : Meaning} → meaning level word ≡ e → e ≢ entry.Absent → word ≢ 0
some_word level says other none = other (sym says ∙ ap (meaning level) none)

-- nor is the word of an entry that isn't absent
pub present_word : (level : ℕ) (m : Memory) (n a : ℕ) {index : ℕ} {e : Meaning} → found_at level m n a ≡ Some e → e ≢ entry.Absent → index ≡ index_at level a
    → word_at m n index ≢ Some 0
present_word level m n a found other is none = other (same_Some _ _ (sym found ∙ entry_read level m n a none is refl))

-- the word of an absent entry is
pub absent_word : (level : ℕ) (m : Memory) (n a : ℕ) {index : ℕ} → AreWritten level m n → found_at level m n a ≡ Some entry.Absent → index ≡ index_at level a
    → word_at m n index ≡ Some 0
absent_word level m n a written found is =
    let words = words_found level m n a entry.Absent found in
    let here = word_in m n (index_at level a) words.0 words.1 in
    let zero : slice_index words.0 (index_at level a) ≡ 0 = written_for (written (index_at level a) _ here) words.2 in
    ap (λ i. word_at m n i) is ∙ here ∙ ap Some zero

-- a frame in use isn't one that is free
apart : (m : Memory) (n f : ℕ) → IsSome (finite.get m n) → finite.get m f ≡ None → n ≢ f
apart m n f used free same = let none : IsSome {T = List ℕ} None = subst IsSome (ap (finite.get m) same ∙ free) used in cc

-- the words of a frame in use stay as another is taken
pub word_as_taken : (m : Memory) (n f index : ℕ) → IsSome (finite.get m n) → finite.get m f ≡ None
    → word_at (finite.insert m f zeros) n index ≡ word_at m n index
word_as_taken m n f index used free = word_alike m _ n index (get-insert_other m f zeros n (apart m n f used free))

-- and those of the one that was taken are 0 when a word of the first is written
pub word_of_taken : (m : Memory) (n f i w index : ℕ) → IsSome (finite.get m n) → finite.get m f ≡ None
    → word_at (with_word (finite.insert m f zeros) n i w) f index ≡ Some 0
word_of_taken m n f i w index used free =
    word_in _ f index zeros (get_written_other _ n i w f (λ same. apart m n f used free (sym same)) ∙ get-insert_same m f zeros) ∙ ap Some (zeros_are index)
