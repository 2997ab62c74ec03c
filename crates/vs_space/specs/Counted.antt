-- How many words of each frame in use aren't 0, as the frame's note.
use Rattle.std.specs.Prelude.{◌≡◌, ℕ, zero, suc, ◌+◌, List, [], ◌∷◌, Some}
use Rattle.std.specs.FinMap as finite
use Rattle.vs_arena.specs.Store.{Store, Notes, note_of}

-- 1 for a word that isn't 0
abbrev pub one_for : ℕ → ℕ
one_for zero = 0
one_for (suc word) = 1

-- how many words aren't 0
abbrev pub nonzero_count : List ℕ → ℕ
nonzero_count [] = 0
nonzero_count (word ∷ words) = one_for word + nonzero_count words

-- the note of each frame in use is how many of its words aren't 0
pub record IsCounted (store : Store) (notes : Notes) : Type 0 where
  pub counts : (frame : ℕ) (words : List ℕ) → finite.get store frame ≡ Some words → note_of notes frame ≡ nonzero_count words
