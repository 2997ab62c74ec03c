-- The words of a frame of which all are borrowed, or those that are not 0. No public clause cites this file.
use Rattle.std.specs.Prelude.{◌≡◌, ◌≢◌, ℕ, ◌<◌, ◌≤◌, List, length, slice_index}
use Rattle.vs_types.specs.declared.addresses.frame.TheConstants.{FRAME_WORDS}
use Rattle.vs_walk.specs.declared.frame_words.Borrowed.{Borrowed}
use Rattle.vs_walk.specs.declared.frame_words.Borrowed.TheVariants.{Whole, Nonzero}
use Rattle.vs_walk.specs.declared.frame_words.NextWord.{NextWord}
use Rattle.vs_walk.specs.inside.Kept.{IsKept, filled}
use Rattle.vs_walk.specs.inside.Traversed.{AreZeros}

abbrev pub all_words : Borrowed → List ℕ
all_words (Whole words) = words.now
all_words (Nonzero places words) = filled 0 places.now words.now FRAME_WORDS

abbrev pub AreBorrowed : Borrowed → Type 0
AreBorrowed (Whole words) = length words.now ≡ FRAME_WORDS
AreBorrowed (Nonzero places words) = IsKept places.now words.now FRAME_WORDS

-- the first of these places that is `start` or above is the one of this index
pub record IsFrom (places : List ℕ) (start at : ℕ) : Type 0 where
  pub within : at ≤ length places
  pub below : (k : ℕ) → k < at → slice_index places k < start
  pub from : (k : ℕ) → at ≤ k → k < length places → start ≤ slice_index places k

-- the first word from `start` on that is not 0, or the end of the frame
pub record IsNext (words : List ℕ) (start : ℕ) (next : NextWord) : Type 0 where
  pub behind : start ≤ next.index
  pub within : next.index ≤ FRAME_WORDS
  pub zeros : AreZeros words start next.index
  pub found : next.index < FRAME_WORDS → slice_index words next.index ≢ 0
  pub word : next.word ≡ slice_index words next.index
