-- The accessed flag and the dirty flag of an entry, bits 5 and 6, which a processor sets as it translates (Intel SDM volume 3A, chapter
-- "Paging": accessed and dirty flags).
use Rattle.std.specs.Prelude.{◌≡◌, ◌≢◌, ℕ, List, Some}
use Rattle.std.specs.FinMap as finite
use Rattle.std.specs.Int.{bit_at}
use Rattle.std.specs.List.{AllZip}
use Rattle.vs_types.specs.Bits.{flags_in}
use Rattle.vs_arena.specs.Store.{Store}
use Rattle.vs_walk.specs.Memory.{Memory}
use Rattle.vs_space.specs.Held.{word_at}

-- a word is as it was, but for the two flags where it is present
pub record IsSameButFlags (old new : ℕ) : Type 0 where
  pub absent : bit_at old 0 ≡ 0 → new ≡ old
  pub bits : (bit : ℕ) → bit ≢ 5 → bit ≢ 6 → bit_at new bit ≡ bit_at old bit

-- the same frames are in use, and each of their words is as it was, but for the two flags where it is present
pub record AreSameButFlags (old new : Store) : Type 0 where
  pub frames : (frame : ℕ) → finite.contains_key new frame ≡ finite.contains_key old frame
  pub words : (frame : ℕ) (before after : List ℕ) → finite.get old frame ≡ Some before → finite.get new frame ≡ Some after
      → AllZip IsSameButFlags before after

-- each word that has one of the two flags had it before: none was given a flag
pub record AddsNoFlags (old new : Memory) : Type 0 where
  pub stood : (number index word : ℕ) → word_at new number index ≡ Some word → flags_in word ≢ 0 → word_at old number index ≡ Some word
