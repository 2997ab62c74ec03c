-- Memories: some frames by number, each with its 512 words.
use Rattle.std.specs.Prelude.{◌≡◌, ℕ, List, length, Some}
use Rattle.std.specs.FinMap as finite
use Rattle.std.specs.FinMap.{FinMap}
use Rattle.std.specs.Ordering.{nat_cmp}
use Rattle.vs_types.specs.declared.addresses.frame.TheConstants.{FRAME_WORDS}

abbrev pub Memory : Type 0
Memory = FinMap nat_cmp (List ℕ)

-- each frame has 512 words
abbrev pub AreWhole : Memory → Type 0
AreWhole memory = (number : ℕ) (words : List ℕ) → finite.get memory number ≡ Some words → length words ≡ FRAME_WORDS
