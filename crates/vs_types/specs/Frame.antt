-- Frames of page tables: 4,096 bytes (Intel SDM volume 3A, chapter "Paging": a table has 512 entries of 64 bits).
use Rattle.std.specs.Prelude.{◌≡◌, ℕ, ◌^◌, ◌<◌, List, length, All}
use Rattle.vs_types.specs.declared.addresses.frame.TheConstants.{FRAME_WORDS}

-- the words of a frame: 512 numbers of 64 bits
pub record IsFrame (words : List ℕ) : Type 0 where
  pub whole : length words ≡ FRAME_WORDS
  pub fit : All (λ word. word < 2 ^ 64) words
