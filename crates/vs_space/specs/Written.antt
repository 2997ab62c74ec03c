-- The words of a page table: each is the one that is written for what it says, but for flags that a processor sets.
use Rattle.std.specs.Prelude.{◌≡◌, ℕ, Some}
use Rattle.vs_types.specs.Bits.{IsWritten}
use Rattle.vs_types.specs.Depth.{levels}
use Rattle.vs_types.specs.declared.addresses.depth.Depth.{Depth}
use Rattle.vs_walk.specs.Memory.{Memory}
use Rattle.vs_space.specs.Held.{word_at}
use Rattle.vs_space.specs.Path.{table_at}

-- a frame is a table that is reached, and each of its words is written as an entry of its level
pub record IsWrittenTable (depth : Depth) (memory : Memory) (root number : ℕ) : Type 0 where
  pub level : ℕ
  pub address : ℕ
  pub reached : table_at (levels depth) memory root level address ≡ Some number
  pub written : (index word : ℕ) → word_at memory number index ≡ Some word → IsWritten level word
