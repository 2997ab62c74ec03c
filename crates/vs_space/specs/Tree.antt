-- What holds of the tables of a memory: they are a tree.
use Rattle.std.specs.Prelude.{◌≡◌, ℕ, suc, ◌<◌, Some, IsSome}
use Rattle.std.specs.FinMap as finite
use Rattle.vs_types.specs.Depth.{levels, IsCanonical}
use Rattle.vs_types.specs.Entry.{all_rights}
use Rattle.vs_types.specs.declared.addresses.depth.Depth.{Depth}
use Rattle.vs_types.specs.declared.addresses.page.Rights.{Rights}
use Rattle.vs_types.specs.declared.entries.entry.Meaning.TheVariants as entry
use Rattle.vs_walk.specs.Memory.{Memory}
use Rattle.vs_walk.specs.Walk.{walk}
use Rattle.vs_walk.specs.declared.walk.Walk.TheVariants.{NotMapped}
use Rattle.vs_space.specs.Held.{word_at}
use Rattle.vs_space.specs.Path.{found_at, table_at, SamePath}
use Rattle.vs_types.specs.Bits.{IsWritten}

-- the tables that are reached are in use, no two paths lead to one, and entries that lead to tables allow everything
pub record IsTree (top : ℕ) (memory : Memory) (root : ℕ) : Type 0 where
  pub in_use : (level a n : ℕ) → table_at top memory root level a ≡ Some n → IsSome (finite.get memory n)
  pub once : (j k a b n : ℕ) → table_at top memory root j a ≡ Some n → table_at top memory root k b ≡ Some n → (j ≡ k) × SamePath top (suc j) a b
  pub allows : (level a n next : ℕ) (own : Rights) → table_at top memory root level a ≡ Some n
      → found_at level memory n a ≡ Some (entry.Table next own) → own ≡ all_rights

-- no address that takes the entries of this one, from the root down to this level, is mapped
abbrev pub NothingUnder : Depth → Memory → ℕ → ℕ → ℕ → Type 0
NothingUnder depth memory root level a = (b : ℕ) → IsCanonical depth b → SamePath (levels depth) level a b → walk depth memory root b ≡ NotMapped

-- each table below the root has an address that is mapped
pub record IsFilled (depth : Depth) (memory : Memory) (root : ℕ) : Type 0 where
  pub filled : (level a n : ℕ) → level < levels depth → table_at (levels depth) memory root level a ≡ Some n
      → NothingUnder depth memory root (suc level) a → ⊥

-- each word of a frame is written as an entry of this level
abbrev pub AreWritten : ℕ → Memory → ℕ → Type 0
AreWritten level memory number = (index word : ℕ) → word_at memory number index ≡ Some word → IsWritten level word

-- each frame in use is a table that is reached, with its words as written
pub record IsReached (top : ℕ) (memory : Memory) (root : ℕ) : Type 0 where
  pub path : (n : ℕ) → IsSome (finite.get memory n) → (level : ℕ) × (a : ℕ) × (table_at top memory root level a ≡ Some n) × AreWritten level memory n
