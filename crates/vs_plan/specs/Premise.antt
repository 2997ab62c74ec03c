-- What a caller has to see to before it carries a plan out.
use Rattle.std.specs.Prelude.{◌≡◌, ◌≢◌, ℕ, suc, Some}
use Rattle.std.specs.FinMap as finite
use Rattle.vs_types.specs.Depth.{levels}
use Rattle.vs_types.specs.Space.{Space, IsSpace}
use Rattle.vs_types.specs.declared.addresses.depth.Depth.{Depth}
use Rattle.vs_arena.specs.Store.{zeros}
use Rattle.vs_walk.specs.Memory.{Memory, AreWhole}
use Rattle.vs_walk.specs.Walk.{TranslatesAs}
use Rattle.vs_space.specs.Path.{table_at, SamePath}

-- no other way leads to a table on the way of the address
pub record HasOwnWay (depth : Depth) (memory : Memory) (root address : ℕ) : Type 0 where
  pub once : (level number other b : ℕ) → table_at (levels depth) memory root level address ≡ Some number
      → table_at (levels depth) memory root other b ≡ Some number → (other ≡ level) × SamePath (levels depth) (suc level) address b

-- the frame's words are all 0, and no way leads to it
pub record IsSpare (depth : Depth) (memory : Memory) (root number : ℕ) : Type 0 where
  pub clear : finite.get memory number ≡ Some zeros
  pub unreached : (level b : ℕ) → table_at (levels depth) memory root level b ≢ Some number

-- each frame has 512 words, the memory translates as the space from the root on, and the way of the address is its own
pub record IsPremise (depth : Depth) (memory : Memory) (root address : ℕ) (space : Space) : Type 0 where
  pub whole : AreWhole memory
  pub is_space : IsSpace depth space
  pub translates : TranslatesAs depth memory root space
  pub own : HasOwnWay depth memory root address
