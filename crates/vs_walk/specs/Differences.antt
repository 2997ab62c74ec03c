-- What is wrong with a dump beside a space: each of its five faults as a statement.
use Rattle.std.specs.Prelude.{◌≡◌, ◌≢◌, ℕ, ◌<◌, Contains, IsSome, Some}
use Rattle.std.specs.FinMap as finite
use Rattle.vs_types.specs.Depth.{IsCanonical}
use Rattle.vs_types.specs.Space.{Space}
use Rattle.vs_types.specs.Step.{look}
use Rattle.vs_types.specs.declared.addresses.depth.Depth.{Depth}
use Rattle.vs_walk.specs.Dump.{Image}
use Rattle.vs_walk.specs.Memory.{Memory}
use Rattle.vs_walk.specs.Traversal.{traversal, reached, walk_fault}
use Rattle.vs_walk.specs.Walk.{walk, as_walk}
use Rattle.vs_walk.specs.declared.walk.WalkFault.TheVariants.{Missing, Shared, Reserved}

-- the memory has the frame, and the traversal does not reach it
abbrev pub IsStray : Depth → Memory → ℕ → ℕ → Type 0
IsStray depth memory root number = IsSome (finite.get memory number) × (Contains (reached (traversal depth memory root)) number → ⊥)

-- the canonical address is translated otherwise than it looks in the space
abbrev pub TranslatesOtherwise : Depth → Memory → ℕ → Space → ℕ → Type 0
TranslatesOtherwise depth memory root space address =
    IsCanonical depth address × (walk depth memory root address ≢ as_walk (look space address))

-- the least number with the property
abbrev pub IsLeast : (ℕ → Type 0) → ℕ → Type 0
IsLeast P n = P n × ((other : ℕ) → other < n → P other → ⊥)

-- the first fault of the dump's traversal is that this frame is missing
abbrev pub HasMissingFrame : Depth → Image → ℕ → Type 0
HasMissingFrame depth dump number = walk_fault depth dump.frames dump.root ≡ Some (Missing number)

-- it is that this frame is reached a second time
abbrev pub HasSharedFrame : Depth → Image → ℕ → Type 0
HasSharedFrame depth dump number = walk_fault depth dump.frames dump.root ≡ Some (Shared number)

-- it is that the word of this frame at this index has a reserved bit set
abbrev pub HasReservedBit : Depth → Image → ℕ → ℕ → Type 0
HasReservedBit depth dump number index = walk_fault depth dump.frames dump.root ≡ Some (Reserved number index)

-- the least frame of the dump that the traversal does not reach
abbrev pub HasStrayFrame : Depth → Image → ℕ → Type 0
HasStrayFrame depth dump number = IsLeast (IsStray depth dump.frames dump.root) number

-- the least canonical address that the dump translates otherwise than it looks in the space
abbrev pub HasDifference : Depth → Image → Space → ℕ → Type 0
HasDifference depth dump space address = IsLeast (TranslatesOtherwise depth dump.frames dump.root space) address
