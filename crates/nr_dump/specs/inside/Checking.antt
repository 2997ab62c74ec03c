-- Inside the check of a dump. No public clause cites this.
use Rattle.std.specs.Prelude.{ℕ, List, Contains, IsSome}
use Rattle.std.specs.FinMap as finite
use Rattle.vs_walk.specs.Memory.{Memory}
use Rattle.vs_walk.specs.declared.walk.WalkFault.{WalkFault}
use Rattle.vs_walk.specs.declared.walk.WalkFault.TheVariants as walks
use Rattle.nr_dump.specs.declared.fault.DumpFault.{DumpFault}
use Rattle.nr_dump.specs.declared.fault.DumpFault.TheVariants.{MissingFrame, SharedFrame, ReservedBit}

-- a fault of the traversal, as one of the dump
abbrev pub of_walk : WalkFault → DumpFault
of_walk (walks.Missing number) = MissingFrame number
of_walk (walks.Shared number) = SharedFrame number
of_walk (walks.Reserved number index) = ReservedBit number index

-- the memory has the frame, and it is none of these
abbrev pub IsOutside : Memory → List ℕ → ℕ → Type 0
IsOutside memory numbers number = IsSome (finite.get memory number) × (Contains numbers number → ⊥)
