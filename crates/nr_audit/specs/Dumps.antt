-- The first fault of a dump's tables, by itself and as one of its replica.
use Rattle.std.specs.Prelude.{ℕ, Option, Some, None}
use Rattle.vs_plain.specs.Plain.{BoundedSpace}
use Rattle.vs_walk.specs.Dump.{Image}
use Rattle.nr_dump.specs.Faults.{IsFirstOfDump, HasNoFault}
use Rattle.nr_dump.specs.declared.fault.DumpFault.{DumpFault}
use Rattle.nr_dump.specs.declared.fault.DumpFault.TheVariants as dumps
use Rattle.nr_trace.specs.declared.refusals.fault.Fault.{Fault}
use Rattle.nr_trace.specs.declared.refusals.fault.Fault.TheVariants.{MissingFrame, SharedFrame, ReservedBit, StrayFrame, Differs}

-- the fault of a dump, with its replica
abbrev pub at_replica : ℕ → DumpFault → Fault
at_replica replica (dumps.MissingFrame number) = MissingFrame replica number
at_replica replica (dumps.SharedFrame number) = SharedFrame replica number
at_replica replica (dumps.ReservedBit number index) = ReservedBit replica number index
at_replica replica (dumps.StrayFrame number) = StrayFrame replica number
at_replica replica (dumps.Differs address) = Differs replica address

-- the first fault of the dump's tables beside the space, or none where nothing is wrong
abbrev pub IsFoundBeside : Image → BoundedSpace → Option DumpFault → Type 0
IsFoundBeside dump space None = HasNoFault space.depth dump space.space
IsFoundBeside dump space (Some fault) = IsFirstOfDump space.depth dump space.space fault
