-- The faults that need no order, by where they are, while they are looked for. No public clause cites this file.
use Rattle.std.specs.Prelude.{◌≡◌, ℕ, ◌<◌, Option, Some, None, ⊤}
use Rattle.vs_types.specs.Space.{no_pages}
use Rattle.vs_types.specs.declared.addresses.depth.Depth.{Depth}
use Rattle.vs_walk.specs.Dump.{Image}
use Rattle.nr_dump.specs.Faults.{rank_in_dump, HoldsOfDump, IsFirstOfDump}
use Rattle.nr_dump.specs.declared.fault.DumpFault.{DumpFault}
use Rattle.nr_trace.specs.Recording.{Recording}
use Rattle.nr_trace.specs.declared.refusals.fault.Fault.{Fault}
use Rattle.nr_trace.specs.declared.refusals.fault.Fault.TheVariants.{ThreadOpen, NoSuchCall, AnsweredTwice, MissingFrame, SharedFrame, ReservedBit, StrayFrame}
use Rattle.nr_audit.specs.inside.Search.{HasNone, IsFirstAmong}

-- a fault of the events by themselves
abbrev pub IsOfEvents : Fault → Type 0
IsOfEvents (ThreadOpen index) = ⊤
IsOfEvents (NoSuchCall index) = ⊤
IsOfEvents (AnsweredTwice index) = ⊤
IsOfEvents fault = ⊥

-- a fault of the tables of this replica's dump by themselves
abbrev pub IsOfTables : ℕ → Fault → Type 0
IsOfTables replica (MissingFrame at number) = at ≡ replica
IsOfTables replica (SharedFrame at number) = at ≡ replica
IsOfTables replica (ReservedBit at number index) = at ≡ replica
IsOfTables replica (StrayFrame at number) = at ≡ replica
IsOfTables replica fault = ⊥

-- a fault of the tables of some dump
abbrev pub IsOfSomeTables : Fault → Type 0
IsOfSomeTables fault = (replica : ℕ) × IsOfTables replica fault

-- what is found where the first of some faults is looked for
abbrev pub IsFoundAmong : (Fault → Type 0) → Recording → Option Fault → Type 0
IsFoundAmong Among trace None = HasNone Among trace
IsFoundAmong Among trace (Some fault) = IsFirstAmong Among trace fault

-- what is found in the tables of a dump by themselves: nothing, or the first fault that is none of a translation, which alone speaks of a space
abbrev pub IsFoundAlone : Depth → Image → Option DumpFault → Type 0
IsFoundAlone depth dump None = (fault : DumpFault) → rank_in_dump fault < 3 → HoldsOfDump depth dump no_pages fault → ⊥
IsFoundAlone depth dump (Some fault) = (rank_in_dump fault < 3) × IsFirstOfDump depth dump no_pages fault
