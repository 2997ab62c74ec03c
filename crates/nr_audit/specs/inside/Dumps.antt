-- What is wrong with the dumps of a trace, as far as they have been compared. No public clause cites this file.
use Rattle.std.specs.Prelude.{◌≡◌, ◌≢◌, ℕ, ◌+◌, ◌<◌, ◌≤◌, ◌⊎◌, List, length, take, slice_get, slice_index_or, Option, Some, None}
use Rattle.vs_types.specs.Space.{Space}
use Rattle.vs_plain.specs.Plain.{BoundedSpace}
use Rattle.vs_walk.specs.Dump.{Image}
use Rattle.nr_dump.specs.declared.fault.DumpFault.{DumpFault}
use Rattle.nr_trace.specs.Recording.{Recording}
use Rattle.nr_trace.specs.Orders.{space_from, updates, recorded_order}
use Rattle.nr_audit.specs.Dumps.{IsFoundBeside}
use Rattle.nr_audit.specs.Verdict.{space_of}

-- the same beside the space after as many entries as the dump has applied
abbrev pub IsFoundIn : Space → Recording → Image → Option DumpFault → Type 0
IsFoundIn start trace dump found = IsFoundBeside dump (space_of trace.layout (space_from start trace (take dump.applied trace.log))) found

-- by replica, what is found in each dump that has applied fewer entries than these
pub record AreFound (start : Space) (trace : Recording) (end : ℕ) (faults : List (Option DumpFault)) : Type 0 where
  pub four : length faults ≡ 4
  pub each : (replica : ℕ) (dump : Image) → slice_get trace.dumps replica ≡ Some dump → dump.applied < end
      → IsFoundIn start trace dump (slice_index_or faults replica None)

-- of the replicas below an end, those whose dumps have applied just so many entries have been compared with a space, and no other
pub record AreCompared (trace : Recording) (space : BoundedSpace) (applied end : ℕ) (old new : List (Option DumpFault)) : Type 0 where
  pub as_many : length new ≡ length old
  pub found : (replica : ℕ) (dump : Image) → replica < end → slice_get trace.dumps replica ≡ Some dump → dump.applied ≡ applied
      → IsFoundBeside dump space (slice_index_or new replica None)
  pub kept : (replica : ℕ) (dump : Image) → slice_get trace.dumps replica ≡ Some dump → (end ≤ replica) ⊎ (dump.applied ≢ applied)
      → slice_index_or new replica None ≡ slice_index_or old replica None

-- a call that is at a place of the log passes it, with the dumps that have applied so much compared; another call passes none
pub record HasPassed (trace : Recording) (space : BoundedSpace) (place call next : ℕ) (old new : List (Option DumpFault)) : Type 0 where
  pub placed : slice_get trace.log place ≡ Some call → (next ≡ place + 1) × AreCompared trace space place (length trace.dumps) old new
  pub other : (slice_get trace.log place ≢ Some call) → (next ≡ place) × (new ≡ old)

-- after so many calls of the recorded order: the updates among them are those of the first places, and what is found in the
-- dumps that have applied fewer entries
pub record HasReached (start : Space) (trace : Recording) (calls places : ℕ) (faults : List (Option DumpFault)) : Type 0 where
  pub within : places ≤ length trace.log
  pub passed : updates trace (take calls (recorded_order trace)) ≡ take places trace.log
  pub found : AreFound start trace places faults

-- the space is that after the whole log, and what is found in the dumps that have applied less
pub record IsServed (start : Space) (trace : Recording) (space : BoundedSpace) (faults : List (Option DumpFault)) : Type 0 where
  pub whole : space ≡ space_of trace.layout (space_from start trace trace.log)
  pub found : AreFound start trace (length trace.log) faults
