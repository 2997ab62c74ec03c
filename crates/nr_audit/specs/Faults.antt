-- The faults of a segment behind a run, and which comes first.
use Rattle.std.specs.Prelude.{Option}
use Rattle.nr_trace.specs.Recording.{Recording}
use Rattle.nr_trace.specs.Faults.{Earlier, HasFaultFrom}
use Rattle.nr_trace.specs.declared.refusals.fault.Fault.{Fault}
use Rattle.nr_trace.specs.declared.refusals.fault.Fault.TheVariants.{StartMissing, StartShared, StartReserved, StartStray, StartBeyond, StartDiffers, Stale, Reachable}
use Rattle.nr_trace.specs.Run.{Run}
use Rattle.nr_audit.specs.Start.{begins_in, space_before, HasStartFault}
use Rattle.nr_audit.specs.Releases.{IsWrongAt}
use Rattle.nr_audit.specs.Touches.{HasRightTouches, IsStale}

-- what each fault but that of the format says of a segment, where that is the run before it, or no segment is
abbrev pub HasFaultAfter : Option Run → Recording → Fault → Type 0
HasFaultAfter before segment (StartMissing number) = HasStartFault (space_before before) segment (StartMissing number)
HasFaultAfter before segment (StartShared number) = HasStartFault (space_before before) segment (StartShared number)
HasFaultAfter before segment (StartReserved number index) = HasStartFault (space_before before) segment (StartReserved number index)
HasFaultAfter before segment (StartStray number) = HasStartFault (space_before before) segment (StartStray number)
HasFaultAfter before segment (StartBeyond base) = HasStartFault (space_before before) segment (StartBeyond base)
HasFaultAfter before segment (StartDiffers address) = HasStartFault (space_before before) segment (StartDiffers address)
HasFaultAfter before segment (Stale call) = IsStale before (begins_in before segment) segment call
HasFaultAfter before segment (Reachable call) = IsWrongAt before (begins_in before segment) segment call
HasFaultAfter before segment fault = HasFaultFrom (begins_in before segment) segment fault

-- the fault holds of the segment, and no earlier one does
pub record IsFirstAfter (before : Option Run) (segment : Recording) (fault : Fault) : Type 0 where
  pub holds : HasFaultAfter before segment fault
  pub none_earlier : (other : Fault) → HasFaultAfter before segment other → Earlier segment other fault → ⊥

-- no fault holds but perhaps one of the format
abbrev pub HasNoFaultAfter : Option Run → Recording → Type 0
HasNoFaultAfter before segment = (fault : Fault) → HasFaultAfter before segment fault → ⊥

-- none holds, and of each answered touch is known at which moment it was right
pub record IsSoundAfter (before : Option Run) (segment : Recording) : Type 0 where
  pub faultless : HasNoFaultAfter before segment
  pub touches : HasRightTouches before (begins_in before segment) segment
