-- What a search for some faults of a trace finds: none of them, or the first. No public clause cites this file.
use Rattle.std.specs.Prelude.{ℕ, ◌<◌, Option, Some, None}
use Rattle.vs_types.specs.Space.{Space, no_pages}
use Rattle.nr_trace.specs.Recording.{Recording}
use Rattle.nr_trace.specs.Faults.{HasFaultFrom, Earlier}
use Rattle.nr_trace.specs.declared.refusals.fault.Fault.{Fault}
use Rattle.nr_trace.specs.declared.refusals.fault.Fault.TheVariants.{Early, Stale, Reachable}
use Rattle.nr_trace.specs.Run.{Run}
use Rattle.nr_audit.specs.Releases.{IsWrongAt}
use Rattle.nr_audit.specs.Touches.{IsStale}
use Rattle.nr_audit.specs.inside.Passes.{IsFloorFault, IsFloorFaultAt}

-- what each fault behind the start but those of touches and releases says of a trace or a segment that begins with this space
abbrev pub HasFaultOn : Space → Recording → Fault → Type 0
HasFaultOn start trace fault = HasFaultFrom start trace fault

-- what each says of a segment behind a run
abbrev pub HasFaultBehind : Option Run → Space → Recording → Fault → Type 0
HasFaultBehind before start segment (Stale call) = IsStale before start segment call
HasFaultBehind before start segment (Reachable call) = IsWrongAt before start segment call
HasFaultBehind before start segment fault = HasFaultFrom start segment fault

abbrev pub HasNoFaultBehind : Option Run → Space → Recording → Type 0
HasNoFaultBehind before start segment = (fault : Fault) → HasFaultBehind before start segment fault → ⊥

-- the fault holds, and no earlier one does
pub record IsFirstBehind (before : Option Run) (start : Space) (segment : Recording) (fault : Fault) : Type 0 where
  pub holds : HasFaultBehind before start segment fault
  pub none_earlier : (other : Fault) → HasFaultBehind before start segment other → Earlier segment other fault → ⊥

abbrev pub HasNoFaultOn : Space → Recording → Type 0
HasNoFaultOn start trace = (fault : Fault) → HasFaultOn start trace fault → ⊥

-- the fault holds, and no earlier one does
pub record IsFirstOn (start : Space) (trace : Recording) (fault : Fault) : Type 0 where
  pub holds : HasFaultOn start trace fault
  pub none_earlier : (other : Fault) → HasFaultOn start trace other → Earlier trace other fault → ⊥

-- none of these faults holds of the trace from a start on
abbrev pub HasNoneFrom : Space → (Fault → Type 0) → Recording → Type 0
HasNoneFrom start Among trace = (fault : Fault) → Among fault → HasFaultOn start trace fault → ⊥

abbrev pub HasNone : (Fault → Type 0) → Recording → Type 0
HasNone Among trace = HasNoneFrom no_pages Among trace

-- the fault is one of these and holds of the trace from a start on, and no earlier one of these does
pub record IsFirstAmongFrom (start : Space) (Among : Fault → Type 0) (trace : Recording) (fault : Fault) : Type 0 where
  pub is_among : Among fault
  pub holds : HasFaultOn start trace fault
  pub none_earlier : (other : Fault) → Among other → HasFaultOn start trace other → Earlier trace other fault → ⊥

abbrev pub IsFirstAmong : (Fault → Type 0) → Recording → Fault → Type 0
IsFirstAmong Among trace fault = IsFirstAmongFrom no_pages Among trace fault

-- the fault of a stale touch, or else of a release that is wrong, if there is one
abbrev pub late_fault : Option ℕ → Option ℕ → Option Fault
late_fault (Some call) reachable = Some (Stale call)
late_fault None (Some call) = Some (Reachable call)
late_fault None None = None

-- the fault is the first behind any run, from each start on
abbrev pub IsFirstFromAny : Recording → Fault → Type 0
IsFirstFromAny trace fault = (before : Option Run) (start : Space) → IsFirstBehind before start trace fault

-- the first call that comes too early, or none below an index
abbrev pub FindsEarly : Recording → ℕ → Option ℕ → Type 0
FindsEarly trace index None = (lower : ℕ) → lower < index → HasNone (IsFloorFaultAt lower) trace
FindsEarly trace index (Some call) = IsFirstAmong IsFloorFault trace (Early call)
