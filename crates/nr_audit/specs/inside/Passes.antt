-- The faults by the pass that looks for them, and where in that pass they are. No public clause cites this file.
use Rattle.std.specs.Prelude.{◌≡◌, ℕ, ⊤}
use Rattle.nr_trace.specs.declared.refusals.fault.Fault.{Fault}
use Rattle.nr_trace.specs.declared.refusals.fault.Fault.TheVariants.{ThreadOpen, NoSuchCall, AnsweredTwice, NotAnUpdate, PlacedTwice, NotPlaced, PastLog, Early}
use Rattle.nr_trace.specs.declared.refusals.fault.Fault.TheVariants.{WrongAnswer, PrefixPastLog, PrefixShort, MissingFrame, SharedFrame, ReservedBit, StrayFrame}
use Rattle.nr_trace.specs.declared.refusals.fault.Fault.TheVariants.{Differs, Stale, Reachable}

-- a fault of calls and replies, at the event of this index
abbrev pub IsCallFaultAt : ℕ → Fault → Type 0
IsCallFaultAt index (ThreadOpen event) = event ≡ index
IsCallFaultAt index (NoSuchCall event) = event ≡ index
IsCallFaultAt index (AnsweredTwice event) = event ≡ index
IsCallFaultAt index fault = ⊥

-- a fault of the log, at this place
abbrev pub IsLogFaultAt : ℕ → Fault → Type 0
IsLogFaultAt place (NotAnUpdate at) = at ≡ place
IsLogFaultAt place (PlacedTwice at) = at ≡ place
IsLogFaultAt place fault = ⊥

-- a fault of the position that a reply gives, at the event of this index
abbrev pub IsPositionFaultAt : ℕ → Fault → Type 0
IsPositionFaultAt index (NotPlaced event) = event ≡ index
IsPositionFaultAt index (PastLog event) = event ≡ index
IsPositionFaultAt index fault = ⊥

-- a fault of precedence, of the call of this number
abbrev pub IsFloorFaultAt : ℕ → Fault → Type 0
IsFloorFaultAt index (Early call) = call ≡ index
IsFloorFaultAt index fault = ⊥

-- a fault of the dump of this replica
abbrev pub IsDumpFaultAt : ℕ → Fault → Type 0
IsDumpFaultAt replica (PrefixPastLog at) = at ≡ replica
IsDumpFaultAt replica (PrefixShort at) = at ≡ replica
IsDumpFaultAt replica (MissingFrame at number) = at ≡ replica
IsDumpFaultAt replica (SharedFrame at number) = at ≡ replica
IsDumpFaultAt replica (ReservedBit at number index) = at ≡ replica
IsDumpFaultAt replica (StrayFrame at number) = at ≡ replica
IsDumpFaultAt replica (Differs at address) = at ≡ replica
IsDumpFaultAt replica fault = ⊥

abbrev pub IsCallFault : Fault → Type 0
IsCallFault fault = (index : ℕ) × IsCallFaultAt index fault

abbrev pub IsLogFault : Fault → Type 0
IsLogFault fault = (place : ℕ) × IsLogFaultAt place fault

abbrev pub IsPositionFault : Fault → Type 0
IsPositionFault fault = (index : ℕ) × IsPositionFaultAt index fault

abbrev pub IsAnswerFault : Fault → Type 0
IsAnswerFault (WrongAnswer call) = ⊤
IsAnswerFault fault = ⊥

abbrev pub IsTouchFault : Fault → Type 0
IsTouchFault (Stale call) = ⊤
IsTouchFault fault = ⊥

abbrev pub IsReleaseFault : Fault → Type 0
IsReleaseFault (Reachable call) = ⊤
IsReleaseFault fault = ⊥

abbrev pub IsFloorFault : Fault → Type 0
IsFloorFault fault = (call : ℕ) × IsFloorFaultAt call fault

abbrev pub IsDumpFault : Fault → Type 0
IsDumpFault fault = (replica : ℕ) × IsDumpFaultAt replica fault
