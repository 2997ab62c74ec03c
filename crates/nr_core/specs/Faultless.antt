-- What the laws of `src/faultless.rt` and the contract of `run_steps` speak of.
use Rattle.std.specs.Prelude.{ℕ}
use Rattle.nr_trace.specs.Faults.{HasFault}
use Rattle.nr_trace.specs.Recording.{Recording}
use Rattle.nr_trace.specs.declared.refusals.fault.Fault.TheVariants.{PrefixPastLog, PrefixShort, MissingFrame, SharedFrame, ReservedBit, StrayFrame, Differs}
use Rattle.nr_core.specs.State.{State}
use Rattle.nr_core.specs.Run.{IsReachable, IsRecordingOf}

-- a recording of a state that some steps reach
abbrev pub IsRecordingOfSteps : Recording → Type 0
IsRecordingOfSteps trace = (state : State) × IsReachable state × IsRecordingOf state trace

-- no fault holds of a dump: of how many entries it says, of its table, of what it translates
pub record HasRightDumps (trace : Recording) : Type 0 where
  pub within : (replica : ℕ) → HasFault trace (PrefixPastLog replica) → ⊥
  pub enough : (replica : ℕ) → HasFault trace (PrefixShort replica) → ⊥
  pub none_missing : (replica number : ℕ) → HasFault trace (MissingFrame replica number) → ⊥
  pub none_shared : (replica number : ℕ) → HasFault trace (SharedFrame replica number) → ⊥
  pub none_reserved : (replica number index : ℕ) → HasFault trace (ReservedBit replica number index) → ⊥
  pub none_stray : (replica number : ℕ) → HasFault trace (StrayFrame replica number) → ⊥
  pub translates : (replica address : ℕ) → HasFault trace (Differs replica address) → ⊥
