-- What the laws of `src/laws.rt` say of orders.
use Rattle.std.specs.Prelude.{ℕ, ◌≤◌, List, length, Contains, ⊤}
use Rattle.vs_types.specs.Space.{Space, no_pages}
use Rattle.nr_trace.specs.Recording.{Recording}
use Rattle.nr_trace.specs.Orders.{HasItsCalls, HasAnswersFrom, recorded_order}
use Rattle.nr_trace.specs.declared.refusals.fault.Fault.{Fault}
use Rattle.nr_trace.specs.declared.refusals.fault.Fault.TheVariants.{ThreadOpen, NoSuchCall, AnsweredTwice, NotAnUpdate, PlacedTwice, NotPlaced, PastLog, WrongAnswer}
use Rattle.nr_trace.specs.Faults.{HasFault, HasFaultFrom, StandsAfter}

-- no fault holds of the events by themselves, of the log, or of a reply's place
pub record HasCleanLog (trace : Recording) : Type 0 where
  pub no_thread_open : (index : ℕ) → HasFault trace (ThreadOpen index) → ⊥
  pub no_such_call : (index : ℕ) → HasFault trace (NoSuchCall index) → ⊥
  pub none_twice : (index : ℕ) → HasFault trace (AnsweredTwice index) → ⊥
  pub updates_alone : (place : ℕ) → HasFault trace (NotAnUpdate place) → ⊥
  pub placed_once : (place : ℕ) → HasFault trace (PlacedTwice place) → ⊥
  pub all_placed : (index : ℕ) → HasFault trace (NotPlaced index) → ⊥
  pub none_past_log : (index : ℕ) → HasFault trace (PastLog index) → ⊥

-- the call comes after some entries of the log
abbrev pub Stands : Recording → ℕ → Type 0
Stands trace call = (entries : ℕ) × (entries ≤ length trace.log) × StandsAfter trace call entries

-- a legal order, but that a call answered before another was made may come after it
pub record IsSerialFrom (start : Space) (trace : Recording) (order : List ℕ) : Type 0 where
  pub members : HasItsCalls trace order
  pub answers : HasAnswersFrom start trace order

-- wrong answers are compared in the recorded order, so that the call has to be there
abbrev pub HasRank : Recording → Fault → Type 0
HasRank trace (WrongAnswer call) = Contains (recorded_order trace) call
HasRank trace fault = ⊤

-- no fault holds but perhaps one of the format
abbrev pub IsFaultlessFrom : Space → Recording → Type 0
IsFaultlessFrom start trace = (fault : Fault) → HasFaultFrom start trace fault → ⊥

-- no fault holds from no pages on
abbrev pub IsFaultless : Recording → Type 0
IsFaultless trace = IsFaultlessFrom no_pages trace
