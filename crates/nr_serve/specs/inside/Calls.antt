-- What the calls of one thread were, what came of them, and what the thread knows of the log.
use Rattle.std.specs.Prelude.{◌≡◌, ℕ, ◌+◌, List, [], ◌∷◌, All, Some, flat_map, length, map, slice_get, take, ⊤}
use Rattle.vs_types.specs.Config.{Layout}
use Rattle.vs_types.specs.Step.{allow, look}
use Rattle.vs_types.specs.declared.requests.answer.Answer as answers
use Rattle.vs_types.specs.declared.requests.request.Query.{Query}
use Rattle.vs_types.specs.declared.requests.request.Query.TheVariants.{Update, Resolve, Access}
use Rattle.nr_trace.specs.declared.recordings.event.Event.TheVariants.{Reply}
use Rattle.nr_ring.specs.LogHistory.{Log, IsLogHistory, log_after}
use Rattle.nr_ring.specs.Pass.{Known, TableId}
use Rattle.nr_replicas.specs.Replicas.{IsAnsweredAt, IsReadAt}
use Rattle.nr_record.specs.Pen.{ClockId, PenState, call_by, stamped}
use Rattle.nr_record.specs.declared.stamped.Stamped.{Stamped}
use Rattle.nr_serve.specs.Run.{HasAllOrStopped, StopsLast}
use Rattle.nr_serve.specs.declared.endings.call_outcome.CallOutcome.{CallOutcome}
use Rattle.nr_serve.specs.declared.endings.call_outcome.CallOutcome.TheVariants.{Answer, Stopped}

-- of which log the calls are, and the place from which on theirs are counted
pub record Since : Type 0 where
  pub log : TableId
  pub from : ℕ

abbrev pub since : TableId → ℕ → Since
since log from = record { log = log; from = from }

-- what a thread hands back: its pen, its pass, and what came of each of its calls
pub record WorkerState : Type 0 where
  pub pen : PenState
  pub pass : Known
  pub said : List CallOutcome

-- a call that a thread made: what it asked, the call's number, what came of it, and the stamp of the reply where there is one
pub record MadeCall : Type 0 where
  pub request : Query
  pub number : ℕ
  pub said : CallOutcome
  pub replied : ℕ

-- the note of the reply to a call
abbrev pub reply_notes : ℕ → ℕ → CallOutcome → List Stamped
reply_notes number replied (Answer at answer) = stamped replied (Reply number at answer) ∷ []
reply_notes number replied Stopped = []

-- the notes of a call: that it is made, and behind that its reply, where it was answered
abbrev pub notes_of : Layout → ℕ → MadeCall → List Stamped
notes_of layout thread call =
    stamped call.number (call_by layout thread call.request) ∷ reply_notes call.number call.replied call.said

-- an answer is true of a log: an update is at this place, with its call's number; a read saw no more entries than there
-- are; and the answer is what the address space gives there
abbrev pub IsTrueAt : Layout → Log → ℕ → Query → ℕ → answers.Answer → Type 0
IsTrueAt layout log number (Update action) place answer =
    IsAnsweredAt layout.depth layout.tables 0 log (record { call = number; op = action }) place answer
IsTrueAt layout log number (Resolve address) place answer =
    IsReadAt layout.depth layout.tables 0 log (λ space. look space address) place answer
IsTrueAt layout log number (Access address mode access) place answer =
    IsReadAt layout.depth layout.tables 0 log (λ space. allow space address mode access) place answer

-- what came of a call is true of a log, where its places are counted from this one on
abbrev pub IsTrueOf : Layout → ℕ → Log → ℕ → Query → CallOutcome → Type 0
IsTrueOf layout from log number request Stopped = ⊤
IsTrueOf layout from log number request (Answer at answer) = IsTrueAt layout log number request (from + at) answer

-- a thread has done what its script asks. Its calls are a beginning of the script, in order; its pen has noted them, each with its
-- reply; what came of each is true of the log that its pass has seen
pub record IsServed (clock : ClockId) (of : Since) (thread : ℕ) (script : List Query) (worker : WorkerState) : Type 0 where
  pub of_clock : worker.pen.clock ≡ clock
  pub of_thread : worker.pen.thread ≡ thread
  pub quota : worker.pen.quota ≡ length script
  pub of_log : worker.pass.log ≡ of.log
  pub history : IsLogHistory clock.layout.depth clock.layout.replicas worker.pass.view.seen
  pub calls : List MadeCall
  pub requests : map (λ call. call.request) calls ≡ take (length calls) script
  pub said : worker.said ≡ map (λ call. call.said) calls
  pub notes : worker.pen.made ≡ flat_map (notes_of clock.layout thread) calls
  pub stops_last : StopsLast worker.said
  pub to_the_end : HasAllOrStopped script worker.said
  pub true_calls : All (λ call. IsTrueOf clock.layout of.from (log_after clock.layout.replicas worker.pass.view.seen) call.number call.request call.said) calls

-- each thread has done what its script asks
pub record AreServed (clock : ClockId) (of : Since) (scripts : List (List Query)) (workers : List WorkerState) : Type 0 where
  pub one_each : length workers ≡ length scripts
  pub each : (thread : ℕ) (script : List Query) (worker : WorkerState) → slice_get scripts thread ≡ Some script → slice_get workers thread ≡ Some worker
      → IsServed clock of thread script worker
