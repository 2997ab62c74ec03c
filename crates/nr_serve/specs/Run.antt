-- What a run is given, and what it has to show for it.
use Rattle.std.specs.Prelude.{◌≡◌, ℕ, ◌+◌, ◌≤◌, ◌==◌, ◌⊎◌, List, [], ◌∷◌, ◌++◌, All, Some, false, length, map, take, filter, slice_get, ⊤}
use Rattle.std.specs.Option.{option_map_or}
use Rattle.vs_types.specs.Config.{Layout}
use Rattle.vs_types.specs.declared.requests.op.Action.{Action}
use Rattle.vs_types.specs.declared.requests.request.Query.{Query}
use Rattle.nr_audit.specs.Headline.{AreRightWith, IsSpelledWith}
use Rattle.nr_trace.specs.declared.recordings.event.Asked.TheVariants as askeds
use Rattle.nr_trace.specs.Calls.{Invocation, IsRead, Response, call_of, operation_of, reply_to}
use Rattle.nr_trace.specs.Faults.{IsFirstOf}
use Rattle.nr_trace.specs.Laws.{IsFaultless}
use Rattle.nr_trace.specs.Orders.{below, recorded_order}
use Rattle.nr_trace.specs.Recording.{Recording}
use Rattle.nr_trace.specs.declared.refusals.fault.Fault.{Fault}
use Rattle.nr_ring.specs.LogHistory.{IsLogHistory, log_after}
use Rattle.nr_ring.specs.Pass.{Known, TableId}
use Rattle.nr_ring.specs.View.{StartsWith}
use Rattle.nr_ring.specs.declared.ring.log_event.LogEvent.{LogEvent}
use Rattle.nr_record.specs.Pen.{home_of}
use Rattle.nr_serve.specs.declared.endings.outcome.Outcome.{Outcome}
use Rattle.nr_serve.specs.declared.endings.outcome.Outcome.TheVariants.{Refused, Verified}
use Rattle.nr_serve.specs.declared.endings.call_outcome.CallOutcome.{CallOutcome}
use Rattle.nr_serve.specs.declared.endings.call_outcome.CallOutcome.TheVariants.{Answer, Stopped}

-- the calls of a thread, in order
abbrev pub calls_of : Recording → ℕ → List ℕ
calls_of trace thread = filter (λ call. option_map_or (λ made. made.thread == thread) (call_of trace call) false) (below (length trace.events))

-- a thread asks something, at its replica
abbrev pub asked_by : Layout → ℕ → Query → Invocation
asked_by layout thread request = record { replica = home_of layout thread; thread = thread; asked = askeds.Request request }

-- what came of a call: its reply's answer, and where it was reached; or it has none
abbrev pub said_of : Recording → ℕ → CallOutcome
said_of trace call = option_map_or (λ reply. Answer reply.at reply.answer) (reply_to trace call) Stopped

-- only the last call was stopped
abbrev pub StopsLast : List CallOutcome → Type 0
StopsLast said = (index : ℕ) → slice_get said index ≡ Some Stopped → index + 1 ≡ length said

-- there is an item for every request, or the items end with a call that was stopped
abbrev pub HasAllOrStopped : List Query → List CallOutcome → Type 0
HasAllOrStopped script said = (length said ≡ length script) ⊎ ((front : List CallOutcome) × (said ≡ front ++ Stopped ∷ []))

-- the thread's calls ask a beginning of its script, in order, at its replica. There is an item for each of them: where it was answered
-- and how, or that it was stopped, which only the last was; and an item for every request, or the last was stopped
pub record AreCallsOf (trace : Recording) (thread : ℕ) (script : List Query) (items : List CallOutcome) : Type 0 where
  pub asked : map (call_of trace) (calls_of trace thread)
      ≡ map (λ request. Some (asked_by trace.layout thread request)) (take (length (calls_of trace thread)) script)
  pub said : items ≡ map (said_of trace) (calls_of trace thread)
  pub stops_last : StopsLast items
  pub to_the_end : HasAllOrStopped script items

-- a thread's pass has seen all on which the thread's answers depend: of each answered update its place, where that call is with its
-- operation; and as many entries as each answered read saw
pub record HasSeenAnswers (trace : Recording) (thread : ℕ) (pass : Known) : Type 0 where
  pub updates : (call : ℕ) (made : Invocation) (action : Action) (reply : Response) → call_of trace call ≡ Some made → made.thread ≡ thread
      → operation_of trace call ≡ Some action → reply_to trace call ≡ Some reply
      → slice_get (log_after trace.layout.replicas pass.view.seen).entries reply.at ≡ Some (record { call = call; op = action })
  pub reads : (call : ℕ) (made : Invocation) (reply : Response) → call_of trace call ≡ Some made → made.thread ≡ thread
      → IsRead trace call → reply_to trace call ≡ Some reply → reply.at ≤ length (log_after trace.layout.replicas pass.view.seen).entries

-- these passes are to one log; the calls are those of a history of it, which begins with all that each of them has seen
pub record IsLogOf (layout : Layout) (calls : List ℕ) (passes : List Known) : Type 0 where
  pub log : TableId
  pub of_log : All (λ pass. pass.log ≡ log) passes
  pub history : List LogEvent
  pub is_history : IsLogHistory layout.depth layout.replicas history
  pub begins : All (λ pass. StartsWith history pass.view.seen) passes
  pub calls_are : calls ≡ map (λ entry. entry.call) (log_after layout.replicas history).entries

-- each thread's calls are those of its script, and its answers what came of them
abbrev pub AreAllCallsOf : Recording → List (List Query) → List (List CallOutcome) → Type 0
AreAllCallsOf trace scripts answers = (thread : ℕ) (script : List Query) (items : List CallOutcome) → slice_get scripts thread ≡ Some script
    → slice_get answers thread ≡ Some items → AreCallsOf trace thread script items

-- each thread's pass has seen all on which its answers depend
abbrev pub HaveSeenAnswers : Recording → List Known → Type 0
HaveSeenAnswers trace passes = (thread : ℕ) (pass : Known) → slice_get passes thread ≡ Some pass → HasSeenAnswers trace thread pass

-- the bytes spell one trace, of this layout. The threads' calls in it are those of their scripts, and the answers what came of them.
-- Its log is one log, of which each thread's pass has seen all on which the thread's answers depend
pub record IsTraceOf (layout : Layout) (scripts : List (List Query)) (answers : List (List CallOutcome)) (passes : List Known) (bytes : List ℕ) : Type 0 where
  pub layout_is : IsSpelledWith bytes (λ trace. trace.layout ≡ layout)
  pub answers_each : length answers ≡ layout.threads
  pub calls : IsSpelledWith bytes (λ trace. AreAllCallsOf trace scripts answers)
  pub passes_each : length passes ≡ layout.threads
  pub log : IsSpelledWith bytes (λ trace. IsLogOf layout trace.log passes)
  pub seen : IsSpelledWith bytes (λ trace. HaveSeenAnswers trace passes)

-- what a verified run of these scripts has to show: a trace of them without a fault, which is right with its recorded order
pub record IsVerifiedRun (layout : Layout) (scripts : List (List Query)) (answers : List (List CallOutcome)) (bytes order : List ℕ)
    (passes : List Known) : Type 0 where
  pub trace_of : IsTraceOf layout scripts answers passes bytes
  pub faultless : IsSpelledWith bytes IsFaultless
  pub order_is : IsSpelledWith bytes (λ trace. order ≡ recorded_order trace)
  pub right : AreRightWith bytes order

-- what a refused run of these scripts has to show: a trace of them, for some answers and passes, and its first fault
pub record IsRefusedRun (layout : Layout) (scripts : List (List Query)) (bytes : List ℕ) (fault : Fault) : Type 0 where
  pub answers : List (List CallOutcome)
  pub passes : List Known
  pub trace_of : IsTraceOf layout scripts answers passes bytes
  pub first : IsFirstOf bytes fault

-- if the outcome is a verified run, its answers, trace, order and passes have the property
abbrev pub IfVerified : {J : Type 0} → (List (List CallOutcome) → List ℕ → List ℕ → List Known → Type 0) → Outcome J → Type 0
IfVerified P (Verified answers trace order passes) = P answers trace order passes
IfVerified P (Refused trace fault) = ⊤

-- if it is refused, the trace and its fault have the property
abbrev pub IfRunRefused : {J : Type 0} → (List ℕ → Fault → Type 0) → Outcome J → Type 0
IfRunRefused P (Verified answers trace order passes) = ⊤
IfRunRefused P (Refused trace fault) = P trace fault
