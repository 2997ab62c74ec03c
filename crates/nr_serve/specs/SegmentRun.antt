-- A run in segments: what each segment has to show. All segments are of one log. The calls of a segment are those of the log from the last
-- cut on, and its places are counted from there.
use Rattle.std.specs.Prelude.{◌≡◌, ℕ, ◌+◌, ◌≤◌, List, All, Option, Some, drop, length, map, option_map, slice_get, ⊤}
use Rattle.std.specs.List.{AllZip}
use Rattle.vs_types.specs.Config.{Layout}
use Rattle.vs_types.specs.declared.requests.op.Action.{Action}
use Rattle.vs_types.specs.declared.requests.request.Query.{Query}
use Rattle.nr_trace.specs.Calls.{Invocation, IsRead, Response, call_of, operation_of, reply_to}
use Rattle.nr_trace.specs.Orders.{recorded_order}
use Rattle.nr_trace.specs.Recording.{Recording}
use Rattle.nr_trace.specs.Spelling.{SpellsSegment}
use Rattle.nr_trace.specs.declared.refusals.fault.Fault.{Fault}
use Rattle.nr_trace.specs.Run.{Run}
use Rattle.nr_audit.specs.Faults.{IsFirstAfter, IsSoundAfter}
use Rattle.nr_audit.specs.Segments.{run_after}
use Rattle.nr_chain.specs.Fed.{IsKeptOf, Kept}
use Rattle.nr_ring.specs.LogHistory.{IsLogHistory, log_after}
use Rattle.nr_ring.specs.Pass.{Known}
use Rattle.nr_ring.specs.View.{StartsWith}
use Rattle.nr_ring.specs.declared.ring.log_event.LogEvent.{LogEvent}
use Rattle.nr_serve.specs.Run.{AreAllCallsOf}
use Rattle.nr_serve.specs.RunState.{RunState}
use Rattle.nr_serve.specs.declared.endings.call_outcome.CallOutcome.{CallOutcome}
use Rattle.nr_serve.specs.declared.endings.call_outcome.CallOutcome.TheVariants.{Answer, Stopped}

-- how the segments so far are laid out, if there are some
abbrev pub layout_so_far : Option Kept → Option Layout
layout_so_far kept = option_map (λ last. last.layout) kept

-- a pass has seen what it had seen before, and perhaps more
abbrev pub HasSeenMore : Known → Known → Type 0
HasSeenMore before after = StartsWith after.view.seen before.view.seen

-- a thread's pass has seen all on which the thread's answers in a segment depend. Of each answered update this is its place, where that call is
-- with its operation; of each answered read, as many entries as it saw. The segment's places are counted from this one on
pub record HasSeenAnswersFrom (base : ℕ) (trace : Recording) (thread : ℕ) (pass : Known) : Type 0 where
  pub updates : (call : ℕ) (made : Invocation) (action : Action) (reply : Response) → call_of trace call ≡ Some made → made.thread ≡ thread
      → operation_of trace call ≡ Some action → reply_to trace call ≡ Some reply
      → slice_get (log_after trace.layout.replicas pass.view.seen).entries (base + reply.at) ≡ Some (record { call = call; op = action })
  pub reads : (call : ℕ) (made : Invocation) (reply : Response) → call_of trace call ≡ Some made → made.thread ≡ thread
      → IsRead trace call → reply_to trace call ≡ Some reply → base + reply.at ≤ length (log_after trace.layout.replicas pass.view.seen).entries

-- so has each thread's pass
abbrev pub HaveSeenAnswersFrom : ℕ → Recording → List Known → Type 0
HaveSeenAnswersFrom base trace passes = (thread : ℕ) (pass : Known) → slice_get passes thread ≡ Some pass
    → HasSeenAnswersFrom base trace thread pass

-- a segment as it was run: its bytes and the trace that they spell, the order of its calls, what each thread was given to ask, and what came
-- of that
pub record Ran : Type 0 where
  pub bytes : List ℕ
  pub trace : Recording
  pub order : List ℕ
  pub scripts : List (List Query)
  pub answers : List (List CallOutcome)

-- the calls of a segment are those of the run's log from the last cut on, up to the end of this history, which begins with all that each of
-- the passes has seen at the end
pub record IsLogFrom (state : RunState) (calls : List ℕ) (passes : List Known) (history : List LogEvent) : Type 0 where
  pub of_log : All (λ pass. pass.log ≡ state.log) passes
  pub is_history : IsLogHistory state.layout.depth state.layout.replicas history
  pub begins : All (λ pass. StartsWith history pass.view.seen) passes
  pub calls_are : calls ≡ map (λ entry. entry.call) (drop state.base (log_after state.layout.replicas history).entries)

-- a segment of a run behind those so far: its bytes spell its trace. There the calls of each thread are a beginning of what it was given,
-- and the answers are what came of them. Its calls are those of the log since the last cut; and each thread's pass has seen at the end what it
-- had seen before, and all on which its answers depend
pub record IsSegmentOf (state : RunState) (ran : Ran) (passes : List Known) (history : List LogEvent) : Type 0 where
  pub spelled : SpellsSegment (layout_so_far state.kept) ran.bytes ran.trace
  pub layout_is : ran.trace.layout ≡ state.layout
  pub answers_each : length ran.answers ≡ state.layout.threads
  pub calls : AreAllCallsOf ran.trace ran.scripts ran.answers
  pub heard : AllZip HasSeenMore state.passes passes
  pub log : IsLogFrom state ran.trace.log passes history
  pub seen : HaveSeenAnswersFrom state.base ran.trace passes

-- it is right with its order, behind each run of which this is kept
pub record IsRightSegment (state : RunState) (ran : Ran) (passes : List Known) (history : List LogEvent) : Type 0 where
  pub segment : IsSegmentOf state ran passes history
  pub sound : (before : Option Run) → IsKeptOf before state.kept → IsSoundAfter before ran.trace
  pub order_is : ran.order ≡ recorded_order ran.trace

-- it is wrong, and this is its first fault behind each such run
pub record IsWrongSegment (state : RunState) (ran : Ran) (passes : List Known) (history : List LogEvent) (fault : Fault) : Type 0 where
  pub segment : IsSegmentOf state ran passes history
  pub first : (before : Option Run) → IsKeptOf before state.kept → IsFirstAfter before ran.trace fault

-- it was answered
abbrev pub IsAnswer : CallOutcome → Type 0
IsAnswer (Answer at answer) = ⊤
IsAnswer Stopped = ⊥

-- what a thread was given is asked to the end, and each request is answered
pub record IsAllAnswered (script : List Query) (items : List CallOutcome) : Type 0 where
  pub each : length items ≡ length script
  pub answered : All IsAnswer items

-- so is what each thread was given
abbrev pub AreAllAnswered : List (List Query) → List (List CallOutcome) → Type 0
AreAllAnswered scripts answers = (thread : ℕ) (script : List Query) (items : List CallOutcome) → slice_get scripts thread ≡ Some script
    → slice_get answers thread ≡ Some items → IsAllAnswered script items

-- the log is cut behind a segment, and the run goes on from there: all that was asked is answered, and the passes have seen the whole history.
-- What is kept of a run is then kept of that run with this segment more
pub record GoesOn (state : RunState) (ran : Ran) (history : List LogEvent) (next : RunState) : Type 0 where
  pub answered : AreAllAnswered ran.scripts ran.answers
  pub layout_is : next.layout ≡ state.layout
  pub kept : (before : Option Run) → IsKeptOf before state.kept → IsKeptOf (Some (run_after before ran.trace)) next.kept
  pub log_is : next.log ≡ state.log
  pub base_is : next.base ≡ state.base + length ran.trace.log
  pub of_log : All (λ pass. pass.log ≡ state.log) next.passes
  pub known : All (λ pass. StartsWith pass.view.seen history) next.passes
  pub passes_each : length next.passes ≡ state.layout.threads
