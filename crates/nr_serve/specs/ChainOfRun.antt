-- A run in segments as a whole: one chain, which is right, and one log.
use Rattle.std.specs.Prelude.{◌≡◌, ℕ, ◌++◌, List, [], ◌∷◌, Option, Some, flat_map, map}
use Rattle.vs_types.specs.declared.requests.request.Query.{Query}
use Rattle.nr_trace.specs.Recording.{Recording}
use Rattle.nr_trace.specs.declared.refusals.fault.Fault.{Fault}
use Rattle.nr_trace.specs.Run.{Run}
use Rattle.nr_audit.specs.Segments.{run_after}
use Rattle.nr_ring.specs.Pass.{Known}
use Rattle.nr_ring.specs.declared.ring.log_event.LogEvent.{LogEvent}
use Rattle.nr_serve.specs.RunState.{RunState}
use Rattle.nr_serve.specs.SegmentRun.{AreAllAnswered, GoesOn, IsRightSegment, IsWrongSegment, Ran}
use Rattle.nr_serve.specs.declared.endings.call_outcome.CallOutcome.{CallOutcome}
use Rattle.nr_serve.specs.declared.endings.segment_outcome.SegmentOutcome.{SegmentOutcome}
use Rattle.nr_serve.specs.declared.endings.segment_outcome.SegmentOutcome.TheVariants.{Right, Last, Wrong}

-- the order of each segment
abbrev pub orders_of : List Ran → List (List ℕ)
orders_of segments = map (λ segment. segment.order) segments

-- the calls of the segments' logs, one log after the other
abbrev pub logs_of : List Ran → List ℕ
logs_of segments = flat_map (λ segment. segment.trace.log) segments

-- a run of the auditor's with these segments more, one after the other
abbrev pub run_through : Option Run → List Ran → Option Run
run_through before [] = before
run_through before (segment ∷ more) = run_through (Some (run_after before segment.trace)) more

-- from one state on, these bytes are those of the segments, each of which is right and behind which the run goes on, and it has come to this
abbrev pub RunsOn : RunState → List ℕ → List Ran → RunState → Type 0
RunsOn state bytes [] end = (bytes ≡ []) × (state ≡ end)
RunsOn state bytes (segment ∷ more) end =
    (passes : List Known) × (history : List LogEvent) × (next : RunState) × (rest : List ℕ) × (bytes ≡ segment.bytes ++ rest)
    × IsRightSegment state segment passes history × GoesOn state segment history next × RunsOn next rest more end

-- a segment as it was run, of what is known of it one by one
abbrev pub ran_of : Recording → List (List Query) → List (List CallOutcome) → List ℕ → List ℕ → Ran
ran_of trace scripts answers bytes order = record { bytes = bytes; trace = trace; order = order; scripts = scripts; answers = answers }

-- a segment is right, and the run goes on behind it
pub record HasGone (state : RunState) (scripts : List (List Query)) (answers : List (List CallOutcome)) (bytes order : List ℕ) (next : RunState) : Type 0 where
  pub trace : Recording
  pub passes : List Known
  pub history : List LogEvent
  pub right : IsRightSegment state (ran_of trace scripts answers bytes order) passes history
  pub on : GoesOn state (ran_of trace scripts answers bytes order) history next

-- it is right, and the last, since not all that was asked is answered: this is what the passes have seen
pub record HasEnded (state : RunState) (scripts : List (List Query)) (answers : List (List CallOutcome)) (bytes order : List ℕ)
    (passes : List Known) : Type 0 where
  pub trace : Recording
  pub history : List LogEvent
  pub right : IsRightSegment state (ran_of trace scripts answers bytes order) passes history
  pub stopped : AreAllAnswered scripts answers → ⊥

-- it is wrong, for some answers
pub record HasFailed (state : RunState) (scripts : List (List Query)) (bytes : List ℕ) (fault : Fault) : Type 0 where
  pub trace : Recording
  pub answers : List (List CallOutcome)
  pub passes : List Known
  pub history : List LogEvent
  pub wrong : IsWrongSegment state (ran_of trace scripts answers bytes []) passes history fault

-- what comes of a segment of these scripts
abbrev pub IsOutcomeOf : {J : Type 0} → RunState → List (List Query) → SegmentOutcome J → Type 0
IsOutcomeOf state scripts (Right answers bytes order run) = HasGone state scripts answers bytes order run
IsOutcomeOf state scripts (Last answers bytes order passes) = HasEnded state scripts answers bytes order passes
IsOutcomeOf state scripts (Wrong bytes fault) = HasFailed state scripts bytes fault
