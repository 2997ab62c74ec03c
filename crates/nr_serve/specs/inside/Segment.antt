-- What the type of a run in segments keeps, and what holds where a segment ends.
use Rattle.std.specs.Prelude.{◌≡◌, ℕ, List, All, IfSome, Option, length, option_map}
use Rattle.std.specs.List.{AllZip}
use Rattle.vs_types.specs.Config.{Layout}
use Rattle.vs_types.specs.declared.addresses.depth.Depth.{Depth}
use Rattle.vs_types.specs.declared.requests.request.Query.{Query}
use Rattle.nr_audit.specs.Segments.{FitsPast}
use Rattle.nr_audit.specs.declared.histories.past.Past.{Past}
use Rattle.nr_ring.specs.Pass.{Known}
use Rattle.nr_record.specs.Pen.{ClockId, PenState}
use Rattle.nr_replicas.specs.Replicas.{OpenState}
use Rattle.nr_serve.specs.RunState.{RunState}
use Rattle.nr_serve.specs.SegmentRun.{HasSeenMore}
use Rattle.nr_serve.specs.declared.endings.call_outcome.CallOutcome.{CallOutcome}
use Rattle.nr_serve.specs.inside.Calls.{AreServed, Since, WorkerState}
use Rattle.nr_serve.specs.inside.Ending.{answers_of, passes_of, pens_of}

-- what a run has come to with this log, which was cut last at this place, and what its segments so far left
abbrev pub state_with : Since → List Known → Layout → Option Past → RunState
state_with of passes layout past = record {
  layout = layout;
  kept = option_map (λ left. record { layout = layout; past = left }) past;
  log = of.log;
  base = of.from;
  passes = passes;
}

abbrev pub state_of : OpenState → List Known → Layout → Option Past → RunState
state_of opened passes layout past = state_with (record { log = opened.log; from = opened.base }) passes layout past

-- the replicas and the log's name are laid out so; there is a pass of the log for each thread; and what is left fits
pub record IsRunOf (depth : Depth) (replicas : ℕ) (opened : OpenState) (passes : List Known) (layout : Layout) (past : Option Past) : Type 0 where
  pub opened_is : opened.layout ≡ layout
  pub depth_is : layout.depth ≡ depth
  pub replicas_are : layout.replicas ≡ replicas
  pub one_each : length passes ≡ layout.threads
  pub of_log : All (λ pass. pass.log ≡ opened.log) passes
  pub past_fits : IfSome past (FitsPast layout)

-- threads that began with these passes have done what the scripts ask, and this is what they handed back
pub record HaveServed (clock : ClockId) (of : Since) (before : List Known) (scripts : List (List Query)) (pens : List PenState) (passes : List Known)
    (answers : List (List CallOutcome)) : Type 0 where
  pub workers : List WorkerState
  pub served : AreServed clock of scripts workers
  pub heard : AllZip HasSeenMore before (passes_of workers)
  pub pens_are : pens ≡ pens_of workers
  pub passes_are : passes ≡ passes_of workers
  pub answers_are : answers ≡ answers_of workers
  pub one_each : length scripts ≡ clock.layout.threads
