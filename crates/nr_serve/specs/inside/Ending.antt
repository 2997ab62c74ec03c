-- What holds at the end of a run.
use Rattle.std.specs.Prelude.{◌≡◌, ℕ, List, map}
use Rattle.vs_types.specs.Config.{Layout}
use Rattle.nr_trace.specs.Recording.{Recording}
use Rattle.nr_trace.specs.Spelling.{Spells}
use Rattle.nr_ring.specs.Pass.{Known}
use Rattle.nr_record.specs.Events.{AreEventsOf}
use Rattle.nr_record.specs.Pen.{PenState}
use Rattle.nr_serve.specs.inside.Calls.{WorkerState}
use Rattle.nr_serve.specs.Run.{IsLogOf}
use Rattle.nr_serve.specs.declared.endings.call_outcome.CallOutcome.{CallOutcome}

abbrev pub pens_of : List WorkerState → List PenState
pens_of workers = map (λ worker. worker.pen) workers

abbrev pub passes_of : List WorkerState → List Known
passes_of workers = map (λ worker. worker.pass) workers

abbrev pub answers_of : List WorkerState → List (List CallOutcome)
answers_of workers = map (λ worker. worker.said) workers

-- the bytes spell a trace of this layout, with what these pens were given, and a log that begins with all that these passes have seen
pub record IsWrittenOf (layout : Layout) (pens : List PenState) (passes : List Known) (bytes : List ℕ) : Type 0 where
  pub trace : Recording
  pub spelled : Spells bytes trace
  pub layout_is : trace.layout ≡ layout
  pub recorded : AreEventsOf trace.events pens
  pub log : IsLogOf layout trace.log passes
