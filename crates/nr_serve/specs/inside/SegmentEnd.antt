-- What the end of a segment begins with, and what comes of it.
use Rattle.std.specs.Prelude.{◌≡◌, ℕ, List, Option}
use Rattle.vs_types.specs.Config.{Layout}
use Rattle.vs_types.specs.declared.addresses.depth.Depth.{Depth}
use Rattle.vs_types.specs.declared.requests.request.Query.{Query}
use Rattle.nr_audit.specs.declared.histories.past.Past.{Past}
use Rattle.nr_ring.specs.Pass.{Known}
use Rattle.nr_record.specs.Pen.{AreAllPens, ClockId, PenState}
use Rattle.nr_replicas.specs.Replicas.{OpenState}
use Rattle.nr_serve.specs.ChainOfRun.{IsOutcomeOf}
use Rattle.nr_serve.specs.declared.endings.call_outcome.CallOutcome.{CallOutcome}
use Rattle.nr_serve.specs.declared.endings.segment_outcome.SegmentOutcome.{SegmentOutcome}
use Rattle.nr_serve.specs.inside.Calls.{Since}
use Rattle.nr_serve.specs.inside.Segment.{HaveServed, IsRunOf, state_with}

-- the replicas of a log, laid out so, that was cut last at this place
abbrev pub opened_with : Since → Layout → OpenState
opened_with of layout = record { log = of.log; layout = layout; base = of.from }

-- a segment may be ended, whose threads have handed back these pens and passes. It is a segment of a run with these passes. It is laid out
-- as its clock, and the pens are all of that clock's
pub record MayEnd (depth : Depth) (replicas : ℕ) (clock : ClockId) (of : Since) (replicated layout : Layout) (past : Option Past) (pens : List PenState)
    (passes : List Known) : Type 0 where
  pub run : IsRunOf depth replicas (opened_with of replicated) passes layout past
  pub of_clock : layout ≡ clock.layout
  pub all_pens : AreAllPens clock pens

-- what comes of a segment whose threads have handed this back, with whatever passes they began and whatever they were given to ask
abbrev pub IsEndOf : {J : Type 0} → ClockId → Since → Layout → Option Past → List PenState → List Known → List (List CallOutcome) → SegmentOutcome J → Type 0
IsEndOf clock of layout past pens passes answers outcome = (before : List Known) (scripts : List (List Query))
    → HaveServed clock of before scripts pens passes answers → IsOutcomeOf (state_with of before layout past) scripts outcome
