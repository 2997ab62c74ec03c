use Rattle.std.proofs.Common.{List, [], ◌∷◌, refl, ap₂}
use Rattle.vs_types.specs.declared.requests.answer.Answer.{Answer}
use Rattle.nr_trace.specs.Examples.{map_it, resolve_it}
use Rattle.nr_trace.specs.declared.recordings.event.Event.{Event}
use Rattle.nr_trace.specs.declared.recordings.event.Event.TheVariants.{Call, Reply}
use Rattle.nr_trace.specs.declared.recordings.event.Asked.TheVariants.{Request}
use Rattle.nr_core.proofs.examples.map_and_resolve_in_steps.Goals as goal

two_calls : Answer → Answer → List Event
two_calls first second = Call 0 0 (Request map_it) ∷ Reply 0 0 first ∷ Call 0 0 (Request resolve_it) ∷ Reply 2 1 second ∷ []

pub returns-clause-events : goal.returns-clause-events
unfolding two_calls
returns-clause-events c = ap₂ two_calls c.map_then_resolve_answers.ensures.map c.map_then_resolve_answers.ensures.resolve

pub returns-clause-log : goal.returns-clause-log
returns-clause-log c = refl

pub returns-clause-completed : goal.returns-clause-completed
returns-clause-completed c = refl
