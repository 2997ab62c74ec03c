use Rattle.nr_ring.proofs.Turns.{event_kept}
use Rattle.nr_ring.proofs.passing.steps.events_keep_the_rule.Goals as goal

pub returns : goal.returns
returns c = event_kept
