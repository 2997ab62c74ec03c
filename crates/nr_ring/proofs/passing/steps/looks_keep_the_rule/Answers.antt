use Rattle.nr_ring.proofs.Turns.{look_turns}
use Rattle.nr_ring.proofs.passing.steps.looks_keep_the_rule.Goals as goal

pub returns : goal.returns
returns c = look_turns
