use Rattle.nr_explain.proofs.BadFields.{spelled_unless_wrong}
use Rattle.nr_explain.proofs.laws.refused_events_have_a_bad_field.Goals as goal

pub returns : goal.returns
returns c = spelled_unless_wrong
