use Rattle.nr_ring.proofs.OwnTails.{advance_sets, advance_entries}
use Rattle.nr_ring.proofs.laws.advances_set_local_tails.Goals as goal

pub returns-clause-local : goal.returns-clause-local
returns-clause-local c = advance_sets

pub returns-clause-entries : goal.returns-clause-entries
returns-clause-entries c = advance_entries
