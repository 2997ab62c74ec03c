use Rattle.nr_record.proofs.Draws.{close_tells}
use Rattle.nr_record.proofs.laws.whole_quotas_have_all_stamps.Goals as goal

pub returns : goal.returns
returns c = close_tells
