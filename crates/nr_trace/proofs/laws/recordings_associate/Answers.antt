use Rattle.nr_trace.proofs.Associated.{joined_associate}
use Rattle.nr_trace.proofs.laws.recordings_associate.Goals as goal

pub returns : goal.returns
returns c = joined_associate
