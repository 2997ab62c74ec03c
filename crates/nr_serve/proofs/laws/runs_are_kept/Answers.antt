use Rattle.nr_serve.proofs.Runs.{kept_through}
use Rattle.nr_serve.proofs.laws.runs_are_kept.Goals as goal

pub returns : goal.returns
returns c = kept_through
