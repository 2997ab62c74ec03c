use Rattle.nr_trace.proofs.Orderly.{clean_is_orderly, orderly_both}
use Rattle.nr_trace.proofs.laws.recordings_are_orderly.Goals as goal

pub returns-clause-clean : goal.returns-clause-clean
returns-clause-clean c = clean_is_orderly

pub returns-clause-both : goal.returns-clause-both
returns-clause-both c = orderly_both
