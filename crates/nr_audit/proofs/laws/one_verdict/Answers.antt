use Rattle.nr_audit.proofs.PartsOfVerdicts.{same_of, same_on}
use Rattle.nr_audit.proofs.laws.one_verdict.Goals as goal

pub returns-clause-of_bytes : goal.returns-clause-of_bytes
returns-clause-of_bytes c = same_of

pub returns-clause-on_traces : goal.returns-clause-on_traces
returns-clause-on_traces c = same_on
