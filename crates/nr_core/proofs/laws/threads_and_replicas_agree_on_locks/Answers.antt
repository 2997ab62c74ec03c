use Rattle.nr_core.proofs.reached.Locks.{has_holder, holds_lock, one_holder}
use Rattle.nr_core.proofs.laws.threads_and_replicas_agree_on_locks.Goals as goal

pub returns-clause-both : goal.returns-clause-both
returns-clause-both c = λ state t r reachable. (has_holder state t r reachable, holds_lock state t r reachable)

pub returns-clause-alone : goal.returns-clause-alone
returns-clause-alone c = one_holder
