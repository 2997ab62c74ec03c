use Rattle.nr_chain.proofs.Closed.{well_formed_both}
use Rattle.nr_chain.proofs.History.{history_both, history_from}
use Rattle.nr_chain.proofs.laws.histories_follow.Goals as goal

pub returns-clause-waits : goal.returns-clause-waits
returns-clause-waits c = history_from

pub returns-clause-follow : goal.returns-clause-follow
returns-clause-follow c = history_both

pub returns-clause-closed : goal.returns-clause-closed
returns-clause-closed c = well_formed_both
