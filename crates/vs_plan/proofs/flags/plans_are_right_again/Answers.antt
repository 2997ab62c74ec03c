use Rattle.vs_plan.proofs.AgainParts.{right_again, right_elsewhere}
use Rattle.vs_plan.proofs.flags.plans_are_right_again.Goals as goal

pub returns-clause-elsewhere : goal.returns-clause-elsewhere
returns-clause-elsewhere c = λ target request memory now space offered plan premise right same found told.
    right_elsewhere now plan premise right same found told

pub returns-clause-again : goal.returns-clause-again
returns-clause-again c = λ target request memory now space offered plan again index word premise right is same found told.
    right_again now plan again index word premise right is same found told
