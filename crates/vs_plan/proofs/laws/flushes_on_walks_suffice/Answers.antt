use Rattle.vs_plan.specs.Right.{begun}
use Rattle.vs_plan.specs.Flushed.{while_stored}
use Rattle.vs_plan.proofs.FlagsKept.{flags_reads, lived_kept}
use Rattle.vs_plan.proofs.OnWalks.{plan_on_walks}
use Rattle.vs_plan.proofs.laws.flushes_on_walks_suffice.Goals as goal

pub returns : goal.returns
returns c = λ target request memory now space offered plan earlier lived kept premise canonical right is are same held dropped.
    flags_reads same target.depth target.root kept (plan_on_walks target request memory space offered plan premise canonical right earlier is kept
    (lived_kept target.depth target.root lived (while_stored (begun memory plan) plan.stores.items earlier) are kept held) dropped)
