use Rattle.std.proofs.Common.{◌≤◌, subst}
use Rattle.nr_ring.specs.LogHistory.{log_after, tail}
use Rattle.nr_ring.proofs.Histories.{tail_rises}
use Rattle.nr_node.specs.Node.{NodeState, log_of}
use Rattle.nr_replicas.proofs.Logs.{told_goes_on}
use Rattle.nr_replicas.proofs.local.Local.tell.Goals as goal

pub returns-clause-more : goal.returns-clause-more
returns-clause-more g c =
    let depth = g.J.LogName.depth in
    let replicas = g.J.LogName.replicas in
    let after = c.tell.new.told.view in
    let More : NodeState → Type 0 = λ n. tail (log_of replicas n) ≤ tail (log_after replicas after.seen) in
    subst More c.self.view_is (tail_rises _ _
    (told_goes_on depth replicas c.args.pass.now.view c.self.inside.node.known.view after c.tell.ensures.looked c.tell.ensures.met.0))
