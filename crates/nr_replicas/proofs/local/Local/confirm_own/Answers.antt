use Rattle.std.proofs.Common.{subst, arith}
use Rattle.nr_ring.specs.Laws.{HasGoneOn}
use Rattle.nr_ring.specs.LogHistory.{log_after}
use Rattle.nr_node.specs.Node.{NodeState, log_of}
use Rattle.nr_replicas.proofs.Logs.{answer_stays, told_goes_on}
use Rattle.nr_replicas.proofs.local.Local.confirm_own.Goals as goal

pub returns-clause-own : goal.returns-clause-own
returns-clause-own g c =
    let depth = g.J.LogName.depth in
    let replicas = g.J.LogName.replicas in
    let tables = g.K.ReplicasName.tables in
    let wanted = c.args.wanted.now in
    let after = c.tell.new.told.view in
    let On : NodeState → Type 0 = λ n. HasGoneOn (log_of replicas n) (log_after replicas after.seen) in
    let on = subst On c.self.view_is
    (told_goes_on depth replicas c.args.pass.now.view c.self.inside.node.known.view after c.tell.ensures.looked c.tell.ensures.met.0) in
    let there = c.requires.own _ c.in-Some.is in
    rw c.in-Some.is (answer_stays depth tables wanted.from _ _ _ _ _ on
    (record { fresh = omega (arith, c.if-early.false); stands = there.stands; answered = there.answered }))
