use Rattle.std.proofs.Common.{◌≡◌, ◌≤◌, ap, subst, sym, ◌∙◌, ℕ, arith}
use Rattle.nr_ring.specs.Laws.{HasGoneOn}
use Rattle.nr_ring.specs.LogHistory.{log_after}
use Rattle.nr_node.specs.Node.{NodeState, log_of}
use Rattle.nr_node.specs.Spaces.{space_at}
use Rattle.nr_replicas.specs.inside.Replicas.{answer_in}
use Rattle.nr_replicas.proofs.Logs.{read_stays, told_goes_on}
use Rattle.nr_replicas.proofs.local.Local.read.Goals as goal

pub returns-clause-read : goal.returns-clause-read
returns-clause-read g c =
    let depth = g.J.LogName.depth in
    let replicas = g.J.LogName.replicas in
    let tables = g.K.ReplicasName.tables in
    let node = c.args.self.now in
    let after = c.tell.new.told.view in
    let reads = answer_in c.args.question c.args.address in
    let at = c.answer-read.result.0 in
    let On : NodeState → Type 0 = λ n. HasGoneOn (log_of replicas n) (log_after replicas after.seen) in
    let on = subst On c.self.view_is
    (told_goes_on depth replicas c.args.pass.now.view c.self.inside.node.known.view after c.tell.ensures.looked c.tell.ensures.met.0) in
    let Tables : NodeState → Type 0 = λ n. n.tables ≡ tables in
    let limit = subst Tables c.self.view_is c.self.invariant.1 in
    let Far : NodeState → Type 0 = λ n. c.args.completed ≤ n.applied in
    let far = subst Far c.self.view_is (omega (arith, c.if-applied-completed.false, c.applied.ensures.reads)) in
    read_stays depth tables c.args.completed (log_of replicas node) (log_after replicas after.seen) reads at c.answer-read.result.1 on (record {
      fresh = omega (arith, far, c.answer-read.ensures.at);
      known = c.answer-read.ensures.written;
      answered = c.answer-read.ensures.answer
          ∙ ap (λ (limit : ℕ). reads (space_at depth limit (log_of replicas node).entries node.applied)) limit
          ∙ ap (λ (n : ℕ). reads (space_at depth tables (log_of replicas node).entries n)) (sym c.answer-read.ensures.at);
    })
