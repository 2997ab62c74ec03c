use Rattle.std.proofs.Common.{◌≡◌, ℕ, length, take, ap, sym, subst, ◌∙◌, arith}
use Rattle.nr_ring.proofs.Histories.{history_fits}
use Rattle.nr_node.specs.Node.{NodeState, log_of, taken_by}
use Rattle.nr_node.specs.inside.Node.{node_state}
use Rattle.nr_node.specs.inside.Replica.{ReplicaState}
use Rattle.nr_node.proofs.Nodes.{forgot_follows, forgot_node, had_taken}
use Rattle.nr_node.proofs.node.Node.forget.Goals as goal

pub forget-requires-clause-low : goal.forget-requires-clause-low
forget-requires-clause-low g c =
    let self = c.self.inside in
    let is = c.self.invariant in
    let had = had_taken _ _ (node_state self.pass self.replica self.batch.items self.first) self.replica is.0 is.1 in
    let fits = history_fits _ _ self.pass.view.seen c.has_seen_a_history.ensures.history in
    omega (arith, had, is.0.written, fits.ends)

pub forget-requires-clause-seen : goal.forget-requires-clause-seen
forget-requires-clause-seen g c =
    let self = c.self.inside in
    let is = c.self.invariant in
    let node = node_state self.pass self.replica self.batch.items self.first in
    let had = had_taken _ _ node self.replica is.0 is.1 in
    is.1.entries ∙ ap (λ (n : ℕ). take n (log_of g.J.LogName.replicas node).entries) (sym had)

pub invariant_of-self : goal.invariant_of-self
invariant_of-self g c =
    let self = c.self.inside in
    let is = c.self.invariant in
    let had = had_taken _ _ (node_state self.pass self.replica self.batch.items self.first) self.replica is.0 is.1 in
    let All : NodeState → Type 0 = λ n. taken_by g.J.LogName.replicas n.known.view ≡ n.applied in
    let all = subst All (sym c.self.view_is) c.requires in (
      forgot_node _ _ self.pass self.replica c.forget.new.self self.batch.items self.first _ c.forget.ensures (omega (arith, had, all)) is.0,
      forgot_follows _ _ self.pass self.replica c.forget.new.self self.batch.items self.first _ c.forget.ensures is.1,
      omega (arith, is.2, ap (λ (r : ReplicaState). length r.entries) c.forget.ensures),
    )
