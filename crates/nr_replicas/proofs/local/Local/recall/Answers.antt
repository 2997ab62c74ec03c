use Rattle.std.proofs.Common.{◌≡◌, ◌∙◌, ℕ, Some, ap, subst, arith}
use Rattle.std.specs.Prelude.{slice_get}
use Rattle.nr_node.specs.Node.{NodeState, log_of}
use Rattle.nr_node.specs.Spaces.{answer_at}
use Rattle.nr_replicas.proofs.local.Local.recall.Goals as goal

pub returns : goal.returns
returns g c =
    let depth = g.J.LogName.depth in
    let replicas = g.J.LogName.replicas in
    let node = c.self.inside.node in
    let place = c.args.place in
    let wanted = c.args.wanted.now in
    let told = c.in_ok-answer.ensures in
    let Stands : NodeState → Type 0 = λ n. slice_get (log_of replicas n).entries place ≡ Some wanted.entry in
    record {
      fresh = omega (arith, c.if-place-wanted.false);
      stands = subst Stands c.self.view_is told.0;
      answered = told.1
          ∙ ap (λ (tables : ℕ). answer_at depth tables (log_of replicas node).entries place wanted.entry.op) c.self.invariant.1
          ∙ ap (λ (n : NodeState). answer_at depth g.K.ReplicasName.tables (log_of replicas n).entries place wanted.entry.op) c.self.view_is;
    }
