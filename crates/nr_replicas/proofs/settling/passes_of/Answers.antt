use Rattle.std.proofs.Common.{◌≡◌, ◌<◌, List, [], ◌∷◌, ◌++◌, All, length, map, ap, sym, subst, ◌∙◌, arith}
use Rattle.std.proofs.Math.ListN.{length-append}
use Rattle.std.proofs.lemmas.List.{append_assoc}
use Rattle.vs_walk.specs.Dump.{Image}
use Rattle.nr_ring.specs.Pass.{Known}
use Rattle.nr_node.specs.Node.{NodeState}
use Rattle.nr_replicas.specs.inside.Replicas.{IsNodeOf}
use Rattle.nr_replicas.specs.inside.Settling.{AreDumpsOf, HasAppliedOwn}
use Rattle.nr_replicas.proofs.Rests.{first_and_rest, holds_of_more}
use Rattle.nr_replicas.proofs.Settled.{one_dump_more}
use Rattle.nr_replicas.proofs.settling.passes_of.Goals as goal

pub loop-node-preserved : goal.loop-node-preserved
loop-node-preserved g c =
    let depth = g.J.LogName.depth in
    let replicas = g.J.LogName.replicas in
    let tables = g.K.ReplicasName.tables in
    let is = c.loop-node.invariant in
    let node = c.in-Some.node in
    let dump = c.in_ok-dump.dump in
    let passes = c.loop-node.passes.items in
    let dumps = c.loop-node.dumps.items in
    let rest = c.next.new.self.rest.items in
    let P : NodeState → Type 0 = IsNodeOf g.K.ReplicasName.log tables g.K.ReplicasName.base in
    let Known_of : List NodeState → List Known = λ l. map (λ (n : NodeState). n.known) l in
    let steps : c.loop-node.node-iterator.rest.items ≡ node ∷ rest = c.in-Some.ensures.steps.0 in
    let each = first_and_rest P _ rest node steps is.0 in
    let one : c.push-in-loop-node.new.self.items ≡ passes ++ node.known ∷ [] =
    c.in_ok-push-2.ensures.items ∙ ap (λ (k : Known). passes ++ k ∷ []) c.into_pass-pass.ensures.pass in
    let Below : Known → Type 0 = λ pass. All (λ replica. replica < replicas) pass.view.owns in
    let Dumps : List Known → List Image → Type 0 = λ p d. AreDumpsOf depth replicas tables g.K.ReplicasName.base p d in
    let applied : HasAppliedOwn replicas node.base node.known dump = c.in_ok-dump.ensures.applied in
    let now = one_dump_more depth replicas tables g.K.ReplicasName.base passes dumps g.K.ReplicasName.log node dump is.3 each.0
    c.in_ok-dump.ensures.dump applied in (
      each.1,
      ap (λ (l : List Known). l ++ Known_of rest) one
          ∙ append_assoc passes (node.known ∷ []) (Known_of rest)
          ∙ ap (λ (l : List NodeState). passes ++ Known_of l) (sym steps)
          ∙ is.1,
      omega (
        arith,
        is.2,
        ap (λ (l : List Image). length l) c.in_ok-push.ensures.items,
        ap (λ (l : List Known). length l) one,
        length-append dumps (dump ∷ []),
        length-append passes (node.known ∷ []),
      ),
      subst (λ (p : List Known). Dumps p c.push.new.self.items) (sym one)
          (subst (λ (d : List Image). Dumps (passes ++ node.known ∷ []) d) (sym c.in_ok-push.ensures.items) now),
      holds_of_more Below passes c.push-in-loop-node.new.self.items node.known one is.4
          (subst Below c.into_pass-pass.ensures.pass c.has_seen_a_history.ensures.owns),
    )
