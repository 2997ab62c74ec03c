use Rattle.std.proofs.Common.{◌≡◌, All, [], ◌∷◌, ap, sym, subst, ◌∙◌, arith, List, length}
use Rattle.nr_ring.specs.Pass.{Known, TableId, new_pass}
use Rattle.nr_node.specs.Node.{NodeState}
use Rattle.nr_replicas.specs.inside.Replicas.{IsNewPass, IsNodeOf}
use Rattle.nr_replicas.proofs.Rests.{first_and_rest, holds_of_more, holds_of_none, one_over}
use Rattle.nr_replicas.proofs.opened.new_nodes.Goals as goal

pub loop-pass-init : goal.loop-pass-init
loop-pass-init g c =
    let rest = c.into_iter-pass-iterator.ensures.into_iter_gives.0 in (
      subst (λ (l : List Known). All (IsNewPass c.args.log.now) l) (sym rest) c.requires.passes,
      omega (arith, ap (λ (l : List Known). length l) rest, ap (λ (l : List NodeState). length l) c.new-nodes.ensures.items),
      holds_of_none (IsNodeOf c.args.log.now c.args.config.tables 0) c.new-nodes.result.items c.new-nodes.ensures.items,
      holds_of_none (λ (n : NodeState). n.batch ≡ []) c.new-nodes.result.items c.new-nodes.ensures.items,
    )

pub new_node-requires-clause-pass : goal.new_node-requires-clause-pass
new_node-requires-clause-pass g c =
    let is = (first_and_rest (IsNewPass c.args.log.now) _ _ c.in-Some.pass c.in-Some.ensures.steps.0 c.loop-pass.invariant.0).0 in
    let Of : TableId → Type 0 = λ log. c.in-Some.pass ≡ new_pass log (is.0 ∷ []) in
    (is.0, subst Of (sym (ap (λ (k : Known). k.log) is.1)) is.1)

pub loop-pass-preserved : goal.loop-pass-preserved
loop-pass-preserved g c =
    let of = first_and_rest (IsNewPass c.args.log.now) _ _ c.in-Some.pass c.in-Some.ensures.steps.0 c.loop-pass.invariant.0 in
    let log = c.in_ok-node.ensures.log ∙ ap (λ (k : Known). k.log) of.0.1 in (
      of.1,
      one_over c.loop-pass.nodes.items c.push.new.self.items c.in_ok-node.node _ _ c.in-Some.pass _ c.in_ok-push.ensures.items c.in-Some.ensures.steps.0
          c.loop-pass.invariant.1,
      holds_of_more (IsNodeOf c.args.log.now c.args.config.tables 0) c.loop-pass.nodes.items c.push.new.self.items c.in_ok-node.node
          c.in_ok-push.ensures.items c.loop-pass.invariant.2
          (record { log_is = log; tables_are = c.in_ok-node.ensures.tables; base_is = c.in_ok-node.ensures.base }),
      holds_of_more (λ (n : NodeState). n.batch ≡ []) c.loop-pass.nodes.items c.push.new.self.items c.in_ok-node.node c.in_ok-push.ensures.items
          c.loop-pass.invariant.3 c.in_ok-node.ensures.idle,
    )
