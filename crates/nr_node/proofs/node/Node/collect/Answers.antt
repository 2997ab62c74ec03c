use Rattle.std.proofs.Common.{◌≡◌, [], get_or, sym, subst}
use Rattle.nr_node.specs.Node.{NodeState}
use Rattle.nr_node.proofs.Nodes.{holding_follows, holding_node}
use Rattle.nr_node.proofs.node.Node.collect.Goals as goal

pub collect-requires : goal.collect-requires
collect-requires g c =
    let Empty : NodeState → Type 0 = λ n. n.batch ≡ [] in
    subst Empty (sym c.self.view_is) c.requires.nothing

pub invariant_of-self : goal.invariant_of-self
invariant_of-self g c =
    let self = c.self.inside in
    let batch = c.collect.new.batch.items in
    let Empty : NodeState → Type 0 = λ n. n.batch ≡ [] in
    let none = subst Empty (sym c.self.view_is) c.requires.nothing in (
      holding_node _ _ self.pass self.replica self.batch.items batch self.first none c.is_short.ensures
          (λ k d lt. c.requires.fit (get_or batch k d) (c.collect.ensures.rule k d lt)) c.self.invariant.0,
      holding_follows _ _ self.pass self.replica self.batch.items batch self.first c.self.invariant.1,
      c.self.invariant.2,
    )
