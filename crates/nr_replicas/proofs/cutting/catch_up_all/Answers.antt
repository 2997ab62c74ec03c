use Rattle.std.proofs.Common.{◌≡◌, ◌<◌, All, length, ◌∙◌, arith}
use Rattle.std.proofs.lemmas.List.{length-set}
use Rattle.std.proofs.lemmas.List.Elements.{All-set}
use Rattle.nr_node.specs.Node.{NodeState}
use Rattle.nr_replicas.specs.inside.Replicas.{IsNodeOf}
use Rattle.nr_replicas.proofs.cutting.catch_up_all.Goals as goal

pub catch_up_one-requires-clause-node : goal.catch_up_one-requires-clause-node
catch_up_one-requires-clause-node g c =
    let is = c.loop-i.invariant in is.1 c.loop-i.i c.index-nodes-i.result (omega (arith, c.loop-i-test.true, is.0))

pub loop-i-preserved : goal.loop-i-preserved
loop-i-preserved g c =
    let is = c.loop-i.invariant in
    let now = c.loop-i.nodes in
    let node = c.catch_up_one.new.node in
    let Of : NodeState → Type 0 = IsNodeOf g.K.ReplicasName.log g.K.ReplicasName.tables g.K.ReplicasName.base in
    (length-set now c.loop-i.i node ∙ is.0, All-set Of now c.loop-i.i node c.catch_up_one.ensures is.1)
