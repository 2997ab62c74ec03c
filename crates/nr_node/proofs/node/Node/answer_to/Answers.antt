use Rattle.nr_node.specs.inside.Node.{node_state}
use Rattle.nr_node.proofs.Answering.{answer_there}
use Rattle.nr_node.proofs.node.Node.answer_to.Goals as goal

pub returns : goal.returns
returns g c =
    let self = c.self.inside in
    let is = c.self.invariant in
    answer_there _ _ (node_state self.pass self.replica self.batch.items self.first) c.args.self.now self.replica c.args.place c.args.entry
    c.answer_to.result is.0 is.1 c.self.view_is c.answer_to.ensures
