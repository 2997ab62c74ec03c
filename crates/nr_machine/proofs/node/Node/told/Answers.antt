use Rattle.nr_machine.proofs.Makes.{learns}
use Rattle.nr_machine.proofs.node.Node.told.Goals as goal

pub returns-clause-makes : goal.returns-clause-makes
returns-clause-makes c = learns c.args.self.now c.take.new.self c.args.value c.take.ensures
