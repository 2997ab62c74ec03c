-- What a call ends with.
use Rattle.std.specs.Prelude.{◌≡◌, ℕ}
use Rattle.nr_machine.specs.Machine.{MayAsk, actor_of, asked_by}
use Rattle.nrvs_nodes_c.specs.declared.node.Node.{Node}
use Rattle.nrvs_nodes_c.specs.Numbers.{numbers_of}

-- the status and the numbers are those of what the machine asks for, and that is a step of the schedule
pub record IsAsked (node : Node) (status : ℕ) : Type 0 where
  pub code : status ≡ node.asked.code
  pub numbers : node.asked ≡ numbers_of (asked_by node.machine)
  pub may : MayAsk node.machine.nodes node.machine.number (actor_of node.machine) (asked_by node.machine)
