-- How many operations a machine asks for at most, and how many entries, until its call is over.
use Rattle.std.specs.Prelude.{◌≡◌, ℕ, zero, suc, ◌+◌, ◌-◌, ◌*◌, ◌≤◌, nat_lt, Bool, false, if◌then◌else◌, Option, Some, None, List, [], ◌∷◌, length}
use Rattle.nr_machine.specs.declared.node.Node.{Node}
use Rattle.nr_machine.specs.declared.phase.Phase.{Phase}
use Rattle.nr_machine.specs.declared.phase.Phase.TheVariants as phases
use Rattle.nr_machine.specs.declared.words.Update.{Update}
use Rattle.nr_machine.specs.Fields.{batch_of, phase_of, standing_of}

-- the updates of its call aren't in the log yet
abbrev pub wants_at : Option ℕ → ℕ → Bool
wants_at None count = nat_lt 0 count
wants_at (Some first) count = false

-- its call has updates that are not in the log yet
abbrev pub wants : Node → Bool
wants node = wants_at (standing_of node) (length (batch_of node))

-- one attempt to append these updates: the loads of how many entries each node has taken, two stores for each update, the exchange
abbrev pub attempt_of : ℕ → List Update → ℕ
attempt_of nodes [] = 0
attempt_of nodes (update ∷ updates) = nodes + 2 * length (update ∷ updates) + 1

-- one attempt to append the updates of its call
abbrev pub attempt : Node → ℕ
attempt node = attempt_of node.nodes (batch_of node)

-- once its node has taken, applied and flushed: it looks at the head again and attempts to append, or the call is over soon
abbrev pub after_entries : Node → ℕ
after_entries node = if wants node then 5 + attempt node else 2

-- how many operations and entries it asks for at most, if it sees no further entries and no node lags
abbrev pub left_in : Phase → Node → ℕ
left_in phases.Looks node = 5 + (if wants node then attempt node else 0) + 6 * (node.seen - node.taken)
left_in phases.Scans node = node.nodes - node.next + 2 * length (batch_of node) + 5 + 6 * (node.seen - node.taken)
left_in phases.Lags node = 2 * length (batch_of node) + 5 + 6 * (node.seen - node.taken)
left_in phases.StoresFirst node = 2 * (length (batch_of node) - node.firsts) + 5 + 6 * (node.seen - node.taken)
left_in phases.StoresSecond node = 2 * (length (batch_of node) - node.seconds) + 4 + 6 * (node.seen - node.taken)
left_in phases.Swaps node = 5 + 6 * (node.seen - node.taken)
left_in phases.LoadsFirst node = 2 * (node.from - node.taken) + (node.seen - node.applied) + 2 + after_entries node
left_in phases.LoadsSecond node = 2 * (node.from - node.taken) + (node.seen - node.applied) + 1 + after_entries node
left_in phases.Raises node = node.seen - node.applied + 2 + after_entries node
left_in phases.Applies node = node.seen - node.applied + 1 + after_entries node
left_in phases.Flushes node = 1 + after_entries node
left_in phases.Checks node = 2
left_in phases.Publishes node = 1
left_in phase node = 0

-- how many operations and entries it asks for at most
abbrev pub left : Node → ℕ
left node = left_in (phase_of node) node

-- what each further entry that it sees may cost: it is taken and applied, and an attempt to append was lost to it
abbrev pub price : Node → ℕ
price node = attempt node + 6

-- a step of a call: it sees no fewer entries, and spends one of what is left. Each further entry adds its price, and a node that lagged the
-- loads of one attempt
pub record Spends (lagged : ℕ) (old new : Node) : Type 0 where
  pub nodes : new.nodes ≡ old.nodes
  pub batch : batch_of new ≡ batch_of old
  pub seen : old.seen ≤ new.seen
  pub spent : left new + 1 ≤ left old + price old * (new.seen - old.seen) + (old.nodes + 2) * lagged

-- how often a node lagged in so many steps
abbrev pub total : (ℕ → ℕ) → ℕ → ℕ
total lagged zero = 0
total lagged (suc count) = total lagged count + lagged count
