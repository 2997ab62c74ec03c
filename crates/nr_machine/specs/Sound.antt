-- A machine as a call leaves it.
use Rattle.std.specs.Prelude.{◌≡◌, ℕ, ◌+◌, ◌-◌, ◌^◌, ◌<◌, ◌≤◌, min, Option, Some, None, IsSome, List, length, ⊤}
use Rattle.nr_machine.specs.declared.asked.Reply.{Reply}
use Rattle.nr_machine.specs.declared.node.Node.{Node}
use Rattle.nr_machine.specs.declared.phase.Phase.{Phase}
use Rattle.nr_machine.specs.declared.phase.Phase.TheVariants as phases
use Rattle.nr_machine.specs.Actor.{HasRoom, update_at}
use Rattle.nr_machine.specs.Fields.{AreFew, batch_of, got_of, half_of, phase_of, replies_of, standing_of}
use Rattle.nr_machine.specs.Machine.{actor_of}

-- it has the replies to those of its updates that are applied
abbrev pub Replied : Option ℕ → ℕ → ℕ → ℕ → Type 0
Replied None count applied replies = replies ≡ 0
Replied (Some first) count applied replies = replies ≡ min (applied - first) count

-- its updates are in the log below the tail that it saw
abbrev pub StandsBelow : Option ℕ → ℕ → ℕ → Type 0
StandsBelow None count seen = ⊤
StandsBelow (Some first) count seen = first + count ≤ seen

-- it has no updates, or they are in the log
abbrev pub IsSettled : Option ℕ → ℕ → Type 0
IsSettled None count = count ≡ 0
IsSettled (Some first) count = ⊤

-- it wants to append its updates, and its own node has taken enough for that
pub record IsWanting (node : Node) : Type 0 where
  pub standing : standing_of node ≡ None
  pub some : 0 < length (batch_of node)
  pub even : node.applied ≡ node.taken
  pub room : node.seen + length (batch_of node) ≤ node.taken + 16
  pub within : node.seen + 16 < 2 ^ 57
  pub last : node.last < 128

-- and every other node, and it has stored so many words
pub record IsStoring (node : Node) (count : ℕ) : Type 0 where
  pub wants : IsWanting node
  pub room : HasRoom node.nodes (actor_of node)
  pub below : count < length (batch_of node)

-- its node has applied all that it has seen
abbrev pub IsUpToDate : Node → Type 0
IsUpToDate node = (node.applied ≡ node.taken) × (node.taken ≡ node.seen)

-- what a machine knows in each phase
abbrev pub IsIn : Phase → Node → Type 0
IsIn phases.Rest node = IsUpToDate node × (node.applied ≤ node.published) × IsSettled (standing_of node) (length (batch_of node))
IsIn phases.Looks node = (node.applied ≡ node.taken) × (standing_of node ≡ None)
IsIn phases.Scans node = IsWanting node × (node.next < node.nodes) × (node.next ≤ node.asked) × (node.firsts ≡ 0) × (node.seconds ≡ 0)
    × (0 < node.next → (node.asked ≡ node.next) × (node.seen + length (batch_of node) ≤ node.least + 16))
IsIn phases.Lags node = (node.applied ≡ node.taken) × (standing_of node ≡ None) × (node.next < node.nodes)
    × (node.asked ≡ node.next + 1) × (node.least + 16 < node.seen + length (batch_of node))
IsIn phases.StoresFirst node = IsStoring node node.firsts × (node.seconds ≡ node.firsts)
IsIn phases.StoresSecond node = IsStoring node node.seconds × (node.firsts ≡ node.seconds + 1)
IsIn phases.Swaps node = IsWanting node × HasRoom node.nodes (actor_of node)
    × (node.firsts ≡ length (batch_of node)) × (node.seconds ≡ length (batch_of node))
IsIn phases.LoadsFirst node = (node.applied ≡ node.taken) × (node.taken < node.from)
IsIn phases.LoadsSecond node = (node.applied ≡ node.taken) × (node.taken < node.from) × IsSome (half_of node)
IsIn phases.Raises node = (node.applied ≡ node.taken) × (node.from ≡ node.taken) × (node.taken < node.seen)
IsIn phases.Applies node = (node.taken ≡ node.seen) × (node.from ≡ node.applied) × (0 < length (got_of node))
IsIn phases.Flushes node = IsUpToDate node
IsIn phases.Checks node = IsUpToDate node × IsSettled (standing_of node) (length (batch_of node))
IsIn phases.Publishes node = IsUpToDate node × IsSettled (standing_of node) (length (batch_of node))
IsIn phases.Broken node = ⊤

-- the machine is as a call left it
pub record IsSound (node : Node) : Type 0 where
  pub nodes : node.nodes ≤ 64
  pub number : node.number < node.nodes
  pub links : (node.last < node.nodes) × (node.ring < node.nodes)
  pub few : AreFew node
  pub small : (i : ℕ) → (update_at (batch_of node) i).second < 2 ^ 57
  pub seen : node.seen < 2 ^ 57
  pub order : (node.applied ≤ node.taken) × (node.taken ≤ node.seen) × (node.seen ≤ node.taken + 16)
  pub count : node.from + length (got_of node) ≡ node.seen
  pub standing : StandsBelow (standing_of node) (length (batch_of node)) node.seen
  pub replied : Replied (standing_of node) (length (batch_of node)) node.applied (length (replies_of node))
  pub phase : IsIn (phase_of node) node
