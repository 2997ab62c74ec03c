-- What contracts see of a node, and what it is by its log.
use Rattle.std.specs.Prelude.{◌≡◌, ℕ, ◌+◌, ◌≤◌, List, [], ◌∷◌, All, Option, Some, None, length, slice_get, slice_index}
use Rattle.vs_types.specs.Operation.{IsAction}
use Rattle.vs_types.specs.Space.{Space}
use Rattle.vs_types.specs.declared.addresses.depth.Depth.{Depth}
use Rattle.vs_types.specs.declared.log_entry.LogEntry.{LogEntry}
use Rattle.nr_ring.specs.LogHistory.{Log, tail, local_of, log_after}
use Rattle.nr_ring.specs.Pass.{Known}
use Rattle.nr_ring.specs.declared.ring.view.View.{View}
use Rattle.vs_types.specs.declared.limits.TheConstants.{RING}
use Rattle.nr_slots.specs.Updates.{Waiting}
use Rattle.nr_node.specs.Spaces.{space_at}
use Rattle.nr_node.specs.declared.held.Held.{Held}
use Rattle.nr_node.specs.declared.held.Held.TheVariants.{Nothing, Unplaced, Placed}

-- its log and what its pass knows of it, and how many tables it may have. How many entries of the log it has applied, and how many of these it
-- keeps no more. The calls of its batch that are not yet answered, and the place of the first of them, if they have places
pub record NodeState : Type 0 where
  pub known : Known
  pub tables : ℕ
  pub base : ℕ
  pub applied : ℕ
  pub batch : List Waiting
  pub first : Option ℕ

-- the replica that a pass owns
abbrev pub replica_of : View → ℕ
replica_of view = slice_index view.owns 0

-- how many entries of the log a pass has taken for its replica: the local tail after all that it has seen
abbrev pub taken_by : ℕ → View → ℕ
taken_by replicas view = local_of (log_after replicas view.seen) (replica_of view)

-- the log after all that a node's pass has seen
abbrev pub log_of : ℕ → NodeState → Log
log_of replicas node = log_after replicas node.known.view.seen

-- the address space of a node: that after the entries that it has applied
abbrev pub node_space : Depth → ℕ → NodeState → Space
node_space depth replicas node = space_at depth node.tables (log_of replicas node).entries node.applied

-- the calls of a batch are among entries one after another, from a place on
abbrev pub StandFrom : List LogEntry → ℕ → List Waiting → Type 0
StandFrom entries place batch = (i : ℕ) (waiting : Waiting) → slice_get batch i ≡ Some waiting
    → slice_get entries (place + i) ≡ Some (record { call = waiting.call; op = waiting.op })

-- a batch has places: its calls, of which there is one at least, are in the log from the first on, which is not below what is applied
pub record IsPlaced (log : Log) (applied first : ℕ) (batch : List Waiting) : Type 0 where
  pub some : 1 ≤ length batch
  pub above : applied ≤ first
  pub stand : StandFrom log.entries first batch

-- what each node is. Its pass owns a replica, which has taken no entry that the node has not applied. The node has applied none that is not there,
-- and its replica has taken those that it keeps no more. The calls of its batch are well formed at the log's depth, and at most 16. If they
-- have places, they are there
pub record IsNode (depth : Depth) (replicas : ℕ) (node : NodeState) : Type 0 where
  pub owner : node.known.view.owns ≡ replica_of node.known.view ∷ []
  pub behind : taken_by replicas node.known.view ≤ node.applied
  pub written : node.applied ≤ tail (log_of replicas node)
  pub kept : node.base ≤ taken_by replicas node.known.view
  pub fit : All (λ waiting. IsAction depth waiting.op) node.batch
  pub few : length node.batch ≤ RING
  pub placed : (first : ℕ) → node.first ≡ Some first → IsPlaced (log_of replicas node) node.applied first node.batch

-- a new node, with this pass and this limit of tables, keeps all and holds nothing
abbrev pub new_node : Known → ℕ → NodeState
new_node known tables = record { known = known; tables = tables; base = 0; applied = 0; batch = []; first = None }

-- what a batch is to its node: how many calls are not yet answered, and where the first is
abbrev pub held_of : List Waiting → Option ℕ → Held
held_of [] first = Nothing
held_of (call ∷ calls) None = Unplaced (length (call ∷ calls))
held_of (call ∷ calls) (Some place) = Placed place (length (call ∷ calls))
