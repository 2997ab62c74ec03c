-- What holds inside a node.
use Rattle.std.specs.Prelude.{◌≡◌, ℕ, ◌+◌, List, Option, length, take}
use Rattle.vs_types.specs.declared.addresses.depth.Depth.{Depth}
use Rattle.nr_ring.specs.Pass.{Known}
use Rattle.nr_ring.specs.declared.ring.view.View.{View}
use Rattle.nr_slots.specs.Updates.{Waiting}
use Rattle.nr_node.specs.Node.{NodeState, log_of, taken_by}
use Rattle.nr_node.specs.inside.Replica.{ReplicaState}

abbrev pub node_state : Known → ReplicaState → List Waiting → Option ℕ → NodeState
node_state known replica batch first = record {
  known = known;
  tables = replica.tables;
  base = replica.base;
  applied = length replica.entries;
  batch = batch;
  first = first;
}

-- so many entries are applied above the local tail
abbrev pub IsAhead : ℕ → View → ReplicaState → ℕ → Type 0
IsAhead replicas view replica ahead = taken_by replicas view + ahead ≡ length replica.entries

-- the replica has applied the first entries of the log
pub record Follows (depth : Depth) (replicas : ℕ) (node : NodeState) (replica : ReplicaState) : Type 0 where
  pub depth_is : replica.depth ≡ depth
  pub entries : replica.entries ≡ take node.applied (log_of replicas node).entries
