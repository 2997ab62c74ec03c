-- What holds while the replicas are settled.
use Rattle.std.specs.Prelude.{◌≡◌, ℕ, ◌+◌, ◌≤◌, List, [], ◌∷◌, All, ⊤}
use Rattle.std.specs.List.{AllZip}
use Rattle.vs_types.specs.declared.addresses.depth.Depth.{Depth}
use Rattle.vs_walk.specs.Dump.{Image}
use Rattle.nr_ring.specs.LogHistory.{IsLogHistory, log_after, tail}
use Rattle.nr_ring.specs.Pass.{Known}
use Rattle.nr_ring.specs.View.{HasSeenAdvances, StartsWith}
use Rattle.nr_ring.specs.declared.ring.log_event.LogEvent.{LogEvent}
use Rattle.nr_node.specs.Node.{NodeState, replica_of, taken_by}
use Rattle.nr_replicas.specs.Replicas.{HasHeard}
use Rattle.nr_replicas.specs.Settled.{IsDumpOf}

-- a dump after the entries that this pass has seen its own replica take, or more
abbrev pub HasAppliedOwn : ℕ → ℕ → Known → Image → Type 0
HasAppliedOwn replicas base pass dump = taken_by replicas pass.view ≤ base + dump.applied

-- these passes own the replicas from this one on, one each
abbrev pub OwnInTurn : ℕ → List Known → Type 0
OwnInTurn replica [] = ⊤
OwnInTurn replica (pass ∷ passes) = (pass.view.owns ≡ replica ∷ []) × OwnInTurn (replica + 1) passes

-- these passes own one replica each, none of them below this one or below one before it
abbrev pub OwnRising : ℕ → List Known → Type 0
OwnRising least [] = ⊤
OwnRising least (pass ∷ passes) =
    (pass.view.owns ≡ replica_of pass.view ∷ []) × (least ≤ replica_of pass.view) × OwnRising (replica_of pass.view) passes

-- the history goes on from what a pass has seen without an advance of the replica that it owns
abbrev pub HasSeenOwnAdvances : List LogEvent → Known → Type 0
HasSeenOwnAdvances history pass = All (λ replica. HasSeenAdvances replica history pass.view.seen) pass.view.owns

-- dumps of nodes with these passes, in the same order: each is of the log that its node's pass has seen, after the entries that its
-- replica has taken there, or more
abbrev pub AreDumpsOf : Depth → ℕ → ℕ → ℕ → List Known → List Image → Type 0
AreDumpsOf depth replicas tables base [] [] = ⊤
AreDumpsOf depth replicas tables base (pass ∷ passes) (dump ∷ dumps) =
    IsDumpOf depth tables base (log_after replicas pass.view.seen) dump × HasAppliedOwn replicas base pass dump
    × AreDumpsOf depth replicas tables base passes dumps
AreDumpsOf depth replicas tables base passes dumps = ⊥

-- a pass has then seen all of this history, and has heard of more or as much
abbrev pub WasTold : Depth → ℕ → List LogEvent → Known → Known → Type 0
WasTold depth replicas history before after = HasHeard depth replicas before.view after.view × StartsWith after.view.seen history

-- nodes and passes have met: a history of so many entries begins with all that they had seen, and each pass has then seen all of it
pub record HaveMet (depth : Depth) (replicas places count : ℕ) (nodes : List NodeState) (before after : List Known) : Type 0 where
  pub history : List LogEvent
  pub is_history : IsLogHistory depth replicas history
  pub nodes_begin : All (λ node. StartsWith history node.known.view.seen) nodes
  pub begins : All (λ pass. StartsWith history pass.view.seen) before
  pub told : AllZip (WasTold depth replicas history) before after
  pub count_is : count ≡ tail (log_after replicas history)
  pub ends : tail (log_after replicas history) ≤ places

-- a node holds no update, and has applied so many entries, all of which its replica has taken
pub record IsDone (replicas count : ℕ) (node : NodeState) : Type 0 where
  pub idle : node.batch ≡ []
  pub all : node.applied ≡ count
  pub taken : taken_by replicas node.known.view ≡ node.applied

-- a node that keeps none of the entries any more that it has applied
abbrev pub forgotten : NodeState → NodeState
forgotten node = record node { base = node.applied }
