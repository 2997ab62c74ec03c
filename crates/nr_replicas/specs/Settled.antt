-- What is left of the replicas when all is done.
use Rattle.std.specs.Prelude.{◌≡◌, ℕ, ◌+◌, ◌≤◌, List, All, Some, drop, length, map, slice_get}
use Rattle.std.specs.FinMap as finite
use Rattle.vs_types.specs.Space.{table_count}
use Rattle.vs_types.specs.declared.addresses.depth.Depth.{Depth}
use Rattle.vs_types.specs.declared.limits.TheConstants.{TABLES}
use Rattle.vs_walk.specs.Dump.{Image}
use Rattle.vs_walk.specs.Walk.{TranslatesAs}
use Rattle.nr_ring.specs.LogHistory.{Log, IsLogHistory, completed, local_of, log_after, tail}
use Rattle.nr_ring.specs.Pass.{Known}
use Rattle.nr_ring.specs.View.{StartsWith}
use Rattle.nr_ring.specs.declared.ring.log_event.LogEvent.{LogEvent}
use Rattle.nr_node.specs.Spaces.{space_at}

-- a dump of a replica, whose entries are counted from this place on. It is a page table that translates as the space after all entries that the
-- replica has applied. It has as many frames as that space has tables, at most 4,096
pub record IsDumpOf (depth : Depth) (tables base : ℕ) (log : Log) (dump : Image) : Type 0 where
  pub applied : base + dump.applied ≤ tail log
  pub translates : TranslatesAs depth dump.frames dump.root (space_at depth tables log.entries (base + dump.applied))
  pub frames : finite.len dump.frames ≡ table_count depth (space_at depth tables log.entries (base + dump.applied))
  pub few : finite.len dump.frames ≤ TABLES

-- the calls of one log from this place on, and a dump of each replica, by number, after just the entries that it has taken. The log begins with
-- all that each of these passes has seen, and fits so many places
pub record IsSettled (depth : Depth) (replicas places tables base : ℕ) (passes : List Known) (calls : List ℕ) (dumps : List Image) : Type 0 where
  pub history : List LogEvent
  pub is_history : IsLogHistory depth replicas history
  pub begins : All (λ pass. StartsWith history pass.view.seen) passes
  pub ends : tail (log_after replicas history) ≤ places
  pub calls_are : calls ≡ map (λ entry. entry.call) (drop base (log_after replicas history).entries)
  pub one_each : length dumps ≡ replicas
  pub dumps_are : All (IsDumpOf depth tables base (log_after replicas history)) dumps
  pub taken : (replica : ℕ) (dump : Image) → slice_get dumps replica ≡ Some dump
      → base + dump.applied ≡ local_of (log_after replicas history) replica

-- a cut: the calls of one log from this place on, which begins with all that each pass had seen, fits so many places and is completed. Each
-- pass has then seen all of it, and each replica has a dump after all its entries
pub record IsCut (depth : Depth) (replicas places tables base : ℕ) (before after : List Known) (calls : List ℕ) (dumps : List Image) : Type 0 where
  pub history : List LogEvent
  pub is_history : IsLogHistory depth replicas history
  pub begins : All (λ pass. StartsWith history pass.view.seen) before
  pub heard : All (λ pass. StartsWith pass.view.seen history) after
  pub ends : tail (log_after replicas history) ≤ places
  pub base_below : base ≤ tail (log_after replicas history)
  pub calls_are : calls ≡ map (λ entry. entry.call) (drop base (log_after replicas history).entries)
  pub one_each : length dumps ≡ replicas
  pub dumps_are : All (IsDumpOf depth tables base (log_after replicas history)) dumps
  pub all_applied : All (λ dump. base + dump.applied ≡ tail (log_after replicas history)) dumps
  pub completed_is : completed (log_after replicas history) ≡ tail (log_after replicas history)
