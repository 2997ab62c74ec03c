-- What holds inside a replica.
use Rattle.std.specs.Prelude.{◌≡◌, ℕ, ◌+◌, ◌<◌, ◌≤◌, List, ◌++◌, Some, length, map, slice_get}
use Rattle.vs_types.specs.declared.addresses.depth.Depth.{Depth}
use Rattle.vs_types.specs.declared.limits.TheConstants.{LOG_PLACES, RING, TABLES}
use Rattle.vs_types.specs.declared.log_entry.LogEntry.{LogEntry}
use Rattle.nr_ring.specs.declared.cells.words.TheConstants.{MOST_PLACES}
use Rattle.vs_space.specs.Table.{PageTable, IsTableOf}
use Rattle.nr_node.specs.Spaces.{answer_at, space_of}
use Rattle.nr_node.specs.inside.AppliedEntry.{AppliedEntry}

-- what contracts see of a replica: its depth, how many tables it may have, how many of its entries it keeps no more, and the entries that
-- it has applied
pub record ReplicaState : Type 0 where
  pub depth : Depth
  pub tables : ℕ
  pub base : ℕ
  pub entries : List LogEntry

-- the entries that a replica has applied and keeps no more, and how many they are
pub record PastState : Type 0 where
  pub count : ℕ
  pub entries : List LogEntry

abbrev pub entries_told : List AppliedEntry → List LogEntry
entries_told told = map (λ t. t.entry) told

-- how many entries a replica keeps at most: those of a log of 65,536 places, and those of one turn
abbrev pub most_kept : ℕ
most_kept = LOG_PLACES + (RING + RING)

-- the page table is that of the space after the entries, which are those that are kept no more and those that are kept, each with its
-- answer; there is room for as many as may be kept
pub record IsReplica (table : PageTable) (base : ℕ) (past : List LogEntry) (told : List AppliedEntry) (room : ℕ) : Type 0 where
  pub base_is : base ≡ length past
  pub table_of : IsTableOf table (space_of table.depth table.limit (past ++ entries_told told))
  pub answers : (place : ℕ) (t : AppliedEntry) → slice_get told place ≡ Some t
      → t.answer ≡ answer_at table.depth table.limit (past ++ entries_told told) (base + place) t.entry.op
  pub low : base ≤ MOST_PLACES
  pub few : length told ≤ most_kept
  pub tables : table.limit ≤ TABLES
  pub reserved : most_kept ≤ room

-- what is kept of a place is its entry with its answer
pub record IsKeptAt (replica : ReplicaState) (place : ℕ) (told : AppliedEntry) : Type 0 where
  pub above : replica.base ≤ place
  pub below : place < length replica.entries
  pub stands : slice_get replica.entries place ≡ Some told.entry
  pub answered : told.answer ≡ answer_at replica.depth replica.tables replica.entries place told.entry.op
