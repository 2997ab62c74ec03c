-- The log as one thread keeps it (Node Replication, ASPLOS 2017): what may happen to it, and what it is after that.
use Rattle.std.specs.Prelude.{ℕ, ◌+◌, ◌<◌, ◌≤◌, max, List, [], ◌∷◌, ◌++◌, All, length, replicate, slice_index, slice_set, ⊤}
use Rattle.vs_types.specs.LogEntry.{IsLogEntry}
use Rattle.vs_types.specs.declared.addresses.depth.Depth.{Depth}
use Rattle.vs_types.specs.declared.log_entry.LogEntry.{LogEntry}
use Rattle.nr_ring.specs.declared.ring.log_event.LogEvent.{LogEvent}
use Rattle.nr_ring.specs.declared.cells.words.TheConstants.{MOST_PLACES}
use Rattle.nr_ring.specs.declared.ring.log_event.LogEvent.TheVariants.{Append, Advance}
use Rattle.vs_types.specs.declared.limits.TheConstants.{RING}

-- all entries since the start, and how many of them each replica has taken: its local tail
pub record Log : Type 0 where
  pub entries : List LogEntry
  pub locals : List ℕ

-- the new log of so many replicas
abbrev pub new_log : ℕ → Log
new_log replicas = record { entries = []; locals = replicate replicas 0 }

-- the place at which the next entry will be
abbrev pub tail : Log → ℕ
tail log = length log.entries

-- the place up to which a replica has taken entries
abbrev pub local_of : Log → ℕ → ℕ
local_of log replica = slice_index log.locals replica

-- the greatest of some numbers, or 0
abbrev pub greatest : List ℕ → ℕ
greatest [] = 0
greatest (x ∷ xs) = max x (greatest xs)

-- the greatest local tail
abbrev pub completed : Log → ℕ
completed log = greatest log.locals

-- a log of so many places has room for so many entries more
abbrev pub HasRoom : ℕ → Log → ℕ → Type 0
HasRoom places log n = tail log + n ≤ places

-- no replica has more than 16 entries to take
abbrev pub AllKeepUp : Log → ℕ → Type 0
AllKeepUp log n = (replica : ℕ) → replica < length log.locals → tail log + n ≤ local_of log replica + RING

-- a batch may be appended: 1 to 16 entries at the log's depth, of which no log has more than MOST_PLACES
pub record MayAppend (depth : Depth) (log : Log) (batch : List LogEntry) : Type 0 where
  pub some : 1 ≤ length batch
  pub few : length batch ≤ RING
  pub entries : All (IsLogEntry depth) batch
  pub room : HasRoom MOST_PLACES log (length batch)
  pub kept_up : AllKeepUp log (length batch)

-- a replica may take the entries up to a place: at least one, and none that is not there
pub record MayAdvance (log : Log) (replica to : ℕ) : Type 0 where
  pub there : replica < length log.locals
  pub some : local_of log replica < to
  pub written : to ≤ tail log

-- an event may come next: an append of a batch, or an advance of a replica
abbrev pub MayFollow : Depth → Log → LogEvent → Type 0
MayFollow depth log (Append batch) = MayAppend depth log batch
MayFollow depth log (Advance replica to) = MayAdvance log replica to

-- the log after an event
abbrev pub log_after_event : Log → LogEvent → Log
log_after_event log (Append batch) = record { entries = log.entries ++ batch; locals = log.locals }
log_after_event log (Advance replica to) = record { entries = log.entries; locals = slice_set log.locals replica to }

-- the log after events
abbrev pub log_after_events : Log → List LogEvent → Log
log_after_events log [] = log
log_after_events log (event ∷ events) = log_after_events (log_after_event log event) events

-- each event may follow those before it
abbrev pub MayGoOn : Depth → Log → List LogEvent → Type 0
MayGoOn depth log [] = ⊤
MayGoOn depth log (event ∷ events) = MayFollow depth log event × MayGoOn depth (log_after_event log event) events

-- a history of the log of so many replicas, and the log after it
abbrev pub IsLogHistory : Depth → ℕ → List LogEvent → Type 0
IsLogHistory depth replicas events = MayGoOn depth (new_log replicas) events

-- the log of so many replicas after events
abbrev pub log_after : ℕ → List LogEvent → Log
log_after replicas events = log_after_events (new_log replicas) events

-- a batch of so many entries would go past the end of a log of so many places
abbrev pub IsEnded : ℕ → Log → ℕ → Type 0
IsEnded places log n = places < tail log + n

-- some replica has still to take an entry whose place in the ring a batch of so many entries needs
abbrev pub IsFull : Log → ℕ → Type 0
IsFull log n = (replica : ℕ) × (replica < length log.locals) × (local_of log replica + RING < tail log + n)
