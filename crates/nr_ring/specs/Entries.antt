-- Appending entries to a log, and taking them.
use Rattle.std.specs.Prelude.{◌≡◌, ℕ, List, [], ◌∷◌, ◌++◌, drop}
use Rattle.vs_types.specs.declared.addresses.depth.Depth.{Depth}
use Rattle.vs_types.specs.declared.log_entry.LogEntry.{LogEntry}
use Rattle.nr_ring.specs.LogHistory.{Log, AllKeepUp, HasRoom, IsEnded, IsFull, IsLogHistory, local_of, log_after, tail}
use Rattle.nr_ring.specs.Calls.{HasLooked, HasMoved, HasTaken, with_event}
use Rattle.nr_ring.specs.Pass.{tails_of}
use Rattle.nr_ring.specs.declared.ring.log_event.LogEvent.TheVariants.{Append}
use Rattle.nr_ring.specs.declared.ring.tails.AppendFault.{AppendFault}
use Rattle.nr_ring.specs.declared.ring.tails.AppendFault.TheVariants.{LogEnded, Full, Moved}
use Rattle.nr_ring.specs.declared.ring.view.View.{View}

-- the entries that a replica has still to take
abbrev pub to_take : Log → ℕ → List LogEntry
to_take log replica = drop (local_of log replica) log.entries

-- the pass looked, and then took for its replica all entries that there were, which are these
pub record HasTakenAll (depth : Depth) (replicas : ℕ) (before : View) (entries : List LogEntry) (after : View) : Type 0 where
  pub between : View
  pub looked : HasLooked depth replicas before between
  pub taken : HasTaken replicas between (tail (log_after replicas between.seen)) after
  pub entries_are : (replica : ℕ) → before.owns ≡ replica ∷ [] → entries ≡ to_take (log_after replicas between.seen) replica
  pub history : IsLogHistory depth replicas after.seen

-- the pass looked, and then appended the batch and nothing else: the batch is at the end of the log, from this place on
pub record HasAppended (depth : Depth) (replicas : ℕ) (before : View) (batch : List LogEntry) (place : ℕ) (after : View) : Type 0 where
  pub seen_before : View
  pub looked : HasLooked depth replicas before seen_before
  pub appended : after ≡ with_event seen_before (Append batch)
  pub place_is : place ≡ tail (log_after replicas seen_before.seen)

-- the pass appended the batch, as one that appends, and then took for its replica all entries that there were, these and the batch
pub record HasAppendedAndTaken (depth : Depth) (replicas : ℕ) (before : View) (batch : List LogEntry) (place : ℕ) (entries : List LogEntry)
    (after : View) : Type 0 where
  pub between : View
  pub appended : HasAppended depth replicas before batch place between
  pub taken : HasTakenAll depth replicas between (entries ++ batch) after

-- why a batch of so many entries was not appended to the log of so many places that the pass has then seen. It would go past its end, or
-- it is full, or it is neither, but another pass's event came. The tails in the answer are the log's
abbrev pub IsReason : ℕ → Log → ℕ → View → View → AppendFault → Type 0
IsReason places log n before after LogEnded = IsEnded places log n
IsReason places log n before after (Full tails) = (tails ≡ tails_of log) × HasRoom places log n × IsFull log n
IsReason places log n before after (Moved tails) = (tails ≡ tails_of log) × HasRoom places log n × AllKeepUp log n × HasMoved before after
