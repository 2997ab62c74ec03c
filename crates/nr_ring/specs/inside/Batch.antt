-- A batch on its way into a ring, and the bounds that bar it.
use Rattle.std.specs.Prelude.{◌≡◌, ◌⊎◌, ℕ, ◌+◌, ◌*◌, ◌%◌, ◌<◌, ◌≤◌, List, Some, length, slice_get, slice_index}
use Rattle.vs_types.specs.declared.limits.TheConstants.{REPLICAS}
use Rattle.vs_types.specs.declared.log_entry.LogEntry.{LogEntry}
use Rattle.nr_ring.specs.LogHistory.{Log, AllKeepUp, HasRoom, IsEnded, IsFull}
use Rattle.nr_ring.specs.Pass.{tails_of}
use Rattle.version_cell.specs.Passes.{CellPass}
use Rattle.version_cell.specs.Words.{LiesIn}
use Rattle.nr_ring.specs.Words.{Needs, link, stored_after, stored_words}
use Rattle.nr_ring.specs.declared.ring.log_event.LogEvent.{LogEvent}
use Rattle.nr_ring.specs.declared.cells.stored.Stored.{Stored}
use Rattle.nr_ring.specs.declared.ring.view.View.{View}
use Rattle.nr_ring.specs.declared.ring.tails.AppendFault.{AppendFault}
use Rattle.nr_ring.specs.declared.ring.tails.AppendFault.TheVariants.{LogEnded, Full, Moved}
use Rattle.vs_types.specs.declared.limits.TheConstants.{RING}
use Rattle.nr_ring.specs.declared.cells.words.TheConstants.{COUNT_WORD, LAST_WORD, MOST_PLACES, RINGS, RING_WORDS}

-- the bound that bars so many entries from a log of so many places
abbrev pub Bars : ℕ → Log → ℕ → AppendFault → Type 0
Bars places log n LogEnded = IsEnded places log n
Bars places log n (Full tails) = (tails ≡ tails_of log) × HasRoom places log n × IsFull log n
Bars places log n (Moved tails) = ⊥

-- why so many entries were not appended to the log, where another pass's event came in between
abbrev pub Explains : ℕ → Log → ℕ → AppendFault → Type 0
Explains places log n LogEnded = IsEnded places log n
Explains places log n (Full tails) = (tails ≡ tails_of log) × HasRoom places log n × IsFull log n
Explains places log n (Moved tails) = (tails ≡ tails_of log) × HasRoom places log n × AllKeepUp log n

-- the first n entries of a batch are in the words of a ring, at their places from one on
pub record IsWritten (ring before place n : ℕ) (batch : List LogEntry) (own : List ℕ) : Type 0 where
  pub long : length own ≡ RING_WORDS
  pub entries_are : (i : ℕ) (entry : LogEntry) (k : ℕ) → i < n → slice_get batch i ≡ Some entry → k < 2
      → slice_index own (2 * ((place + i) % RING) + k) ≡ slice_index (stored_words entry (link before ring i)) k

-- each word that what is there after events of a pass with this ring needs is needed already, or lies in the pass's own ring
abbrev pub AreStored : ℕ → ℕ → List LogEvent → CellPass View Stored → Type 0
AreStored replicas ring events pass = (at word : ℕ) → Needs replicas (stored_after ring pass.value events) at word
    → Needs replicas pass.value at word ⊎ LiesIn pass.from pass.own at word

-- what a head says is small
pub record AreSmall (head : List ℕ) : Type 0 where
  pub tails : (word : ℕ) → word < COUNT_WORD → slice_index head word ≤ MOST_PLACES
  pub replicas : slice_index head COUNT_WORD ≤ REPLICAS
  pub last : slice_index head LAST_WORD < RINGS
