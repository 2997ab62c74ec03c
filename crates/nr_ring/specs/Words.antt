-- The words of a log; and where its entries lie: each pass has a ring of 16 places of its own beside the cell, and writes its entries there.
use Rattle.std.specs.Prelude.{◌≡◌, ◌⊎◌, ℕ, zero, suc, ◌+◌, ◌*◌, ◌%◌, ◌^◌, ◌<◌, ◌≤◌, max, List, [], ◌∷◌, ◌++◌, Contains, Some, length, replicate, slice_get}
use Rattle.std.specs.Prelude.{slice_index, slice_set}
use Rattle.vs_types.specs.LogEntry.{log_words}
use Rattle.vs_types.specs.declared.limits.TheConstants.{REPLICAS, RING}
use Rattle.vs_types.specs.declared.log_entry.LogEntry.{LogEntry}
use Rattle.nr_ring.specs.LogHistory.{Log, completed, local_of, log_after, tail}
use Rattle.nr_ring.specs.declared.ring.log_event.LogEvent.{LogEvent}
use Rattle.nr_ring.specs.declared.ring.log_event.LogEvent.TheVariants.{Append, Advance}
use Rattle.nr_ring.specs.declared.cells.stored.Stored.{Stored}
use Rattle.nr_ring.specs.declared.ring.view.View.{View}
use Rattle.nr_ring.specs.declared.cells.words.TheConstants.{CELL_WORDS, TAIL_WORD, COMPLETED_WORD, LOCAL_WORDS, COUNT_WORD, ENTRY_WORDS}

-- the index of the first of the two words of an entry among the words of its log
abbrev pub word_of : ℕ → ℕ
word_of place = ENTRY_WORDS + 2 * (place % RING)

-- the tail, the completed tail, four local tails (of which those of absent replicas are 0), and the number of replicas. Then
-- each of the last 16 entries in the two words of its place; words that no entry has had are 0
pub record IsWordsOf (log : Log) (words : List ℕ) : Type 0 where
  pub long : length words ≡ CELL_WORDS
  pub tail_is : slice_index words TAIL_WORD ≡ tail log
  pub completed_is : slice_index words COMPLETED_WORD ≡ completed log
  pub locals_are : (replica : ℕ) → replica < REPLICAS → slice_index words (LOCAL_WORDS + replica) ≡ local_of log replica
  pub replicas_are : slice_index words COUNT_WORD ≡ length log.locals
  pub entries_are : (place : ℕ) (entry : LogEntry) (k : ℕ) → slice_get log.entries place ≡ Some entry → tail log ≤ place + RING → k < 2
      → slice_index words (word_of place + k) ≡ slice_index (log_words entry) k
  pub unused : (word : ℕ) → ENTRY_WORDS + 2 * tail log ≤ word → slice_index words word ≡ 0

-- the words after a replica has taken the entries up to a place
abbrev pub advanced_words : ℕ → ℕ → List ℕ → List ℕ
advanced_words replica to words = slice_set (slice_set words COMPLETED_WORD (max (slice_index words COMPLETED_WORD) to)) (LOCAL_WORDS + replica) to

-- the words after a batch was appended: its entries are at their places, the tail has risen, and all else is as before
pub record IsAppended (log : Log) (batch : List LogEntry) (before after : List ℕ) : Type 0 where
  pub long : length after ≡ CELL_WORDS
  pub tail_is : slice_index after TAIL_WORD ≡ tail log + length batch
  pub head_stays : (word : ℕ) → TAIL_WORD < word → word < ENTRY_WORDS → slice_index after word ≡ slice_index before word
  pub entries_are : (i : ℕ) (entry : LogEntry) (k : ℕ) → slice_get batch i ≡ Some entry → k < 2
      → slice_index after (word_of (tail log + i) + k) ≡ slice_index (log_words entry) k
  pub others_stay : (word : ℕ) → ENTRY_WORDS ≤ word → ((i : ℕ) → i < length batch → (word < word_of (tail log + i)) ⊎ (word_of (tail log + i) + 2 ≤ word))
      → slice_index after word ≡ slice_index before word

-- the words of a new log of so many replicas
abbrev pub new_words : ℕ → List ℕ
new_words replicas = slice_set (replicate CELL_WORDS 0) COUNT_WORD replicas

-- the index of the first of the two words of an entry beside the cell, in a ring
abbrev pub spot : ℕ → ℕ → ℕ
spot ring place = 2 * RING * ring + 2 * (place % RING)

-- the two words of an entry: the second has above its 56 bits the ring of the entry before it
abbrev pub stored_words : LogEntry → ℕ → List ℕ
stored_words entry before = slice_index (log_words entry) 0 ∷ (slice_index (log_words entry) 1 + before * 2 ^ 56) ∷ []

-- the ring of the entry before a place; 0 where there is none
abbrev pub ring_before : List ℕ → ℕ → ℕ
ring_before rings place = slice_index (0 ∷ rings) place

-- the ring of the last entry
abbrev pub last_ring : Stored → ℕ
last_ring stored = ring_before stored.rings (length stored.rings)

-- a replica has still to take an entry of a log that this word is of
pub record NeededBy (log : Log) (rings : List ℕ) (replica at word : ℕ) : Type 0 where
  pub place : ℕ
  pub entry : LogEntry
  pub k : ℕ
  pub present : replica < length log.locals
  pub untaken : local_of log replica ≤ place
  pub there : slice_get log.entries place ≡ Some entry
  pub two : k < 2
  pub at_is : at ≡ spot (slice_index rings place) place + k
  pub word_is : word ≡ slice_index (stored_words entry (ring_before rings place)) k

-- some replica has still to take an entry of the log that this word is of
abbrev pub Needs : ℕ → Stored → ℕ → ℕ → Type 0
Needs replicas stored at word = (replica : ℕ) × NeededBy (log_after replicas stored.history) stored.rings replica at word

-- a pass that has seen all that there is can count on the words that a replica of its own needs: nobody else advances it
abbrev pub Lasts : ℕ → View → Stored → ℕ → ℕ → Type 0
Lasts replicas view stored at word = (stored.history ≡ view.seen)
    × ((replica : ℕ) × Contains view.owns replica × NeededBy (log_after replicas stored.history) stored.rings replica at word)

-- the rings of the entries after an event of a pass with this ring
abbrev pub rings_after : ℕ → List ℕ → LogEvent → List ℕ
rings_after ring rings (Append batch) = rings ++ replicate (length batch) ring
rings_after ring rings (Advance replica to) = rings

-- the history and the rings after an event of a pass with this ring
abbrev pub stored_after_event : ℕ → Stored → LogEvent → Stored
stored_after_event ring stored event = record { history = stored.history ++ event ∷ []; rings = rings_after ring stored.rings event }

-- the history and the rings after some events of a pass with this ring
abbrev pub stored_after : ℕ → Stored → List LogEvent → Stored
stored_after ring stored [] = stored
stored_after ring stored (event ∷ events) = stored_after ring (stored_after_event ring stored event) events

-- the ring of the one before each entry of a batch: the first follows what was there
abbrev pub link : ℕ → ℕ → ℕ → ℕ
link before ring zero = before
link before ring (suc i) = ring

-- the word is one of an entry of a batch, from a place on in a ring
pub record IsOfBatch (ring before place : ℕ) (batch : List LogEntry) (at word : ℕ) : Type 0 where
  pub i : ℕ
  pub entry : LogEntry
  pub k : ℕ
  pub there : slice_get batch i ≡ Some entry
  pub two : k < 2
  pub at_is : at ≡ spot ring (place + i) + k
  pub word_is : word ≡ slice_index (stored_words entry (link before ring i)) k

-- a word of a ring is one of the log's words, where the second of an entry has the ring of the one before it above its 56 bits
pub record IsWordOfLog (rings words : List ℕ) (at word : ℕ) : Type 0 where
  pub place : ℕ
  pub k : ℕ
  pub two : k < 2
  pub at_is : at ≡ spot (slice_index rings place) place + k
  pub word_is : word ≡ slice_index words (word_of place + k) + k * (ring_before rings place * 2 ^ 56)
