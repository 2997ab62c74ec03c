-- The history of the log of `nr_ring` that a schedule makes, where each update means an entry of that log.
use Rattle.std.specs.Prelude.{◌≡◌, ℕ, zero, suc, ◌<◌, ◌≤◌, ◌==◌, nat_lt, if◌then◌else◌, List, [], ◌∷◌, ◌++◌, map, length, All, ⊤}
use Rattle.vs_types.specs.LogEntry.{IsLogEntry}
use Rattle.vs_types.specs.declared.addresses.depth.Depth.{Depth}
use Rattle.vs_types.specs.declared.log_entry.LogEntry.{LogEntry}
use Rattle.nr_ring.specs.LogHistory.{Log, local_of}
use Rattle.nr_ring.specs.declared.cells.words.TheConstants.{MOST_PLACES}
use Rattle.nr_ring.specs.declared.ring.log_event.LogEvent.{LogEvent}
use Rattle.nr_ring.specs.declared.ring.log_event.LogEvent.TheVariants.{Append, Advance}
use Rattle.nr_machine.specs.declared.words.Operation.{Operation}
use Rattle.nr_machine.specs.declared.words.Operation.TheVariants.{Store, Exchange}
use Rattle.nr_machine.specs.declared.words.Word.TheVariants.{Local}
use Rattle.nr_machine.specs.declared.words.Update.{Update}
use Rattle.nr_machine.specs.Words.{loaded}
use Rattle.nr_machine.specs.World.{Act, Plays, World, acted, opening, played}
use Rattle.nr_machine.specs.World.Act.{Begins, Does}

-- an exchange of the head that succeeds appends the batch of its call, and a store of how many entries a node has taken advances it
abbrev pub events_of_operation : (Update → LogEntry) → World → ℕ → Operation → List LogEvent
events_of_operation means w n (Exchange word old new) = if loaded w.words word == old then Append (map means (w.actor n).batch) ∷ [] else []
events_of_operation means w n (Store (Local r) value) = if nat_lt (w.words.local r) value then Advance r value ∷ [] else []
events_of_operation means w n operation = []

-- the events of the log that a step of a schedule makes
abbrev pub events_of : (Update → LogEntry) → World → Act → List LogEvent
events_of means w (Does n operation) = events_of_operation means w n operation
events_of means w act = []

-- the events that the steps of a schedule make, from a world on
abbrev pub history_from : (Update → LogEntry) → World → List Act → List LogEvent
history_from means w [] = []
history_from means w (act ∷ acts) = events_of means w act ++ history_from means (acted w act) acts

-- the updates of each call mean entries that are well formed at the depth
abbrev pub AreMeant : Depth → (Update → LogEntry) → List Act → Type 0
AreMeant depth means [] = ⊤
AreMeant depth means (Begins n batch ∷ acts) = All (IsLogEntry depth) (map means batch) × AreMeant depth means acts
AreMeant depth means (act ∷ acts) = AreMeant depth means acts

-- the values at the numbers below one
abbrev pub values_to : {X : Type 0} → (ℕ → X) → ℕ → List X
values_to f zero = []
values_to f (suc n) = values_to f n ++ f n ∷ []

-- the entries that the first places of the machine's log mean
abbrev pub entries_to : (Update → LogEntry) → (ℕ → Update) → ℕ → List LogEntry
entries_to means entry count = values_to (λ p. means (entry p)) count

-- the log has these entries, and each node's local tail is its word
pub record IsLogOf (means : Update → LogEntry) (nodes : ℕ) (w : World) (log : Log) : Type 0 where
  pub entries : log.entries ≡ entries_to means w.log.entry w.log.tail
  pub one_each : length log.locals ≡ nodes
  pub locals : (r : ℕ) → r < nodes → local_of log r ≡ w.words.local r

-- a schedule of entries for a log that ends
pub record IsScheduleFor (depth : Depth) (means : Update → LogEntry) (nodes : ℕ) (acts : List Act) : Type 0 where
  pub few : nodes ≤ 64
  pub plays : Plays nodes (opening nodes) acts
  pub meant : AreMeant depth means acts
  pub ends : (played (opening nodes) acts).log.tail ≤ MOST_PLACES

-- the history of the log that a schedule makes
abbrev pub history : (Update → LogEntry) → ℕ → List Act → List LogEvent
history means nodes acts = history_from means (opening nodes) acts
