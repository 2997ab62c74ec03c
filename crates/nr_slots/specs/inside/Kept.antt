-- A slot lies in a table beside its state word.
use Rattle.std.specs.Prelude.{◌≡◌, ◌≢◌, ℕ, ◌<◌, List, [], ◌∷◌, length, slice_index, ⊤}
use mathlib.Core.Option.{some}
use lib.ListN.{get_elem?}
use Rattle.atomic_table.specs.Table.{State, Me, Step}
use Rattle.nr_slots.specs.declared.slot.Slot.{Slot}
use Rattle.nr_slots.specs.declared.slot.Slot.TheVariants.{Empty, Posted, Taken, Ready}
use Rattle.nr_slots.specs.declared.state.TheConstants.{EMPTY, BUSY, POSTED, TAKEN, READY}
use Rattle.nr_slots.specs.Updates.{Answered, Waiting}

-- the state word of a slot
abbrev pub state_of : Slot → ℕ
state_of Empty = EMPTY
state_of (Posted waiting) = POSTED
state_of (Taken call) = TAKEN
state_of (Ready answered) = READY

-- the states in turn: a step that takes a slot in the first may give it back in the second
pub data GoesTo : ℕ → ℕ → Type 0 where
  posts : GoesTo EMPTY POSTED
  takes : GoesTo POSTED TAKEN
  stays : GoesTo TAKEN TAKEN
  answers : GoesTo TAKEN READY
  closes : GoesTo TAKEN EMPTY
  polls : GoesTo READY EMPTY

module _ (Waits : Waiting → Type 0) (Answers : Answered → Type 0) where
  -- what lies in the slot of a thread is its own, and of the update or the answer this holds
  abbrev pub Fits : ℕ → Slot → Type 0
  Fits thread Empty = ⊤
  Fits thread (Posted waiting) = (waiting.thread ≡ thread) × Waits waiting
  Fits thread (Taken call) = ⊤
  Fits thread (Ready answered) = (answered.thread ≡ thread) × Answers answered

  -- each slot has a word; where the word isn't busy the slot is at home, is as the word says, and fits
  abbrev pub AreKept : State Slot (Unit {0}) → Type 0
  AreKept s =
      (length s.words ≡ length s.homes)
      × ((thread : ℕ) → thread < length s.homes → slice_index s.words thread ≢ BUSY
      → (slot : Slot) × (get_elem? s.homes thread ≡ some (some slot)) × (slice_index s.words thread ≡ state_of slot) × Fits thread slot)

  -- a seat has just this slot of a thread, which is in a state and fits
  abbrev pub HasSlot : ℕ → ℕ → List (ℕ × Slot) → Type 0
  HasSlot thread state carried = (slot : Slot) × (carried ≡ (thread, slot) ∷ []) × (state_of slot ≡ state) × Fits thread slot

  -- where the wanted word was found the seat, which had no slot, has that of the word
  abbrev pub Lends : Step Slot → Me Slot (Unit {0}) → ℕ → Me Slot (Unit {0}) → Type 0
  Lends step before found after = before.1 ≡ [] → found ≡ step.first → HasSlot step.word step.first after.1
