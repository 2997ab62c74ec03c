-- The rule of the table: one word is the version, and the words beside the cell follow from a place on. The others are not used.
use Rattle.std.specs.Prelude.{◌≡◌, ◌≢◌, ◌⊎◌, ℕ, ◌+◌, ◌<◌, ◌≤◌, true, List, map, length, slice_index}
use mathlib.Core.Option.{some}
use lib.ListN.{get_elem?}
use Rattle.atomic_table.specs.Table.{State}
use Rattle.version_cell.specs.Words.{IsOwn}
use Rattle.version_cell.specs.declared.layout.TheConstants.{VERSION, WORDS}
use Rattle.version_cell.specs.declared.doing.Doing.{Doing}

-- a seat's value is the one of now, or that has come further since
abbrev pub ComesTo : {X : Type 0} → (X → ℕ) → (X → ℕ) → X → X → Type 0
ComesTo code age value now = (code value ≡ code now → value ≡ now) × ((value ≡ now) ⊎ (age value < age now))

module _ {V X : Type 0} where
  abbrev pub client : Doing V X → V
  client d = d.client

  -- the first seat: it has seen the first value, and all words are its own
  abbrev pub beginning : X → V → List ℕ → Doing V X
  beginning start first words = record { value = start; fresh = true; from = 0; own = words; client = first }

  -- what a seat knows is true: the value is the one that it saw, or has come further since; and its own words lie there. What lies there
  -- and is needed was needed when it looked, since nobody else has it be needed; and what it counts on is needed still
  pub record Knows (code age : X → ℕ) (needs : X → ℕ → ℕ → Type 0) (lasts : V → X → ℕ → ℕ → Type 0) (words : List ℕ) (value : X) (d : Doing V X)
      : Type 0 where
    pub risen : code d.value ≤ code value
    pub same : ComesTo code age d.value value
    pub within : d.from + length d.own + WORDS ≤ length words
    pub lie : (i : ℕ) → i < length d.own → slice_index words (d.from + i + WORDS) ≡ slice_index d.own i
    pub needed : d.fresh ≡ true → (place word : ℕ) → IsOwn d.from d.own place → needs value place word → needs d.value place word
    pub last : d.fresh ≡ true → (place word : ℕ) → lasts d.client d.value place word → needs d.value place word → needs value place word

  pub record Versioned (wide : ℕ) (holds : X → List V → Type 0) (start : X) (code age : X → ℕ) (needs : X → ℕ → ℕ → Type 0)
      (lasts : V → X → ℕ → ℕ → Type 0) (s : State (Unit {0}) (Doing V X)) : Type 0 where
    pub value : X
    pub width : length s.words ≡ wide
    pub long : WORDS ≤ wide
    pub version_is : slice_index s.words VERSION ≡ code value
    pub risen : code start ≤ code value
    pub begun : ComesTo code age start value
    pub lie : (place word : ℕ) → needs value place word → slice_index s.words (place + WORDS) ≡ word
    pub each_seat : (j : ℕ) (d : Doing V X) → get_elem? s.views j ≡ some d → Knows code age needs lasts s.words value d
    pub apart : (j k : ℕ) (d e : Doing V X) (place : ℕ) → j ≢ k → get_elem? s.views j ≡ some d → get_elem? s.views k ≡ some e
        → IsOwn d.from d.own place → IsOwn e.from e.own place → ⊥
    pub kept : holds value (map client s.views)
