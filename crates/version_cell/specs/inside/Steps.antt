-- What each step on the table of a cell shows its seat.
use Rattle.std.specs.Prelude.{◌≡◌, ◌≢◌, ℕ, ◌+◌, ◌-◌, ◌<◌, ◌≤◌, true, false, if◌then◌else◌, nat_le, [], drop, slice_set, take}
use Rattle.atomic_table.specs.Table.{Me, Step}
use Rattle.version_cell.specs.declared.layout.TheConstants.{WORDS}
use Rattle.version_cell.specs.declared.doing.Doing.{Doing}
use Rattle.version_cell.specs.inside.Versions.{ComesTo}

abbrev Sat : Type 0 → Type 0 → Type 0
Sat V X = Me (Unit {0}) (Doing V X)

module _ {V X : Type 0} where
  -- the seat saw the value itself
  abbrev pub seen : Doing V X → X → V → Doing V X
  seen d value client = record { value = value; fresh = true; from = d.from; own = d.own; client = client }

  -- the version was loaded: the seat has seen the value, which is the one that it saw before or has come further
  pub record IsLook (code age : X → ℕ) (tells : V → X → X → V → Type 0) (found : ℕ) (before after : Doing V X) : Type 0 where
    pub value : X
    pub is : after ≡ seen before value after.client
    pub version_is : found ≡ code value
    pub risen : code before.value ≤ code value
    pub same : ComesTo code age before.value value
    pub told : tells before.client value value after.client

  abbrev pub looked : (X → ℕ) → (X → ℕ) → (V → X → X → V → Type 0) → Step (Unit {0}) → Sat V X → ℕ → Sat V X → Type 0
  looked code age tells st m found m' = IsLook code age tells found m.0 m'.0

  -- a word that the seat counts on was loaded
  abbrev pub loaded : (X → ℕ → ℕ → Type 0) → (V → X → ℕ → ℕ → Type 0) → Step (Unit {0}) → Sat V X → ℕ → Sat V X → Type 0
  loaded needs lasts st m found m' = (m'.0 ≡ m.0)
      × ((word : ℕ) → lasts m.0.client m.0.value (st.word - WORDS) word → needs m.0.value (st.word - WORDS) word → found ≡ word)

  -- one of the seat's own words was stored
  abbrev pub put : Step (Unit {0}) → Sat V X → ℕ → Sat V X → Type 0
  put st m found m' = m'.0 ≡ record {
    value = m.0.value;
    fresh = m.0.fresh;
    from = m.0.from;
    own = slice_set m.0.own (st.word - WORDS - m.0.from) st.first;
    client = m.0.client;
  }

  -- the version was to go from that of the value seen to that of the next: where it was that, it is the next; else it has come further
  abbrev pub swapped : (X → ℕ) → (X → ℕ) → (X → X) → (V → X → X → V → Type 0) → (V → X → X → V → Type 0) → Step (Unit {0}) → Sat V X → ℕ → Sat V X → Type 0
  swapped code age next tells else_tells st m found m' =
      (found ≡ st.first → (m'.0 ≡ seen m.0 (next m.0.value) m'.0.client) × tells m.0.client m.0.value (next m.0.value) m'.0.client)
      × (found ≢ st.first → (code m.0.value < found) × (age m.0.value < age m'.0.value) × IsLook code age else_tells found m.0 m'.0)

  -- nothing was looked at: the caller's view learns something of the value that the seat saw last
  abbrev pub recalled : (V → X → X → V → Type 0) → Step (Unit {0}) → Sat V X → ℕ → Sat V X → Type 0
  recalled tells st m found m' =
      (m'.0 ≡ record { value = m.0.value; fresh = false; from = m.0.from; own = m.0.own; client = m'.0.client })
      × tells m.0.client m.0.value m.0.value m'.0.client

  -- the seat keeps the words after the first, so many; the new one gets these
  abbrev pub rest_of : ℕ → Doing V X → V → Doing V X
  rest_of n d client = record { value = d.value; fresh = false; from = d.from + n; own = drop n d.own; client = client }

  abbrev pub first_part : ℕ → Doing V X → V → Doing V X
  first_part n d client = record { value = d.value; fresh = false; from = d.from; own = take n d.own; client = client }

  -- of two seats, the later value, and the words of the first
  abbrev pub glued : (X → ℕ) → Doing V X → Doing V X → V → Doing V X
  glued code d e client = record {
    value = if nat_le (code e.value) (code d.value) then d.value else e.value;
    fresh = false;
    from = d.from;
    own = d.own;
    client = client;
  }

  -- a seat that was joined away
  abbrev pub spent : X → V → Doing V X
  spent start client = record { value = start; fresh = false; from = 0; own = []; client = client }
