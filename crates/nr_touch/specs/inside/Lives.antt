-- From when on and until when pages lead into blocks of memory. No public clause cites this file.
use Rattle.std.specs.Prelude.{◌≡◌, ℕ, ◌<◌, ◌≤◌, ◌↔◌, List, [], ◌∷◌, length, map, slice_get, slice_index, Some, Contains}
use Rattle.std.specs.Prelude.{IsTrue}
use Rattle.vs_types.specs.Page.{covers}
use Rattle.vs_types.specs.declared.addresses.page.Page.{Page}
use Rattle.vs_types.specs.declared.addresses.page.Size.TheVariants.{K4, M2, G1}
use Rattle.nr_touch.specs.inside.Blocks.{around, whole, IsBlockOf}
use Rattle.nr_touch.specs.inside.Bounds.{IsRising}
use Rattle.nr_touch.specs.declared.changes.change.PlacedChange.{PlacedChange}
use Rattle.nr_touch.specs.declared.releases.lives.Life.{Life}
use Rattle.nr_touch.specs.declared.releases.lives.Lives.{Lives}
use Rattle.nr_touch.specs.declared.releases.stays.Stay.{Stay}

-- the lives of a page: in the memory of each size, and as a whole; each with the index of what it is the life of
abbrev pub lives_at : Page → ℕ → ℕ → ℕ → List Life
lives_at page from until row =
    record { block = around page.phys K4; from = from; until = until; row = row }
    ∷ record { block = around page.phys M2; from = from; until = until; row = row }
    ∷ record { block = around page.phys G1; from = from; until = until; row = row }
    ∷ record { block = whole page.phys page.size; from = from; until = until; row = row } ∷ []

-- some life of the block has an event from the first one up to the last
abbrev pub HasLife : List Life → ℕ → ℕ → ℕ → Type 0
HasLife lives block first last = (life : Life) × Contains lives life × (life.block ≡ block) × (life.from ≤ last) × (first ≤ life.until)

-- some life of the block has an event, and is that of a row
abbrev pub HasLifeOf : List Life → ℕ → ℕ → ℕ → Type 0
HasLifeOf lives block event row =
    (life : Life) × Contains lives life × (life.block ≡ block) × (life.from ≤ event) × (event ≤ life.until) × (life.row ≡ row)

-- each stay has its lives in the blocks of its page
abbrev pub HaveLives : List Stay → List Life → Type 0
HaveLives stays lives = (stay : Stay) (row block event : ℕ) → slice_get stays row ≡ Some stay → IsBlockOf stay.page block → stay.from ≤ event
    → event ≤ stay.until → HasLifeOf lives block event row

-- the lives by block and first event; the last events rise within a block
pub record AreLives (lives : Lives) : Type 0 where
  pub from : IsRising lives.blocks.items lives.from.items
  pub until : IsRising lives.blocks.items lives.until.items
  pub rows : length lives.rows.items ≡ length lives.blocks.items

-- some life of the columns has the block, and an event from the first one up to the last
abbrev pub IsMet : Lives → ℕ → ℕ → ℕ → Type 0
IsMet lives block first last = (k : ℕ) × (k < length lives.blocks.items) × (slice_index lives.blocks.items k ≡ block)
    × (slice_index lives.from.items k ≤ last) × (first ≤ slice_index lives.until.items k)

-- the columns meet just what lives do
abbrev pub AreColumnsOf : List Life → Lives → Type 0
AreColumnsOf rows lives = (block first last : ℕ) → HasLife rows block first last ↔ IsMet lives block first last

-- some life of the columns has the block and the event, and is that of a row
abbrev pub HasRow : Lives → ℕ → ℕ → ℕ → Type 0
HasRow lives block event row = (k : ℕ) × (k < length lives.blocks.items) × (slice_index lives.blocks.items k ≡ block)
    × (slice_index lives.from.items k ≤ event) × (event ≤ slice_index lives.until.items k) × (slice_index lives.rows.items k ≡ row)

-- the columns have the row of each life
abbrev pub AreRowsOf : List Life → Lives → Type 0
AreRowsOf rows lives = (block event row : ℕ) → HasLifeOf rows block event row → HasRow lives block event row

-- each stay has its row in the blocks of its page
abbrev pub HaveRows : List Stay → Lives → Type 0
HaveRows stays lives = (stay : Stay) (row block event : ℕ) → slice_get stays row ≡ Some stay → IsBlockOf stay.page block → stay.from ≤ event
    → event ≤ stay.until → HasRow lives block event row

-- an update is open from one event to another, by the number of the page whose addresses it changes; with its place
abbrev pub opening_of : PlacedChange → Life
opening_of placed = record { block = placed.number; from = placed.made; until = placed.answered; row = placed.place }

-- an update that changes how an address looks is open at some event from the first one up to the last
abbrev pub IsOpenWithin : List PlacedChange → ℕ → ℕ → ℕ → Type 0
IsOpenWithin changes address first last =
    (c : PlacedChange) × Contains changes c × IsTrue (covers c.change.page address) × (c.made ≤ last) × (first ≤ c.answered)

-- the columns are those of the updates of changes
abbrev pub AreOpenings : List PlacedChange → Lives → Type 0
AreOpenings changes lives = AreColumnsOf (map opening_of changes) lives
