-- From when on and until when a page may be found, as far as its own changes say. No public clause cites this file.
use Rattle.std.specs.Prelude.{◌≡◌, ℕ, ◌<◌, ◌≤◌, ◌^◌, List, length, slice_get, slice_index, Some, Contains}
use Rattle.vs_types.specs.declared.addresses.page.Page.{Page}
use Rattle.nr_touch.specs.inside.Reached.{IsAlive, IsRoomy, IsSamePlace}
use Rattle.nr_touch.specs.declared.changes.change.PlacedChange.{PlacedChange}
use Rattle.nr_touch.specs.declared.releases.seen.Seen.{Seen}
use Rattle.nr_touch.specs.declared.releases.stays.Stay.{Stay}

-- some stay of these is of the page's addresses and memory, has the place of the log, and has the event
abbrev pub HasStay : List Stay → Page → ℕ → ℕ → Type 0
HasStay stays page place event = (stay : Stay) × Contains stays stay × IsSamePlace stay.page page × (stay.from ≤ event) × (event ≤ stay.until)
    × (place ≤ stay.place)

-- each page of these has a stay while it is alive
abbrev pub HaveStays : List PlacedChange → List Seen → List Stay → Type 0
HaveStays changes seen stays = (s : Seen) (event : ℕ) → Contains seen s → event < 2 ^ 32 → IsAlive changes s event
    → HasStay stays s.page s.place event

-- each is of a page that has room
abbrev pub AreRoomy : List Stay → Type 0
AreRoomy stays = (stay : Stay) → Contains stays stay → IsRoomy stay.page

-- the stay of a row, if there is one, ends at the event or before it
abbrev pub EndsBy : List Stay → ℕ → ℕ → Type 0
EndsBy stays row event = (stay : Stay) → slice_get stays row ≡ Some stay → stay.until ≤ event

-- of the first rows, this many: each has a stretch that ends with it, and an event behind which all stays of the stretch are over
pub record AreStretches (stays : List Stay) (rows since until : List ℕ) (end : ℕ) : Type 0 where
  pub firsts : length since ≡ end
  pub lasts : length until ≡ end
  pub within : (k : ℕ) → k < end → slice_index since k ≤ k
  pub over : (k j : ℕ) → k < end → slice_index since k ≤ j → j ≤ k → EndsBy stays (slice_index rows j) (slice_index until k)
