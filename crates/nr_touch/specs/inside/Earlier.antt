-- The columns of a segment's changes, beside those of the changes that earlier segments left. No public clause cites this file.
use Rattle.std.specs.Prelude.{◌≡◌, ◌<◌, ◌↔◌, ℕ, List, Contains, Option, None, Some, is_some}
use Rattle.vs_types.specs.Space.{Space}
use Rattle.vs_types.specs.Step.{allow_in_page}
use Rattle.vs_types.specs.declared.addresses.page.Page.{Page}
use Rattle.nr_trace.specs.Recording.{Recording}
use Rattle.nr_trace.specs.Run.{Run, IsOrderly}
use Rattle.nr_touch.specs.Touches.{EndsLook, IsAnsweredBefore}
use Rattle.nr_touch.specs.Tails.{Lingers}
use Rattle.nr_touch.specs.inside.Changes.{ended_at, page_before}
use Rattle.nr_touch.specs.inside.Columns.{Covers}
use Rattle.nr_touch.specs.declared.changes.change.PlacedChange.{PlacedChange}
use Rattle.nr_touch.specs.declared.touches.touch.Touch.{Touch}

-- no update that ends that the address is found to look so was answered before the event
abbrev pub EndsNowhere : Space → Recording → ℕ → Option Page → ℕ → Type 0
EndsNowhere start trace address page event = (place : ℕ) → EndsLook start trace address page place → IsAnsweredBefore trace place event → ⊥

-- an address is left to look so by changes with places: it did before a change of it, where neither that one nor a later one of it ends this
pub record IsLeftAt (changes : List PlacedChange) (address : ℕ) (page : Option Page) : Type 0 where
  pub change : PlacedChange
  pub has : Contains changes change
  pub covers_it : Covers address change
  pub still_open : (other : PlacedChange) → Contains changes other → Covers address other → ended_at (is_some page) other < 4294967295
      → other.place < change.place
  pub looks : page_before change.change ≡ page

-- the touch is answered as its address is left to look
abbrev pub IsAnsweredSo : List PlacedChange → Touch → Type 0
IsAnsweredSo changes touch =
    (page : Option Page) × IsLeftAt changes touch.address page × (touch.answer ≡ allow_in_page touch.address touch.mode touch.access page)

-- the touch is answered as its address is left to look, and no answer of the segment before it ends this
abbrev pub IsOfLeft : Space → Recording → List PlacedChange → Touch → Type 0
IsOfLeft start segment earlier touch =
    (page : Option Page) × EndsNowhere start segment touch.address page touch.made × IsLeftAt earlier touch.address page
    × (touch.answer ≡ allow_in_page touch.address touch.mode touch.access page)

-- the changes leave just the looks that linger behind a run
abbrev pub AreOfRun : Option Run → List PlacedChange → Type 0
AreOfRun None changes = (c : PlacedChange) → Contains changes c → ⊥
AreOfRun (Some run) changes =
    IsOrderly run.trace
    × ((address : ℕ) (page : Option Page) → IsLeftAt changes address page ↔ Lingers run.start run.trace address page)
