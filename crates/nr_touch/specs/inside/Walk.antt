-- How an address looks until its next change. No public clause cites this file.
use Rattle.std.specs.Prelude.{ℕ, ◌≤◌, Option, Some, None}
use Rattle.vs_types.specs.Space.{Space, page_at}
use Rattle.vs_types.specs.declared.addresses.page.Page.{Page}
use Rattle.nr_trace.specs.Recording.{Recording}
use Rattle.nr_touch.specs.Touches.{IsAnsweredAt}
use Rattle.nr_touch.specs.inside.Changes.{page_before}
use Rattle.nr_touch.specs.declared.changes.change.PlacedChange.{PlacedChange}
use Rattle.nr_touch.specs.declared.touches.touch.Touch.{Touch}

-- what covers an address until its next change, or else in the space at the end
abbrev pub shown : Option PlacedChange → Space → ℕ → Option Page
shown None space address = page_at space address
shown (Some next) space address = page_before next.change

-- the touch is answered as after some entries, from the first number of them on up to the last
abbrev pub IsAnsweredWithin : Space → Recording → Touch → ℕ → ℕ → Type 0
IsAnsweredWithin start trace touch first last = (n : ℕ) × (first ≤ n) × (n ≤ last) × IsAnsweredAt start trace touch n
