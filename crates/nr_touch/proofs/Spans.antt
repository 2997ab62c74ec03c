-- From when on and until when a page may be alive, by the changes of it before and behind a place.
use Rattle.std.proofs.Common.{◌≡◌, ℕ, ◌<◌, ◌≤◌, ◌^◌, inl, inr, List, ◌∙◌, arith}
use Rattle.nr_touch.specs.inside.Changes.{number_of}
use Rattle.nr_touch.specs.inside.Columns.{IsEarliest, IsLatest}
use Rattle.nr_touch.specs.inside.Reached.{IsAlive}
use Rattle.nr_touch.specs.declared.changes.change.PlacedChange.{PlacedChange}
use Rattle.nr_touch.specs.declared.releases.seen.Seen.{Seen}

-- a page that is alive at an event is so from the one on up to the other
pub spanned : (changes : List PlacedChange) (s : Seen) (number from until event : ℕ) → number ≡ number_of s.page → IsLatest changes number s.place from
    → IsEarliest changes number s.place until → event < 2 ^ 32 → IsAlive changes s event → (from ≤ event) × (event ≤ until)
spanned changes s number from until event is latest earliest fits alive = (first latest, last earliest) where
  first : IsLatest changes number s.place from → from ≤ event
  first (inl none) = omega (arith, none)
  first (inr (c, has, of, low, at)) = let up = alive.from c has (of ∙ is) low in omega (arith, at, up)

  last : IsEarliest changes number s.place until → event ≤ until
  last (inl none) = omega (arith, none, fits)
  last (inr (c, has, of, low, at)) = let up = alive.until c has (of ∙ is) low in omega (arith, at, up)
