-- The changes that are left behind segments. No public clause cites this file.
use Rattle.std.specs.Prelude.{◌≡◌, ℕ, ◌<◌, ◌↔◌, ◌||◌, List, true, false, Option, None, Some, Contains}
use Rattle.std.specs.Prelude.{IsTrue}
use Rattle.std.specs.BTreeSet.{contains, BTreeSet}
use Rattle.std.specs.Ordering.{nat_cmp}
use Rattle.vs_types.specs.Page.{covers}
use Rattle.vs_types.specs.declared.addresses.page.Page.{Page}
use Rattle.nr_touch.specs.Looks.{is_ended}
use Rattle.nr_touch.specs.Tails.{ends_look, HasNoEnd, IsLeft}
use Rattle.nr_touch.specs.inside.Changes.{ended_at, number_of, page_before}
use Rattle.nr_touch.specs.declared.changes.change.PlacedChange.{PlacedChange}
use Rattle.nr_touch.specs.declared.touches.looks.Ended.{Ended}
use Rattle.nr_touch.specs.declared.touches.tail.Left.{Left}
pub use Rattle.nr_touch.specs.inside.Levels.{left_of, placed_at, ArePlacedAs, ArePlacedFrom}

-- the look before each is ended by itself
abbrev pub AreEnded : List Left → Type 0
AreEnded changes = (left : Left) → Contains changes left → ends_look left (page_before left.change) ≡ true

-- a later change of all the addresses ends what this one would: the look before it, and what this one ends
pub record IsHiddenBy (changes : List PlacedChange) (left : Left) (place : ℕ) : Type 0 where
  pub by : PlacedChange
  pub has : Contains changes by
  pub ends : ended_at (left.change.was_mapped || left.change.takes) by < 4294967295
  pub later : place < by.place
  pub covers_all : (address : ℕ) → IsTrue (covers left.change.page address) → IsTrue (covers by.change.page address)

-- the numbers of the pages of all changes whose looks aren't ended by themselves are noted
abbrev pub AreNoted : List Left → BTreeSet ℕ → Type 0
AreNoted changes numbers = (left : Left) → Contains changes left → ends_look left (page_before left.change) ≡ false
    → IsTrue (contains nat_cmp numbers (number_of left.change.page))

-- no change of these whose look isn't ended by itself has an address of this one
abbrev pub IsFarFrom : List Left → Left → Type 0
IsFarFrom changes left = (other : Left) (address : ℕ) → Contains changes other → ends_look other (page_before other.change) ≡ false
    → IsTrue (covers other.change.page address) → IsTrue (covers left.change.page address) → ⊥

-- the same looks are left
abbrev pub KeepLooks : List Left → List Left → Type 0
KeepLooks old new = (address : ℕ) (page : Option Page) → IsLeft new address page ↔ IsLeft old address page

-- whether changes that have an address end that a page is found there, and that none is
pub record AreEndedBy (changes : List Left) (address : ℕ) (ended : Ended) : Type 0 where
  pub page : (it : Page) → ended.page ≡ is_ended changes address (Some it)
  pub none : ended.none ≡ is_ended changes address None

-- the same looks of changes before these are ended
abbrev pub KeepEnds : List Left → List Left → Type 0
KeepEnds old new = (address : ℕ) (page : Option Page) → HasNoEnd new address page ↔ HasNoEnd old address page
