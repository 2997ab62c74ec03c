-- The columns of what was left, in levels: each has those of a stretch of the changes, the oldest first. No public clause cites more of them than AreLevels.
use Rattle.std.specs.Prelude.{◌≡◌, ℕ, ◌+◌, ◌<◌, ◌++◌, if◌then◌else◌, nat_lt, List, [], ◌∷◌, map, slice_get, take, Some, Contains}
use Rattle.std.specs.List.Sorted.{IsPermutation}
use Rattle.nr_touch.specs.inside.Changes.{number_of}
use Rattle.nr_touch.specs.inside.Columns.{AreColumns, IsNumbered}
use Rattle.nr_touch.specs.declared.changes.change.PlacedChange.{PlacedChange}
use Rattle.nr_touch.specs.declared.changes.history.History.{History}
use Rattle.nr_touch.specs.declared.touches.tail.Left.{Left}

-- a change as that of a place, made and answered before all events where it is over
abbrev pub placed_at : ℕ → Left → PlacedChange
placed_at place left = record {
  change = left.change;
  number = number_of left.change.page;
  place = place;
  made = 0;
  answered = if left.over then 0 else 4294967295;
}

-- what is left of a change, and whether it is over
abbrev pub left_of : PlacedChange → Left
left_of c = record { change = c.change; over = nat_lt c.answered 4294967295 }

-- the changes, each with its place among the others, from this one on
pub record ArePlacedFrom (start : ℕ) (changes : List Left) (placed : List PlacedChange) : Type 0 where
  pub same : map left_of placed ≡ changes
  pub places : (index : ℕ) (c : PlacedChange) → slice_get placed index ≡ Some c → c.place ≡ start + index

-- the same, from 0 on
abbrev pub ArePlacedAs : List Left → List PlacedChange → Type 0
ArePlacedAs = ArePlacedFrom 0

-- all that some columns are of
abbrev pub left_in : List History → List PlacedChange
left_in [] = []
left_in (level ∷ more) = level.changes.items ++ left_in more

-- the columns are of changes that lie behind those of the levels before
pub record IsLadder (levels : List History) : Type 0 where
  pub numbered : (c : PlacedChange) → Contains (left_in levels) c → IsNumbered c
  pub each : (index : ℕ) (level : History) → slice_get levels index ≡ Some level → AreColumns level
  pub rise : (index : ℕ) (level : History) → slice_get levels index ≡ Some level → (c d : PlacedChange) → Contains (left_in (take index levels)) c
      → Contains level.changes.items d → c.place < d.place

-- each level has the columns of a stretch of the changes, one behind the other
abbrev pub CoverStretches : List PlacedChange → List History → Type 0
CoverStretches placed [] = placed ≡ []
CoverStretches placed (level ∷ more) = (part rest : List PlacedChange) × (placed ≡ part ++ rest) × IsPermutation part level.changes.items × AreColumns level
    × CoverStretches rest more

-- the levels have the columns of all changes, each with its place among the others
pub record AreLevels (changes : List Left) (levels : List History) : Type 0 where
  pub placed : List PlacedChange
  pub are : ArePlacedAs changes placed
  pub cover : CoverStretches placed levels
