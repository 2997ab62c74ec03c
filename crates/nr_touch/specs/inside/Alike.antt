-- Addresses that have the same changes. No public clause cites this file.
use Rattle.std.specs.Prelude.{ℕ, ◌-◌, ◌%◌, ◌+◌, ◌<◌, ◌≤◌, ◌↔◌, List, Contains}
use Rattle.vs_types.specs.Page.{bytes_of}
use Rattle.vs_types.specs.declared.addresses.page.Size.{Size}
use Rattle.nr_touch.specs.inside.Changes.{number_at}
use Rattle.nr_touch.specs.inside.Columns.{Covers, IsOf}
use Rattle.nr_touch.specs.declared.changes.change.PlacedChange.{PlacedChange}

-- two addresses have the same changes of these
abbrev pub AreAlike : List PlacedChange → ℕ → ℕ → Type 0
AreAlike changes a b = (c : PlacedChange) → Contains changes c → Covers a c ↔ Covers b c

-- each address from this one up to the last has the same changes as this one
pub record AreAlikeTo (changes : List PlacedChange) (address last : ℕ) : Type 0 where
  pub up : address ≤ last
  pub alike : (b : ℕ) → address ≤ b → b ≤ last → AreAlike changes address b

-- up to the last, an address behind this one has the changes of the page of a size that has this one, if some are
pub record IsAlikeIn (changes : List PlacedChange) (address : ℕ) (size : Size) (last : ℕ) : Type 0 where
  pub up : address ≤ last
  pub within : (c : PlacedChange) → Contains changes c → IsOf (number_at address size) c → last < address - address % bytes_of size + bytes_of size

-- no change is of a page that begins behind the address and up to the last
pub record IsBefore (changes : List PlacedChange) (address last : ℕ) : Type 0 where
  pub up : address ≤ last
  pub none : (c : PlacedChange) → Contains changes c → address < c.change.page.base → last < c.change.page.base
