-- The blocks of memory that pages lead into, and that releases are about.
use Rattle.std.specs.Prelude.{◌≡◌, ℕ, ◌+◌, ◌%◌, ◌<◌, ◌≤◌, ◌^◌, ◌⊎◌, List, [], ◌∷◌}
use Rattle.vs_types.specs.Page.{bytes_of}
use Rattle.vs_types.specs.declared.addresses.page.Page.{Page}
use Rattle.vs_types.specs.declared.addresses.page.Size.{Size}
use Rattle.vs_types.specs.declared.addresses.page.Size.TheVariants.{K4, M2, G1}
use Rattle.nr_touch.specs.inside.Changes.{number_at}
use Rattle.nr_touch.specs.declared.releases.release.Release.{Release}

-- a page that begins at multiples of its size, and ends in time
pub record IsRoomy (page : Page) : Type 0 where
  pub base : page.base % bytes_of page.size ≡ 0
  pub frame : page.phys % bytes_of page.size ≡ 0
  pub ends : page.base + bytes_of page.size ≤ 2 ^ 64
  pub low : page.phys + bytes_of page.size < 2 ^ 64

-- two pages have the same addresses and the same memory, whatever their rights
pub record IsSamePlace (page other : Page) : Type 0 where
  pub base : page.base ≡ other.base
  pub size : page.size ≡ other.size
  pub phys : page.phys ≡ other.phys

-- the number of the memory of a size that has the physical address, as that in which a smaller page lies
abbrev pub around : ℕ → Size → ℕ
around phys size = number_at phys size

-- the same, as that of a whole page
abbrev pub whole : ℕ → Size → ℕ
whole phys size = number_at phys size + 3

-- the blocks that a page leads into, one after another
abbrev pub blocks_at : Page → List ℕ
blocks_at page = around page.phys K4 ∷ around page.phys M2 ∷ around page.phys G1 ∷ whole page.phys page.size ∷ []

-- the blocks that a page leads into
abbrev pub IsBlockOf : Page → ℕ → Type 0
IsBlockOf page block = ((size : Size) × (block ≡ around page.phys size)) ⊎ (block ≡ whole page.phys page.size)

-- the blocks that a release is about
abbrev pub IsBlockFor : Release → ℕ → Type 0
IsBlockFor release block = (block ≡ around release.phys release.size) ⊎ ((size : Size) × (block ≡ whole release.phys size))
