-- The pages that addresses may still be found to look as, which are listed for releases. Public clauses cite no more of them than AreListed and HasRoom.
use Rattle.std.specs.Prelude.{◌≡◌, ℕ, ◌+◌, ◌*◌, ◌<◌, ◌≤◌, length, slice_get, Option, Some, Contains}
use Rattle.std.specs.BTreeMap.{get}
use Rattle.vs_types.specs.Page.{bytes_of}
use Rattle.vs_types.specs.declared.addresses.page.Page.{Page}
use Rattle.nr_touch.specs.Releases.{HasPhys}
use Rattle.nr_touch.specs.inside.Blocks.{IsBlockOf, IsRoomy, IsSamePlace}
use Rattle.nr_touch.specs.inside.Indexed.{row_cmp, IsIndexedAs}
use Rattle.nr_touch.specs.declared.releases.lingering.Lingering.{Lingering}
use Rattle.nr_touch.specs.declared.releases.overs.Over.{Over}
use Rattle.nr_touch.specs.declared.releases.overs.Overs.{Overs}

-- each page that is listed has room
abbrev pub HasRoom : Lingering → Type 0
HasRoom lingering = (page : Page) → Contains lingering.pages.items page → IsRoomy page

-- a page of this place has a number, under which it has its rows. What was found to be over there for a memory with this frame has smaller numbers
pub record IsListed (lingering : Lingering) (gone : Overs) (page : Page) (frame : ℕ) : Type 0 where
  pub number : ℕ
  pub own : Page
  pub at : slice_get lingering.pages.items number ≡ Some own
  pub same : IsSamePlace own page
  pub indexed : IsIndexedAs lingering.index own number
  pub behind : (key : ℕ × ℕ) (over : Over) → get row_cmp gone.known key ≡ Some over → IsBlockOf page over.block
      → HasPhys over.release (page.phys + frame * 4096) → over.rows ≤ number

-- no more pages are over than are listed
abbrev pub AreWithin : Lingering → Overs → Type 0
AreWithin lingering gone = (key : ℕ × ℕ) (over : Over) → get row_cmp gone.known key ≡ Some over → over.rows ≤ length lingering.pages.items

-- of all looks that these are, the pages are listed
pub record AreListed (IsLook : ℕ → Option Page → Type 0) (lingering : Lingering) (gone : Overs) : Type 0 where
  pub within : AreWithin lingering gone
  pub each : (page : Page) (frame : ℕ) → frame * 4096 < bytes_of page.size → IsLook (page.base + frame * 4096) (Some page)
      → IsListed lingering gone page frame
