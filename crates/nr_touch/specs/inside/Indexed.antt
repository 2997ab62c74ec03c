-- The pages of a space by the memory that they lead into. No public clause cites more of them than HasPages.
use Rattle.std.specs.Prelude.{◌≡◌, ℕ, List, Contains, IsTrue}
use Rattle.std.specs.BTreeSet.{contains}
use Rattle.std.specs.Ordering.{nat_cmp, ordering_then}
use Rattle.std.specs.declared.cmp.Ordering.{Ordering}
use Rattle.vs_types.specs.Space.{Space, Holds}
use Rattle.vs_types.specs.declared.addresses.page.Page.{Page}
use Rattle.nr_touch.specs.inside.Blocks.{IsBlockOf}
use Rattle.nr_touch.specs.declared.changes.change.PlacedChange.{PlacedChange}
use Rattle.nr_touch.specs.declared.releases.index.Index.{Index}
use Rattle.nr_touch.specs.declared.touches.joined.Joined.{Joined}

-- the order of the rows: by block, and then by key
abbrev pub row_cmp : ℕ × ℕ → ℕ × ℕ → Ordering
row_cmp one other = ordering_then (nat_cmp one.0 other.0) (nat_cmp one.1 other.1)

-- a page has its rows in the index: its key under each block that it leads into
abbrev pub IsIndexedAs : Index → Page → ℕ → Type 0
IsIndexedAs index page key = (block : ℕ) → IsBlockOf page block → IsTrue (contains row_cmp index.rows (block, key))

-- so of a page whose key is its base
abbrev pub IsIndexed : Index → Page → Type 0
IsIndexed index page = IsIndexedAs index page page.base

-- each page of a space has its rows in the index
abbrev pub HasPages : Index → Space → Type 0
HasPages index space = (page : Page) → Holds space page → IsIndexed index page

-- some change is of a page that begins where this one does
abbrev pub HasOwn : List PlacedChange → Page → Type 0
HasOwn changes page = (c : PlacedChange) × Contains changes c × (c.change.page.base ≡ page.base)

-- each page of the space at whose base no change of the segment begins was there before it
abbrev pub HasStayed : Joined → Space → Type 0
HasStayed joined before = (page : Page) → Holds joined.space.space page → (HasOwn joined.history.changes.items page → ⊥) → Holds before page

-- each such page has its rows in the index
abbrev pub HaveQuiet : Joined → Index → Type 0
HaveQuiet joined index = (page : Page) → Holds joined.space.space page → (HasOwn joined.history.changes.items page → ⊥) → IsIndexed index page

-- each page of the space at whose base a change begins is listed
abbrev pub HavePresent : Joined → List Page → Type 0
HavePresent joined present = (page : Page) → Holds joined.space.space page → HasOwn joined.history.changes.items page → Contains present page
