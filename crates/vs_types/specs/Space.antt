-- Spaces: finite sets of pages, no two of which cover one address. Each page is under its base, so a space is a
-- finite map, and two spaces with the same pages are equal.
use Rattle.std.specs.Prelude.{◌≡◌, ℕ, suc, zero, ◌+◌, ◌-◌, ◌/◌, nat_eq, nat_lt, List, [], ◌∷◌, map, filter, find, Option, Some, None, IsTrue, min}
use Rattle.std.specs.Set.{distinct_count}
use Rattle.std.specs.FinMap as finite
use Rattle.std.specs.Ordering.{nat_cmp}
use Rattle.vs_types.specs.Depth.{levels, table_bytes}
use Rattle.vs_types.specs.Page.{bytes_of, covers, overlaps, IsPage}
use Rattle.vs_types.specs.declared.addresses.depth.Depth.{Depth}
use Rattle.vs_types.specs.declared.addresses.page.Page.{Page}

abbrev pub Space : Type 0
Space = finite.FinMap nat_cmp Page

abbrev pub no_pages : Space
no_pages = finite.empty

-- the pages of a space
abbrev pub pages : Space → List Page
pages space = finite.values space

-- the space has the page
abbrev pub Holds : Space → Page → Type 0
Holds space page = finite.get space page.base ≡ Some page

-- a space of well-formed pages, no two of which cover one address
pub record IsSpace (depth : Depth) (space : Space) : Type 0 where
  pub under_base : (base : ℕ) (page : Page) → finite.get space base ≡ Some page → page.base ≡ base
  pub well_formed : (page : Page) → Holds space page → IsPage depth page
  pub apart : (p q : Page) (address : ℕ) → Holds space p → Holds space q → IsTrue (covers p address) → IsTrue (covers q address) → p ≡ q

-- the page that covers an address, of some pages
abbrev pub page_covering : ℕ → List Page → Option Page
page_covering address = find (λ page. covers page address)

-- the page of a space that covers an address
abbrev pub page_at : Space → ℕ → Option Page
page_at space address = page_covering address (pages space)

-- the least of some numbers
abbrev pub least : List ℕ → Option ℕ
least [] = None
least (n ∷ ns) = Some (least_above n ns) where
  least_above : ℕ → List ℕ → ℕ
  least_above m [] = m
  least_above m (k ∷ ks) = min m (least_above k ks)

-- the least base of a page that has an address of this page
abbrev pub least_overlapped : Space → Page → Option ℕ
least_overlapped space page = least (map (λ p. p.base) (filter (overlaps page) (pages space)))

-- the tables of one level below the root: one for each stretch that a table covers in which a smaller page begins
abbrev pub tables_of_level : ℕ → List Page → ℕ
tables_of_level level ps = distinct_count nat_eq (map (λ p. p.base / table_bytes level) (filter (λ p. nat_lt (bytes_of p.size) (table_bytes level)) ps))

-- the tables of the lowest levels, this many
abbrev pub tables_of_levels : ℕ → List Page → ℕ
tables_of_levels zero ps = 0
tables_of_levels (suc level) ps = tables_of_level (suc level) ps + tables_of_levels level ps

-- the table count: the root, and the tables of each level below it
abbrev pub table_count : Depth → Space → ℕ
table_count depth space = 1 + tables_of_levels (levels depth - 1) (pages space)
