-- Pages that follow one another, joined to ranges.
use Rattle.std.specs.Prelude.{◌≢◌, ℕ, zero, suc, ◌+◌, ◌*◌, Bool, ◌&&◌, ◌==◌, if◌then◌else◌, List, [], ◌∷◌, ⊤}
use Rattle.vs_types.specs.Codes.{rights_code, size_code}
use Rattle.vs_types.specs.Page.{bytes_of}
use Rattle.vs_types.specs.declared.addresses.page.Page.{Page}
use Rattle.audit_texts.specs.declared.pages.range.PageRange.{PageRange}

-- how many bytes it has
abbrev pub range_bytes : PageRange → ℕ
range_bytes range = range.count * bytes_of range.first.size

-- the first address after it; 2 ^ 64 where it has the last address that there is
abbrev pub range_end : PageRange → ℕ
range_end range = range.first.base + range_bytes range

-- the page that would go on with it: its size and its rights, at the next address and the next physical address
abbrev pub page_after : PageRange → Page
page_after range = record range.first { base = range_end range; phys = range.first.phys + range_bytes range }

-- the range of one page
abbrev pub alone : Page → PageRange
alone page = record { first = page; count = 1 }

-- a range with one page more: the one that would go on with it
abbrev pub longer : PageRange → PageRange
longer range = record range { count = range.count + 1 }

-- so many consecutive pages, from this one on
abbrev pub pages_from : Page → ℕ → List Page
pages_from page zero = []
pages_from page (suc count) = page ∷ pages_from (page_after (alone page)) count

-- the pages of a range
abbrev pub pages_of : PageRange → List Page
pages_of range = pages_from range.first range.count

-- whether two pages are one
abbrev pub same_page : Page → Page → Bool
same_page p q = (p.base == q.base) && ((size_code p.size == size_code q.size) && ((rights_code p.rights == rights_code q.rights) && (p.phys == q.phys)))

-- pages that come after those of a range, joined: each goes on with the range before it, where it is the page after that, and else begins
-- a range
abbrev pub joined : PageRange → List Page → List PageRange
joined range [] = range ∷ []
joined range (page ∷ more) = if same_page page (page_after range) then joined (longer range) more else range ∷ joined (alone page) more

-- the ranges of pages that come one after another
abbrev pub ranges_of : List Page → List PageRange
ranges_of [] = []
ranges_of (page ∷ more) = joined (alone page) more

-- no range goes on with the one before it
abbrev pub AreParted : List PageRange → Type 0
AreParted [] = ⊤
AreParted (range ∷ []) = ⊤
AreParted (range ∷ next ∷ more) = (next.first ≢ page_after range) × AreParted (next ∷ more)
