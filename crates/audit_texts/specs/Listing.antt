-- What is printed of pages: a line for each, or for each of their ranges. Addresses are in hexadecimal.
use Rattle.std.specs.Prelude.{ℕ, ◌++◌, Bool, if◌then◌else◌, List, codes, flat_map}
use Rattle.vs_types.specs.declared.addresses.page.Page.{Page}
use Rattle.vs_types.specs.declared.addresses.page.Rights.{Rights}
use Rattle.vs_types.specs.declared.addresses.page.Size.{Size}
use Rattle.vs_text.specs.Words.{hexadecimal, rights_text, size_text, space}
use Rattle.audit_texts.specs.Ranges.{range_end, ranges_of}
use Rattle.audit_texts.specs.declared.pages.range.PageRange.{PageRange}

-- SIZE PHYS RIGHTS, to the end of a line
abbrev pub mapping_text : Size → ℕ → Rights → List ℕ
mapping_text size phys rights = size_text size ++ (space ++ (hexadecimal phys ++ (space ++ (rights_text rights ++ codes "\n"))))

-- BASE SIZE PHYS RIGHTS
unfoldable pub page_line : Page → List ℕ
page_line page = hexadecimal page.base ++ (space ++ mapping_text page.size page.phys page.rights)

-- BASE END SIZE PHYS RIGHTS
unfoldable pub range_line : PageRange → List ℕ
range_line range =
    hexadecimal range.first.base ++ (space ++ (hexadecimal (range_end range) ++ (space ++ mapping_text range.first.size range.first.phys range.first.rights)))

-- a line for each page
abbrev pub page_lines : List Page → List ℕ
page_lines pages = flat_map page_line pages

-- a line for each range
abbrev pub range_lines : List PageRange → List ℕ
range_lines ranges = flat_map range_line ranges

-- what is printed of pages, as ranges or one by one
abbrev pub pages_text : Bool → List Page → List ℕ
pages_text as_ranges pages = if as_ranges then range_lines (ranges_of pages) else page_lines pages
