-- Pages that are taken one after another, and the lines that they have made so far. No public clause cites this file.
use Rattle.std.specs.Prelude.{◌≡◌, ℕ, ◌≤◌, ◌^◌, List, ◌++◌, All, Option, None, Some, IfSome}
use Rattle.vs_types.specs.Page.{end_of}
use Rattle.vs_types.specs.declared.addresses.page.Page.{Page}
use Rattle.audit_texts.specs.Listing.{range_lines}
use Rattle.audit_texts.specs.Ranges.{joined, range_end, ranges_of}
use Rattle.audit_texts.specs.declared.pages.range.PageRange.{PageRange}

-- the ranges of pages that come after an open range, or after none
abbrev pub going_on : Option PageRange → List Page → List PageRange
going_on None more = ranges_of more
going_on (Some range) more = joined range more

-- the lines so far, and the range that is open: whatever pages come behind
pub record IsOpenAfter (text : List ℕ) (open_range : Option PageRange) (pages : List Page) : Type 0 where
  pub goes_on : (more : List Page) → range_lines (ranges_of (pages ++ more)) ≡ text ++ range_lines (going_on open_range more)
  pub fits : IfSome open_range (λ range. range_end range ≤ 2 ^ 64)

-- the same where no page ends above 2 ^ 64
abbrev pub HasJoined : List ℕ → Option PageRange → List Page → Type 0
HasJoined text open_range pages = All (λ page. end_of page ≤ 2 ^ 64) pages → IsOpenAfter text open_range pages
