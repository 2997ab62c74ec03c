-- One page more is taken: the lines so far, and the range that is open.
use Rattle.std.proofs.Common.{◌≡◌, ℕ, ◌^◌, ◌≤◌, List, [], ◌∷◌, ◌++◌, All, None, Some, refl, sym, ap, subst, ◌∙◌, arith, append_assoc, append-nil}
use Rattle.std.proofs.Common.{if◌then◌else◌}
use Rattle.std.proofs.lemmas.List.Elements.{All-pop}
use Rattle.vs_types.specs.Page.{bytes_of, end_of}
use Rattle.vs_types.specs.declared.addresses.page.Page.{Page}
use Rattle.audit_texts.specs.Listing.{range_line, range_lines}
use Rattle.audit_texts.specs.Ranges.{alone, joined, longer, page_after, range_end, ranges_of}
use Rattle.audit_texts.specs.declared.pages.range.PageRange.{PageRange}
use Rattle.audit_texts.specs.inside.Taking.{HasJoined}
use Rattle.audit_texts.proofs.Joining.{is_next, not_next}

abbrev Fits : Page → Type 0
Fits page = end_of page ≤ 2 ^ 64

-- of pages that fit with one behind them, these fit, and so does that one
fits_parts : (pages : List Page) (page : Page) → All Fits (pages ++ page ∷ []) → All Fits pages × Fits page
fits_parts pages page fits = All-pop Fits (pages ++ page ∷ []) pages (Some page) refl fits

-- one page has its own end
alone_ends : (page : Page) → range_end (alone page) ≡ end_of page
alone_ends page = omega arith

-- with the page after it a range ends where that page does
longer_ends : (range : PageRange) (page : Page) → page ≡ page_after range → range_end (longer range) ≡ end_of page
longer_ends range page same =
    let base : page.base ≡ range_end range = ap (λ (p : Page). p.base) same in
    let size : bytes_of page.size ≡ bytes_of range.first.size = ap (λ (p : Page). bytes_of p.size) same in
    omega arith

-- pages with one behind them, and then more
abbrev pages_and : List Page → Page → List Page → List Page
pages_and pages page more = (pages ++ page ∷ []) ++ more

more_behind : (pages : List Page) (page : Page) (more : List Page)
    → range_lines (ranges_of (pages_and pages page more)) ≡ range_lines (ranges_of (pages ++ page ∷ more))
more_behind pages page more = ap (λ (ps : List Page). range_lines (ranges_of ps)) (append_assoc pages (page ∷ []) more)

-- the first page
pub first_taken : (text : List ℕ) (pages : List Page) (page : Page) → HasJoined text None pages → HasJoined text (Some (alone page)) (pages ++ page ∷ [])
first_taken text pages page had fits =
    let parts = fits_parts pages page fits in
    let was = had parts.0 in
    record { goes_on = λ more. more_behind pages page more ∙ was.goes_on (page ∷ more); fits = subst (λ end. end ≤ 2 ^ 64) (sym (alone_ends page)) parts.1 }

-- a page that goes on with the range
pub more_taken : (text : List ℕ) (range : PageRange) (pages : List Page) (page : Page) → page ≡ page_after range → HasJoined text (Some range) pages
    → HasJoined text (Some (longer range)) (pages ++ page ∷ [])
more_taken text range pages page same had fits =
    let parts = fits_parts pages page fits in
    let was = had parts.0 in
    record {
      goes_on = λ more.
          more_behind pages page more
          ∙ was.goes_on (page ∷ more)
          ∙ ap (λ b. text ++ range_lines (if b then joined (longer range) more else range ∷ joined (alone page) more)) (is_next range page same);
      fits = subst (λ end. end ≤ 2 ^ 64) (sym (longer_ends range page same)) parts.1;
    }

-- a page that does not
pub next_taken : (text next_text : List ℕ) (range : PageRange) (pages : List Page) (page : Page) → (page ≡ page_after range → ⊥)
    → (range_end range ≤ 2 ^ 64 → next_text ≡ text ++ range_line range) → HasJoined text (Some range) pages
    → HasJoined next_text (Some (alone page)) (pages ++ page ∷ [])
next_taken text next_text range pages page other added had fits =
    let parts = fits_parts pages page fits in
    let was = had parts.0 in
    record {
      goes_on = λ more.
          more_behind pages page more
          ∙ was.goes_on (page ∷ more)
          ∙ ap (λ b. text ++ range_lines (if b then joined (longer range) more else range ∷ joined (alone page) more)) (not_next range page other)
          ∙ sym (append_assoc text (range_line range) (range_lines (joined (alone page) more)))
          ∙ ap (λ (bytes : List ℕ). bytes ++ range_lines (joined (alone page) more)) (sym (added was.fits));
      fits = subst (λ end. end ≤ 2 ^ 64) (sym (alone_ends page)) parts.1;
    }

-- no page comes any more
pub none_left : (text : List ℕ) (pages : List Page) → HasJoined text None pages → All Fits pages → text ≡ range_lines (ranges_of pages)
none_left text pages had fits =
    let was = had fits in
    sym (append-nil text) ∙ sym (was.goes_on []) ∙ ap (λ (ps : List Page). range_lines (ranges_of ps)) (append-nil pages)

pub last_closed : (text all : List ℕ) (range : PageRange) (pages : List Page) → (range_end range ≤ 2 ^ 64 → all ≡ text ++ range_line range)
    → HasJoined text (Some range) pages → All Fits pages → all ≡ range_lines (ranges_of pages)
last_closed text all range pages added had fits =
    let was = had fits in
    added was.fits
    ∙ ap (λ (bytes : List ℕ). text ++ bytes) (sym (append-nil (range_line range)))
    ∙ sym (was.goes_on [])
    ∙ ap (λ (ps : List Page). range_lines (ranges_of ps)) (append-nil pages)
