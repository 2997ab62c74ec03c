-- Equal texts are equal spaces.
use Rattle.std.proofs.Common.{◌≡◌, ℕ, ◌+◌, ◌*◌, ◌^◌, ◌<◌, ◌≤◌, Bool, true, false, if◌then◌else◌, List, [], ◌∷◌, All, Contains}
use Rattle.std.proofs.Common.{flat_map, refl, sym, ap, ◌∙◌, arith}
use Rattle.std.proofs.lemmas.List.Elements.{All-nil, All-cons, All-head, All-tail, All-weaker, All-contains_itself}
use Rattle.vs_types.specs.Depth.{IsCanonical}
use Rattle.vs_types.specs.Page.{bytes_of, end_of, level_of, IsPageBelow}
use Rattle.vs_types.specs.Space.{pages, page_covering, IsSpace, Space}
use Rattle.vs_types.specs.declared.addresses.depth.Depth.{Depth}
use Rattle.vs_types.specs.declared.addresses.page.Page.{Page}
use Rattle.vs_types.proofs.Pages.{canonical_fits, ends_before, level_at_most, pow_multiple}
use Rattle.vs_types.proofs.Alike.{alike_equal}
use Rattle.vs_types.proofs.Spaces.{holds_listed, look_same}
use Rattle.vs_walk.specs.Dump.{Image, IsDump}
use Rattle.vs_walk.specs.Laws.{as_found}
use Rattle.vs_walk.specs.Memory.{AreWhole, Memory}
use Rattle.vs_walk.specs.Traversal.{found, traversal, found_in}
use Rattle.vs_walk.specs.Walk.{walk, TranslatesAs}
use Rattle.vs_walk.proofs.LawsOfDumps.{dump_is_whole}
use Rattle.vs_walk.proofs.LawsOfRising.{pages_formed}
use Rattle.vs_walk.proofs.LawsOfSpaces.{found_are_pages, same_pages as same_found, translates_found}
use Rattle.vs_walk.proofs.LawsOfTraversals.{faultless_walk}
use Rattle.audit_texts.specs.Dumps.{dump_text, IsFaultless, TranslateAlike}
use Rattle.audit_texts.specs.Listing.{pages_text}
use Rattle.audit_texts.specs.Ranges.{alone, joined, longer, page_after, pages_of, range_end, ranges_of, same_page}
use Rattle.audit_texts.specs.declared.pages.range.PageRange.{PageRange}
use Rattle.audit_texts.proofs.Joining.{one_page, ranges_together}
use Rattle.audit_texts.proofs.OneText.{same_pages, same_ranges, IsShown, IsShownRange}

-- ---- pages below the end of all addresses

-- a page that lies below it, virtually and physically
pub record IsWithin (page : Page) : Type 0 where
  pub base : page.base < 2 ^ 64
  pub end : end_of page ≤ 2 ^ 64
  pub phys : page.phys < 2 ^ 64

pub is_within : (limit : ℕ) (depth : Depth) → limit ≤ 2 ^ 63 → (page : Page) → IsPageBelow limit depth page → IsWithin page
is_within limit depth few page is =
    let base = canonical_fits depth page.base is.canonical in
    record {
      base = base;
      end = ends_before page.size page.base (2 ^ 64) is.aligned (pow_multiple 64 (3 + 9 * level_of page.size) (omega (arith, level_at_most page.size))) base;
      phys = omega (arith, is.phys_range);
    }

shown : (page : Page) → IsWithin page → IsShown page
shown page is = record { base = omega (arith, is.base); phys = omega (arith, is.phys) }

-- ---- ranges of them

record IsWithinRange (range : PageRange) : Type 0 where
  first : IsWithin range.first
  end : range_end range ≤ 2 ^ 64

shown_range : (range : PageRange) → IsWithinRange range → IsShownRange range
shown_range range is = record { first = shown range.first is.first; end = omega (arith, is.end) }

within_alone : (page : Page) → IsWithin page → IsWithinRange (alone page)
within_alone page is = record { first = is; end = omega (arith, is.end) }

within_longer : (range : PageRange) (page : Page) → page ≡ page_after range → IsWithinRange range → IsWithin page → IsWithinRange (longer range)
within_longer range page same is next =
    let base : page.base ≡ range_end range = ap (λ (p : Page). p.base) same in
    let size : bytes_of page.size ≡ bytes_of range.first.size = ap (λ (p : Page). bytes_of p.size) same in
    record { first = is.first; end = omega (arith, next.end, base, size) }

joined_within : (range : PageRange) (more : List Page) → IsWithinRange range → All IsWithin more → All IsWithinRange (joined range more)
joined_within range [] is all = All-cons IsWithinRange range [] is (All-nil _)
joined_within range (page ∷ more) is all =
    let here = All-head IsWithin page more all in
    let later = All-tail IsWithin page more all in
    elim (same_page page (page_after range)) as
    (λ b. same_page page (page_after range) ≡ b → All IsWithinRange (if b then joined (longer range) more else range ∷ joined (alone page) more)) [
      | true ↦ λ e. joined_within (longer range) more (within_longer range page (one_page page (page_after range) e) is here) later
      | false ↦ λ e. All-cons IsWithinRange range (joined (alone page) more) is (joined_within (alone page) more (within_alone page here) later)
    ] refl

ranges_within : (them : List Page) → All IsWithin them → All IsWithinRange (ranges_of them)
ranges_within [] all = All-nil _
ranges_within (page ∷ more) all =
    joined_within (alone page) more (within_alone page (All-head IsWithin page more all)) (All-tail IsWithin page more all)

-- ---- one text, one list of pages

pub one_list : (as_ranges : Bool) (ps qs : List Page) → All IsWithin ps → All IsWithin qs → pages_text as_ranges ps ≡ pages_text as_ranges qs → ps ≡ qs
one_list false ps qs first second same = same_pages ps qs (All-weaker IsWithin IsShown shown ps first) (All-weaker IsWithin IsShown shown qs second) same
one_list true ps qs first second same =
    let ranges = same_ranges (ranges_of ps) (ranges_of qs)
    (All-weaker IsWithinRange IsShownRange shown_range (ranges_of ps) (ranges_within ps first))
    (All-weaker IsWithinRange IsShownRange shown_range (ranges_of qs) (ranges_within qs second)) same in
    sym (ranges_together ps) ∙ ap (λ (rs : List PageRange). flat_map pages_of rs) ranges ∙ ranges_together qs

-- ---- dumps

pub found_within : (depth : Depth) (memory : Memory) (root : ℕ) → AreWhole memory → All IsWithin (found (traversal depth memory root))
found_within depth memory root whole =
    All-weaker (IsPageBelow (2 ^ 52) depth) IsWithin (is_within (2 ^ 52) depth (omega arith)) (found (traversal depth memory root))
    (pages_formed depth memory root whole)

pub dump_within : (depth : Depth) (dump : Image) → IsDump dump → All IsWithin (found_in depth dump)
dump_within depth dump is = found_within depth dump.frames dump.root (dump_is_whole dump is)

pub dump_ends : (depth : Depth) (dump : Image) → IsDump dump → All (λ page. end_of page ≤ 2 ^ 64) (found_in depth dump)
dump_ends depth dump is = All-weaker IsWithin (λ page. end_of page ≤ 2 ^ 64) (λ page within. within.end) (found_in depth dump) (dump_within depth dump is)

walked : (depth : Depth) (dump : Image) → IsFaultless depth dump → (address : ℕ) → IsCanonical depth address
    → walk depth dump.frames dump.root address ≡ as_found address (page_covering address (found_in depth dump))
walked depth dump is address canonical = faultless_walk depth dump.frames dump.root address (dump_is_whole dump is.is_dump) canonical is.no_fault

pub equal_texts : (as_ranges : Bool) (depth other_depth : Depth) (dump other : Image) → IsFaultless depth dump → IsFaultless other_depth other
    → dump_text as_ranges depth dump ≡ dump_text as_ranges other_depth other → TranslateAlike depth dump other_depth other
equal_texts as_ranges depth other_depth dump other first second same address canonical other_canonical =
    let them = one_list as_ranges (found_in depth dump) (found_in other_depth other) (dump_within depth dump first.is_dump)
    (dump_within other_depth other second.is_dump) same in
    walked depth dump first address canonical
    ∙ ap (λ (ps : List Page). as_found address (page_covering address ps)) them
    ∙ sym (walked other_depth other second address other_canonical)

pub alike_texts : (as_ranges : Bool) (depth : Depth) (dump other : Image) → IsFaultless depth dump → IsFaultless depth other
    → TranslateAlike depth dump depth other → dump_text as_ranges depth dump ≡ dump_text as_ranges depth other
alike_texts as_ranges depth dump other first second alike =
    ap (pages_text as_ranges)
    (same_found (found_are_pages depth dump.frames dump.root (dump_is_whole dump first.is_dump))
    (found_are_pages depth other.frames other.root (dump_is_whole other second.is_dump))
    (λ address canonical.
    sym (walked depth dump first address canonical) ∙ alike address canonical canonical ∙ walked depth other second address canonical))

-- ---- spaces

pub text_of_space : (as_ranges : Bool) (depth : Depth) (dump : Image) (space : Space) → IsDump dump → IsSpace depth space
    → TranslatesAs depth dump.frames dump.root space → dump_text as_ranges depth dump ≡ pages_text as_ranges (pages space)
text_of_space as_ranges depth dump space is_dump is translates =
    ap (pages_text as_ranges) (translates_found depth dump.frames dump.root space (dump_is_whole dump is_dump) is translates)

space_within : (depth : Depth) (space : Space) → IsSpace depth space → All IsWithin (pages space)
space_within depth space is =
    All-weaker (Contains (pages space)) IsWithin
    (λ page listed. is_within (2 ^ 51) depth (omega arith) page (is.well_formed page ((holds_listed is page).0 listed)))
    (pages space) (All-contains_itself (pages space))

pub space_ends : (depth : Depth) (space : Space) → IsSpace depth space → All (λ page. end_of page ≤ 2 ^ 64) (pages space)
space_ends depth space is = All-weaker IsWithin (λ page. end_of page ≤ 2 ^ 64) (λ page within. within.end) (pages space) (space_within depth space is)

pub equal_spaces : (as_ranges : Bool) (depth : Depth) (s t : Space) → IsSpace depth s → IsSpace depth t
    → pages_text as_ranges (pages s) ≡ pages_text as_ranges (pages t) → s ≡ t
equal_spaces as_ranges depth s t first second same =
    let them = one_list as_ranges (pages s) (pages t) (space_within depth s first) (space_within depth t second) same in
    alike_equal first second (λ address canonical. look_same s t address (ap (λ (ps : List Page). page_covering address ps) them))
