-- The pages that addresses may still be found to look as, which are listed for releases.
use Rattle.std.proofs.Common.{◌≡◌, ℕ, ◌+◌, ◌*◌, ◌≤◌, ◌⊎◌, inl, inr, false, List, [], ◌∷◌, ◌++◌, length, slice_get, Option, Some, Contains, refl, sym, ap, ◌∙◌, subst}
use Rattle.std.proofs.Common.{arith}
use Rattle.std.proofs.lemmas.Option.{slice_get_within}
use Rattle.vs_types.specs.Page.{bytes_of}
use Rattle.vs_types.specs.declared.addresses.page.Page.{Page}
use Rattle.vs_types.proofs.Lists.{get_left, get_right, Contains-head, Contains-tail}
use Rattle.nr_touch.specs.Releases.{HasPhys}
use Rattle.nr_touch.specs.Tails.{ends_look, HasNoEnd, IsLeft}
use Rattle.nr_touch.specs.inside.Blocks.{whole, around, IsBlockOf}
use Rattle.nr_touch.specs.inside.Changes.{page_before}
use Rattle.nr_touch.specs.inside.Indexed.{IsIndexedAs}
use Rattle.nr_touch.specs.inside.Lefts.{KeepLooks}
use Rattle.nr_touch.specs.inside.Listed.{AreListed, AreWithin, IsListed}
use Rattle.nr_touch.specs.inside.Overs.{AddsNote, IsNoted, KnowsNothing}
use Rattle.nr_touch.specs.inside.Joined.{Behind}
use Rattle.nr_touch.specs.inside.Reached.{IsOpen, IsOpenThere, IsSamePlace, LeadsSo}
use Rattle.nr_touch.specs.declared.releases.lingering.Lingering.{Lingering}
use Rattle.nr_touch.specs.declared.releases.overs.Over.{Over}
use Rattle.nr_touch.specs.declared.releases.overs.Overs.{Overs}
use Rattle.nr_touch.specs.declared.releases.release.Release.{Release}
use Rattle.nr_touch.specs.declared.touches.tail.Left.{Left}
use Rattle.nr_touch.specs.declared.touches.joined.Joined.{Joined}
use Rattle.nr_touch.proofs.ChangedRows.{same_place}
use Rattle.nr_touch.proofs.OverRows.{answered_later}
use Rattle.nr_touch.proofs.cuts.Lefts.{left_parts}

-- ---- which looks are listed

-- what is listed of some looks is listed of fewer
pub fewer : (P Q : ℕ → Option Page → Type 0) (lingering : Lingering) (gone : Overs) → ((address : ℕ) (page : Option Page) → P address page → Q address page)
    → AreListed Q lingering gone → AreListed P lingering gone
fewer P Q lingering gone imply are = record {
  within = are.within;
  each = λ page frame less look. are.each page frame less (imply (page.base + frame * 4096) (Some page) look);
}

-- and where nothing is over
pub none_gone : (P : ℕ → Option Page → Type 0) (lingering : Lingering) (gone none : Overs) → KnowsNothing none → AreListed P lingering gone
    → AreListed P lingering none
none_gone P lingering gone none nothing are = record {
  within = λ key over at. absurd (nothing key over at);
  each = λ page frame less look.
      let it = are.each page frame less look in record {
        number = it.number;
        own = it.own;
        at = it.at;
        same = it.same;
        indexed = it.indexed;
        behind = λ key over at of has. absurd (nothing key over at);
      };
}

-- what is open at an event was so before
pub open_before : {joined : Joined} (b : Behind joined) (event later : ℕ) → event ≤ later → (address : ℕ) (page : Option Page)
    → IsOpen b later address page → IsOpen b event address page
open_before b event later up address page (none, it) = ((λ place ends early. none place ends (answered_later b.segment place event later up early)), it)

-- a page that is left is that before a change which doesn't end it
left_from : (changes : List Left) (address : ℕ) (page : Option Page) → IsLeft changes address page
    → (left : Left) × Contains changes left × (page_before left.change ≡ page) × (ends_look left page ≡ false)
left_from [] address page it = absurd it
left_from (left ∷ later) address page (inl (covered, open_so, none, looks)) = (left, Contains-head left later, looks, open_so)
left_from (left ∷ later) address page (inr more) =
    let (own, has, looks, open_so) = left_from later address page more in (own, Contains-tail left later own has, looks, open_so)

-- the pages of all changes are listed
pub all_listed : (changes : List Left) (lingering : Lingering) (gone : Overs) → AreWithin lingering gone
    → ((left : Left) (page : Page) (frame : ℕ) → Contains changes left → page_before left.change ≡ Some page → ends_look left (Some page) ≡ false
    → IsListed lingering gone page frame) → AreListed (IsLeft changes) lingering gone
all_listed changes lingering gone within all = record {
  within = within;
  each = λ page frame less look.
      let (left, has, looks, open_so) = left_from changes (page.base + frame * 4096) (Some page) look in all left page frame has looks open_so;
}

-- with the pages that the last changes leave, those of all changes are listed
pub with_own : (old own changes : List Left) (before after : Lingering) (gone : Overs) → KeepLooks (old ++ own) changes
    → AreListed (λ address page. IsLeft old address page × HasNoEnd own address page) before gone
    → ((page : Page) (frame : ℕ) → IsListed before gone page frame → IsListed after gone page frame) → AreListed (IsLeft own) after gone
    → AreListed (IsLeft changes) after gone
with_own old own changes before after gone keep was others mine = record {
  within = mine.within;
  each = λ page frame less look.
      let address = page.base + frame * 4096 in
      elim (left_parts address (Some page) old own ((keep address (Some page)).0 look)) [
        | inl here ↦ mine.each page frame less here
        | inr there ↦ others page frame (was.each page frame less there)
      ];
}

-- ---- one page more

module _ (old new : Lingering) (page : Page) (items : new.pages.items ≡ old.pages.items ++ page ∷ []) where
  pub still_listed : ((other : Page) (key : ℕ) → IsIndexedAs old.index other key → IsIndexedAs new.index other key) → (gone : Overs) (other : Page) (frame : ℕ)
      → IsListed old gone other frame → IsListed new gone other frame
  still_listed others gone other frame it = record {
    number = it.number;
    own = it.own;
    at = ap (λ (xs : List Page). slice_get xs it.number) items
        ∙ get_left old.pages.items (page ∷ []) it.number (slice_get_within old.pages.items it.number it.own it.at) ∙ it.at;
    same = it.same;
    indexed = others it.own it.number it.indexed;
    behind = it.behind;
  }

  pub now_listed : (number : ℕ) → number ≡ length old.pages.items → IsIndexedAs new.index page number → (gone : Overs) (frame : ℕ) → AreWithin old gone
      → IsListed new gone page frame
  now_listed number is indexed gone frame within = record {
    number = number;
    own = page;
    at = ap (λ (xs : List Page). slice_get xs number) items
        ∙ ap (slice_get (old.pages.items ++ page ∷ [])) (let same : number ≡ length old.pages.items + 0 = omega (arith, is) in same)
        ∙ get_right old.pages.items (page ∷ []) 0;
    same = record { base = refl; size = refl; phys = refl };
    indexed = indexed;
    behind = λ key over at of has. let few = within key over at in omega (arith, few, is);
  }

-- ---- a release beside them

-- pages of one place lead into the same blocks
same_block : (own page : Page) (block : ℕ) → IsSamePlace own page → IsBlockOf page block → IsBlockOf own block
same_block own page block same (inl (size, is)) = inl (size, is ∙ ap (λ (p : ℕ). around p size) (sym same.phys))
same_block own page block same (inr is) = let p = sym same.phys in let s = sym same.size in inr (is ∙ (λ i. whole (p i) (s i)))

-- its number isn't below the one from which on the release is compared
from_first : (lingering : Lingering) (gone : Overs) (release : Release) (block first : ℕ) (page : Page) (frame : ℕ)
    → (first ≡ 0) ⊎ ((over : Over) × IsNoted gone release block over × (over.rows ≡ first)) → (it : IsListed lingering gone page frame)
    → IsBlockOf page block → HasPhys release (page.phys + frame * 4096) → first ≤ it.number
from_first lingering gone release block first page frame (inl none) it of has = omega (arith, none)
from_first lingering gone release block first page frame (inr (over, noted, rows)) it of has =
    let phys = noted.memory.phys in
    let size : bytes_of release.size ≡ bytes_of over.release.size = ap bytes_of noted.memory.size in
    let low = it.behind noted.key over noted.has (subst (IsBlockOf page) (sym noted.of_block) of)
    (omega (arith, has.0, phys), omega (arith, has.1, phys, size)) in
    omega (arith, low, rows)

module _ {joined : Joined} (b : Behind joined) (release : Release) where
  -- a page of its place leads there
  own_leads : (own page : Page) (frame : ℕ) → IsSamePlace own page → IsOpenThere b release page frame → LeadsSo b release own
  own_leads own page frame same there = (same_place b release own page 0 0 same (omega arith) (
    record {
      frame = frame;
      within = there.within;
      has = there.has;
      own = page;
      same = record { base = refl; size = refl; phys = refl };
      finds = (0, inr there.open_so);
    },
    omega arith,
  )).0

  -- what is open there leads there by a page that is listed, from this number on
  pub leads_listed : (lingering : Lingering) (gone : Overs) (block first : ℕ)
      → (first ≡ 0) ⊎ ((over : Over) × IsNoted gone release block over × (over.rows ≡ first))
      → AreListed (IsOpen b release.made) lingering gone → (page : Page) (frame : ℕ) → IsOpenThere b release page frame → IsBlockOf page block → {Q : Type 0}
      → ((own : Page) (number : ℕ) → slice_get lingering.pages.items number ≡ Some own → IsIndexedAs lingering.index own number → IsBlockOf own block
      → first ≤ number → LeadsSo b release own → Q) → Q
  leads_listed lingering gone block first from are page frame there of says =
      let it = are.each page frame there.within there.open_so in
      says it.own it.number it.at it.indexed (same_block it.own page block it.same of)
      (from_first lingering gone release block first page frame from it of there.has) (own_leads it.own page frame it.same there)

  -- what was compared in vain is over
  pub gone_more : (lingering : Lingering) (old new : Overs) (block many : ℕ) → AddsNote old release block many new → many ≡ length lingering.pages.items
      → ((page : Page) (frame : ℕ) → IsOpenThere b release page frame → IsBlockOf page block → ⊥)
      → AreListed (IsOpen b release.made) lingering old → AreListed (IsOpen b release.made) lingering new
  gone_more lingering old new block many adds all none are = record {
    within = λ key over at. elim (adds key over at) [
      | inl was ↦ are.within key over was
      | inr (of_release, of_block, rows) ↦ omega (arith, rows, all)
    ];
    each = λ page frame less look.
        let it = are.each page frame less look in record {
          number = it.number;
          own = it.own;
          at = it.at;
          same = it.same;
          indexed = it.indexed;
          behind = λ key over at of has. elim (adds key over at) [
            | inl was ↦ it.behind key over was of has
            | inr (of_release, of_block, rows) ↦ absurd (none page frame (record {
              within = less;
              has = subst (λ (r : Release). HasPhys r (page.phys + frame * 4096)) of_release has;
              open_so = look;
            }) (subst (IsBlockOf page) of_block of))
          ];
        };
  }
