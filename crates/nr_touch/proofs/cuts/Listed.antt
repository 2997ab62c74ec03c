-- The pages that are listed before a segment and behind it.
use Rattle.std.proofs.Common.{◌≡◌, ℕ, ◌<◌, List, length, map, Option, Some, None, IfSome}
use Rattle.std.proofs.Common.{sym, subst}
use Rattle.vs_types.specs.Space.{Space}
use Rattle.nr_touch.specs.Tails.{HasIndexes, HasNoEnd, IsLeft}
use Rattle.nr_touch.specs.inside.Changes.{AreChanges}
use Rattle.nr_touch.specs.inside.Indexed.{HasPages}
use Rattle.nr_touch.specs.inside.Joined.{Behind}
use Rattle.nr_touch.specs.inside.Lefts.{left_of}
use Rattle.nr_touch.specs.inside.Levels.{left_in, AreLevels}
use Rattle.nr_touch.specs.inside.Listed.{AreListed}
use Rattle.nr_touch.specs.inside.Reached.{IsOpen}
use Rattle.nr_touch.specs.declared.changes.change.PlacedChange.{PlacedChange}
use Rattle.nr_touch.specs.declared.releases.lingering.Indexes.{Indexes}
use Rattle.nr_touch.specs.declared.releases.lingering.Lingering.{Lingering}
use Rattle.nr_touch.specs.declared.releases.overs.Overs.{Overs}
use Rattle.nr_touch.specs.declared.touches.joined.Joined.{Joined}
use Rattle.nr_touch.specs.declared.touches.tail.Left.{Left}
use Rattle.nr_touch.specs.declared.touches.tail.Tail.{Tail}
use Rattle.nr_touch.proofs.ListedPages.{fewer}
use Rattle.nr_touch.proofs.cuts.Levels.{levels_permuted}
use Rattle.nr_touch.proofs.cuts.Placed.{left_sorted, no_end, AreRising}

-- ---- what holds of an option, if there is one

pub if_both : {X : Type 0} (P Q : X → Type 0) (o : Option X) → IfSome o P → IfSome o Q → IfSome o (λ x. P x × Q x)
if_both P Q None p q = tt
if_both P Q (Some x) p q = (p, q)

pub if_so : {X : Type 0} (P Q : X → Type 0) (o : Option X) → ((x : X) → P x → Q x) → IfSome o P → IfSome o Q
if_so P Q None imply p = tt
if_so P Q (Some x) imply p = imply x p

pub pages_of : (tail : Tail) (space : Space) → HasIndexes tail space → IfSome tail.index (λ i. HasPages i.pages space)
pages_of tail space =
    if_so (λ i. HasPages i.pages space × AreListed (IsLeft tail.changes.items) i.lingering i.gone) (λ i. HasPages i.pages space) tail.index (λ i both. both.0)

pub listed_of : (tail : Tail) (space : Space) (changes : List Left) → changes ≡ tail.changes.items → HasIndexes tail space
    → IfSome tail.index (λ i. AreListed (IsLeft changes) i.lingering i.gone)
listed_of tail space changes is has =
    subst (λ (xs : List Left). IfSome tail.index (λ i. AreListed (IsLeft xs) i.lingering i.gone)) (sym is)
    (if_so (λ i. HasPages i.pages space × AreListed (IsLeft tail.changes.items) i.lingering i.gone)
    (λ i. AreListed (IsLeft tail.changes.items) i.lingering i.gone) tail.index (λ i both. both.1) has)

-- ---- by the columns of what is left

-- what is listed of the looks that changes leave is listed of those that are open
pub listed_open : (changes : List Left) {joined : Joined} (b : Behind joined) → AreLevels changes joined.earlier.items → (event : ℕ)
    (lingering : Lingering) (gone : Overs) → AreListed (IsLeft changes) lingering gone → AreListed (IsOpen b event) lingering gone
listed_open changes {joined} b are event lingering gone =
    fewer (IsOpen b event) (IsLeft changes) lingering gone (λ address page it. (left_sorted changes are.placed are.are (left_in joined.earlier.items)
    (levels_permuted are.placed joined.earlier.items are.cover) address page).0 it.1)

-- and what is listed of these is so of those that no change of the segment ends
pub listed_left : (changes : List Left) {joined : Joined} (b : Behind joined) → AreLevels changes joined.earlier.items → (own : List PlacedChange)
    → AreChanges b.start b.segment own → AreRising own → length b.segment.events < 4294967295 → (event : ℕ) (lingering : Lingering) (gone : Overs)
    → AreListed (IsOpen b event) lingering gone
    → AreListed (λ address page. IsLeft changes address page × HasNoEnd (map left_of own) address page) lingering gone
listed_left changes {joined} b are own changed rises few event lingering gone =
    fewer (λ address page. IsLeft changes address page × HasNoEnd (map left_of own) address page) (IsOpen b event) lingering gone (λ address page it. (
      (λ place ends early. (no_end b.start b.segment own changed rises few address page).0 it.1 place ends early.0 early.2.0 early.1 early.2.2),
      (left_sorted changes are.placed are.are (left_in joined.earlier.items) (levels_permuted are.placed joined.earlier.items are.cover) address page).1 it.0,
    ))

-- so of indexes
pub indexes_left : (changes : List Left) {joined : Joined} (b : Behind joined) → AreLevels changes joined.earlier.items → (own : List PlacedChange)
    → AreChanges b.start b.segment own → AreRising own → length b.segment.events < 4294967295 → (lefts : List Left) → lefts ≡ map left_of own
    → (index : Option Indexes) → IfSome index (λ i. (event : ℕ) × AreListed (IsOpen b event) i.lingering i.gone)
    → IfSome index (λ i. AreListed (λ address page. IsLeft changes address page × HasNoEnd lefts address page) i.lingering i.gone)
indexes_left changes b are own changed rises few lefts is index =
    if_so (λ i. (event : ℕ) × AreListed (IsOpen b event) i.lingering i.gone)
    (λ i. AreListed (λ address page. IsLeft changes address page × HasNoEnd lefts address page) i.lingering i.gone) index
    (λ i it. subst (λ (xs : List Left). AreListed (λ address page. IsLeft changes address page × HasNoEnd xs address page) i.lingering i.gone) (sym is)
    (listed_left changes b are own changed rises few it.0 i.lingering i.gone it.1))
