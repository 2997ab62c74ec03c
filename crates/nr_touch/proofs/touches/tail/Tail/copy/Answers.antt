use Rattle.std.proofs.Common.{◌≡◌, ◌∙◌, ◌↔◌, ◌++◌, ◌≤◌, ℕ, List, [], Option, Some, None, IfSome, drop, length, take, refl, ap, arith, sym, subst}
use Rattle.std.proofs.lemmas.List.{length-append, take-append-drop}
use Rattle.std.proofs.Math.Seq.{drop-append_seam}
use Rattle.vs_types.specs.declared.addresses.page.Page.{Page}
use Rattle.nr_trace.specs.Run.{Run, end_of}
use Rattle.nr_touch.specs.Tails.{HasIndexes, IsLeft, IsTailOf, KeepsChanges, Lingers}
use Rattle.nr_touch.specs.declared.touches.tail.Left.{Left}
use Rattle.nr_touch.specs.declared.touches.tail.Tail.{Tail}
use Rattle.nr_touch.proofs.cuts.Tails.{no_indexes}
use Rattle.nr_touch.proofs.touches.tail.Tail.copy.Goals as goal

-- the index, if there is one, has the pages of the run's space; before a first segment there is none
abbrev HasIndexOf : Option Run → Tail → Type 0
HasIndexOf None tail = tail.index ≡ None
HasIndexOf (Some run) tail = HasIndexes tail (end_of run)

no_index : (before : Option Run) (tail : Tail) → tail.index ≡ None → HasIndexOf before tail
no_index None tail none = none
no_index (Some run) tail none = no_indexes tail (end_of run) none

-- what has the same changes is left by the same run
same_tail : (before : Option Run) (one other : Tail) → other.changes.items ≡ one.changes.items → HasIndexOf before other → IsTailOf before one
    → IsTailOf before other
same_tail None one other changes indexed (none, _) = (changes ∙ none, indexed)
same_tail (Some run) one other changes indexed of_it = record {
  orderly = of_it.orderly;
  left = subst
      (λ (cs : List Left). (address : ℕ) (page : Option Page) → IsLeft cs address page ↔ Lingers run.start run.trace address page)
      (sym changes) of_it.left;
  index = indexed;
}

-- a front of a list, and what comes behind as many elements as it has
whole : (count : ℕ) (all : List Left) → take count all ++ drop (length (take count all)) all ≡ all
whole count all =
    let both = take-append-drop count all in
    ap (λ rest. take count all ++ rest)
    (subst (λ (xs : List Left). drop (length (take count all)) xs ≡ drop count all) both (drop-append_seam (take count all) (drop count all)))
    ∙ both

-- what was there before is the front of the changes
front : (before : Option Tail) (tail : Tail) (there : List Left) → IfSome before (λ earlier. KeepsChanges earlier tail)
    → IfSome before (λ earlier. there ≡ take tail.kept earlier.changes.items) → (before ≡ None → there ≡ [])
    → there ++ drop (length there) tail.changes.items ≡ tail.changes.items
front None tail there keeps some none = subst (λ (xs : List Left). xs ++ drop (length xs) tail.changes.items ≡ tail.changes.items) (sym (none refl)) refl
front (Some earlier) tail there keeps some none =
    subst (λ (xs : List Left). xs ++ drop (length xs) tail.changes.items ≡ tail.changes.items) (keeps ∙ sym some) (whole tail.kept tail.changes.items)

-- and is no longer than they are
within : (there rest all : List Left) → there ++ rest ≡ all → length there ≤ length all
within there rest all both = let many = sym (length-append there rest) ∙ ap length both in omega (arith, many)

pub with_rest-requires : goal.with_rest-requires
with_rest-requires c =
    let there = c.front_of-front.result.items in
    let all = c.args.self.now.changes.items in
    rw c.deref.ensures.value (within there (drop (length there) all) all
    (front c.args.before c.args.self.now there c.requires c.front_of-front.ensures.some c.front_of-front.ensures.none))

pub returns-clause-changes : goal.returns-clause-changes
returns-clause-changes c =
    let there = c.front_of-front.result.items in
    (c.in_ok-changes.ensures ∙ ap (λ (xs : List Left). there ++ drop (length there) xs) c.deref.ensures.value)
    ∙ front c.args.before c.args.self.now there c.requires c.front_of-front.ensures.some c.front_of-front.ensures.none

pub returns-clause-tail : goal.returns-clause-tail
returns-clause-tail c = λ before of_it.
    let copy : Tail = record { changes = c.in_ok-changes.changes; levels = c.new.result; index = None; kept = c.args.self.now.kept } in
    same_tail before c.args.self.now copy (returns-clause-changes c) (no_index before copy refl) of_it

pub returns-clause-back : goal.returns-clause-back
returns-clause-back c = λ run indexed of_copy.
    let copy : Tail = record { changes = c.in_ok-changes.changes; levels = c.new.result; index = None; kept = c.args.self.now.kept } in
    same_tail (Some run) copy c.args.self.now (sym (returns-clause-changes c)) indexed of_copy
