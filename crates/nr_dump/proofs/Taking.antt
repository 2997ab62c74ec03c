-- What each page that is taken makes of a comparison.
use Rattle.std.proofs.Common.{◌≡◌, ◌≢◌, ℕ, true, false, List, [], ◌∷◌, ◌++◌, Option, Some, None, refl, sym, ap, subst, ◌∙◌, Contains, min}
use Rattle.std.specs.Prelude.{is_some}
use Rattle.std.proofs.lemmas.List.{append_assoc, append-nil}
use Rattle.vs_types.specs.declared.addresses.page.Page.{Page}
use Rattle.vs_types.proofs.Lists.{Contains-head, Contains-tail}
use Rattle.nr_dump.specs.inside.Comparing.{HeadsDiffer, IsCompared, AreTaken, mark, HasCompared}

told_more : (pages taken told : List Page) (page : Page) → told ≡ pages ++ mark ∷ taken → told ++ page ∷ [] ≡ pages ++ mark ∷ (taken ++ page ∷ [])
told_more pages taken told page is = ap (λ xs. xs ++ page ∷ []) is ∙ append_assoc pages (mark ∷ taken) (page ∷ [])

-- the lesser base stays what it is as more pages come after
heads_stay : (first : Page) (rest more right : List Page) (base : ℕ) → HeadsDiffer (first ∷ rest) right base → HeadsDiffer (first ∷ (rest ++ more)) right base
heads_stay first rest more [] base h = h
heads_stay first rest more (q ∷ qs) base h = h

known_stays : (pages left : List Page) (base : ℕ) (taken : List Page) (page : Page) → AreTaken pages left (Some base) taken
    → AreTaken pages left (Some base) (taken ++ page ∷ [])
known_stays pages left base taken page (common, rest, right, first, is, parts, h) = (
  common,
  rest ++ page ∷ [],
  right,
  first,
  ap (λ xs. xs ++ page ∷ []) is
      ∙ append_assoc common (first ∷ rest) (page ∷ []),
  parts,
  heads_stay first rest (page ∷ []) right base h,
)

-- ---- what a comparison was given, and one page more

pub keeps_known : (left : List Page) (difference : Option ℕ) (told : List Page) (page : Page) → is_some difference ≡ true
    → HasCompared left difference told → HasCompared left difference (told ++ page ∷ [])
keeps_known left None told page known has = cc
keeps_known left (Some base) told page known (pages, taken, is, unmarked, are) =
    (pages, taken ++ page ∷ [], told_more pages taken told page is, unmarked, known_stays pages left base taken page are)

pub meets_page : (left : List Page) (difference : Option ℕ) (told : List Page) (page : Page) → is_some difference ≡ false
    → HasCompared (page ∷ left) difference told → HasCompared left difference (told ++ page ∷ [])
meets_page left None told page none (pages, taken, is, unmarked, are) =
    (pages, taken ++ page ∷ [], told_more pages taken told page is, unmarked, are ∙ sym (append_assoc taken (page ∷ []) left))
meets_page left (Some base) told page none has = cc

pub meets_other : (left after : List Page) (difference : Option ℕ) (told : List Page) (page next : Page) → is_some difference ≡ false → page ≢ next
    → HasCompared (next ∷ left) difference told → HasCompared after (Some (min page.base next.base)) (told ++ page ∷ [])
meets_other left after None told page next none differ (pages, taken, is, unmarked, are) =
    (pages, taken ++ page ∷ [], told_more pages taken told page is, unmarked, (taken, [], next ∷ left, page, refl, are, (differ, refl)))
meets_other left after (Some base) told page next none differ has = cc

pub meets_beyond : (after : List Page) (difference : Option ℕ) (told : List Page) (page : Page) → is_some difference ≡ false
    → HasCompared [] difference told → HasCompared after (Some page.base) (told ++ page ∷ [])
meets_beyond after None told page none (pages, taken, is, unmarked, are) =
    (pages, taken ++ page ∷ [], told_more pages taken told page is, unmarked, (taken, [], [], page, refl, are, refl))
meets_beyond after (Some base) told page none has = cc

-- ---- what a comparison says in the end

-- where no page is left
pub ends_equal : (pages taken : List Page) → AreTaken pages [] None taken → IsCompared taken pages None
ends_equal pages taken are = sym (are ∙ append-nil taken)

-- after pages that agree comes the next page of the space
pub ends_before : (pages left taken : List Page) (next : Page) → AreTaken pages (next ∷ left) None taken → IsCompared taken pages (Some next.base)
ends_before pages left taken next are = (taken, [], next ∷ left, sym (append-nil taken), are, refl)

-- ---- where the mark is

-- lists without the mark are equal where they come before one
same_before_mark : (ps qs xs ys : List Page) → (Contains ps mark → ⊥) → (Contains qs mark → ⊥) → ps ++ mark ∷ xs ≡ qs ++ mark ∷ ys → (ps ≡ qs) × (xs ≡ ys)
same_before_mark [] [] xs ys left right same = (refl, cc)
same_before_mark [] (q ∷ qs) xs ys left right same = let first : mark ≡ q = cc in
    absurd (right (subst (λ x. Contains (q ∷ qs) x) (sym first) (Contains-head q qs)))
same_before_mark (p ∷ ps) [] xs ys left right same = let first : p ≡ mark = cc in absurd (left (subst (λ x. Contains (p ∷ ps) x) first (Contains-head p ps)))
same_before_mark (p ∷ ps) (q ∷ qs) xs ys left right same =
    let first : p ≡ q = cc in
    let rest : ps ++ mark ∷ xs ≡ qs ++ mark ∷ ys = cc in
    let later = same_before_mark ps qs xs ys (λ h. left (Contains-tail p ps mark h)) (λ h. right (Contains-tail q qs mark h)) rest in
    (ap (λ x. x ∷ ps) first ∙ ap (λ x. q ∷ x) later.0, later.1)

-- nothing was taken yet
starts : (pages : List Page) → (Contains pages mark → ⊥) → HasCompared pages None (pages ++ mark ∷ [])
starts pages unmarked = (pages, [], refl, unmarked, refl)

-- a comparison that began with these pages has taken what it was given since
has_taken : (pages left : List Page) (difference : Option ℕ) (taken : List Page) → (Contains pages mark → ⊥)
    → HasCompared left difference ((pages ++ mark ∷ []) ++ taken)
    → AreTaken pages left difference taken
has_taken pages left difference taken unmarked (others, other, is, others_unmarked, are) =
    let same = same_before_mark pages others taken other unmarked others_unmarked (sym (append_assoc pages (mark ∷ []) taken) ∙ is) in
    subst (λ ps. AreTaken ps left difference taken) (sym same.0) (subst (λ ts. AreTaken others left difference ts) (sym same.1) are)

-- a comparison that has taken all pages says how they compare with those with which it began
pub compared : (pages first left : List Page) (nothing difference : Option ℕ) (taken : List Page) (answer : Option ℕ) → (Contains pages mark → ⊥)
    → first ≡ pages → nothing ≡ None
    → ((told : List Page) → HasCompared first nothing told → HasCompared left difference (told ++ taken))
    → ((ps ts : List Page) → AreTaken ps left difference ts → IsCompared ts ps answer)
    → IsCompared taken pages answer
compared pages first left nothing difference taken answer unmarked is none visited tells =
    let begun = subst (λ o. HasCompared first o (pages ++ mark ∷ [])) (sym none)
    (subst (λ ps. HasCompared ps None (pages ++ mark ∷ [])) (sym is) (starts pages unmarked)) in
    tells pages taken (has_taken pages left difference taken unmarked (visited (pages ++ mark ∷ []) begun))
