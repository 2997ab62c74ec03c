-- What there is at the indexes that are marked, and how a change of marks and values changes it.
use Rattle.std.proofs.Common.{◌≡◌, ℕ, zero, suc, ◌<◌, ◌≢◌, Bool, true, false, cond, eqb, ltb, List, [], ◌∷◌, ◌++◌, length, get_or, set, refl, sym, ap, ◌∙◌, inl}
use Rattle.std.proofs.Common.{inr, arith}
use Rattle.std.specs.Prelude.{Option, Some, None, unwrap_or}
use Rattle.std.specs.FinMap as finite
use Rattle.std.specs.FinMap.{nat_cmp-IsAntisymmetric}
use Rattle.std.specs.Ordering.{nat_cmp}
use Rattle.std.specs.Cmp.{nat_cmp_total}
use Rattle.std.proofs.lemmas.Grind.{get_or-set_at}
use Rattle.std.proofs.lemmas.List.{length_push, get_or-set_other, get_or_past, get_or_push, get_or_append_left}
use Rattle.std.proofs.lemmas.Bool.{cases_lt, eqb-true, eqb-false, lt-ltb, le-ltb}
use Rattle.std.proofs.lemmas.Bool.Decides.{nat_tests}
use Rattle.vs_arena.specs.Store.{note_of}
use Rattle.vs_arena.specs.Marked.{with_some, all_below, marked, marked_notes}
use Rattle.vs_types.proofs.Maps.{get-insert, get-remove}

-- but for the last place of a list that was pushed to, all is as before
pub get_or-push_other : {X : Type 0} (xs : List X) (x d : X) (q : ℕ) → q ≢ length xs → get_or (xs ++ x ∷ []) q d ≡ get_or xs q d
get_or-push_other xs x d q other = elim (cases_lt q (length xs)) as (λ _. get_or (xs ++ x ∷ []) q d ≡ get_or xs q d) [
  | inl lt ↦ get_or_append_left xs (x ∷ []) d q lt
  | inr le ↦ get_or_past (xs ++ x ∷ []) q d (omega (arith, length_push xs x, other)) ∙ sym (get_or_past xs q d le)
]

abbrev Map : Type 0 → Type 0
Map X = finite.FinMap nat_cmp X

module _ {X : Type 0} where
  -- one more index below which there is what is given
  get-with_some : (map : Map X) (n q : ℕ) (own given : Option X) → (q ≡ n → given ≡ own) → finite.get map q ≡ cond (ltb q n) given None
      → finite.get (with_some map n own) q ≡ cond (ltb q (suc n)) given None
  get-with_some map n q None given here below = grind (arith, nat_tests)
  get-with_some map n q (Some x) given here below = grind (arith, nat_tests, get-insert)

  pub get-all_below : (n : ℕ) (at : ℕ → Option X) (q : ℕ) → finite.get (all_below n at) q ≡ cond (ltb q n) (at q) None
  unfolding all_below
  get-all_below zero at q = finite.get-empty nat_cmp q ∙ ap (λ b. cond b (at q) None) (sym (le-ltb q 0 (omega arith)))
  get-all_below (suc n) at q = get-with_some (all_below n at) n q (at n) (at q) (λ e. ap at e) (get-all_below n at q)

  same_at : (m n : Map X) → ((q : ℕ) → finite.get m q ≡ finite.get n q) → m ≡ n
  same_at = finite.same_map nat_cmp_total nat_cmp-IsAntisymmetric

  same_where : (o : Bool) (a b x : Option X) → (o ≡ true → a ≡ x) → (o ≡ false → a ≡ b) → a ≡ cond o x b
  same_where true a b x here there = here refl
  same_where false a b x here there = there refl

  -- what was put in at an index and is then removed
  pub remove-insert : (map : Map X) (index : ℕ) (x : X) → finite.remove (finite.insert map index x) index ≡ finite.remove map index
  remove-insert map index x = same_at _ _ (λ q. get-remove _ index q ∙ here q ∙ sym (get-remove map index q)) where
    here : (q : ℕ) → cond (eqb q index) None (finite.get (finite.insert map index x) q) ≡ cond (eqb q index) None (finite.get map q)
    here q = same_where (eqb q index) _ _ _
        (λ is. ap (λ b. cond b None (finite.get (finite.insert map index x) q)) is)
        (λ isnt. rw (isnt, get-insert map index x q, isnt) refl)

  module _ (blank : X) where
    abbrev all_marked : List Bool → List X → Map X
    all_marked marks xs = all_below (length marks) (marked blank marks xs)

    -- what there is at an index
    pub get-marked : (marks : List Bool) (xs : List X) (q : ℕ) → finite.get (all_marked marks xs) q ≡ marked blank marks xs q
    get-marked marks xs q =
        get-all_below (length marks) (marked blank marks xs) q
        ∙ elim (cases_lt q (length marks)) as (λ _. cond (ltb q (length marks)) (marked blank marks xs q) None ≡ marked blank marks xs q) [
          | inl lt ↦ ap (λ b. cond b (marked blank marks xs q) None) (lt-ltb q (length marks) lt)
          | inr le ↦ ap (λ b. cond b (marked blank marks xs q) None) (le-ltb q (length marks) le)
              ∙ sym (ap (λ b. cond b (Some (get_or xs q blank)) None) (get_or_past marks q false le))
        ]

    -- what is written and marked at an index is inserted there
    pub marked-mark : (marks : List Bool) (xs : List X) (index : ℕ) (own : X) → index < length marks → index < length xs
        → all_marked (set marks index true) (set xs index own) ≡ finite.insert (all_marked marks xs) index own
    marked-mark marks xs index own in_marks in_xs =
        same_at _ _ (λ q. get-marked _ _ q ∙ here q ∙ sym (get-insert _ index own q ∙ ap (cond (eqb q index) (Some own)) (get-marked marks xs q))) where
          here : (q : ℕ) → marked blank (set marks index true) (set xs index own) q ≡ cond (eqb q index) (Some own) (marked blank marks xs q)
          here q = same_where (eqb q index) _ _ _
              (λ is. let at : q ≡ index = eqb-true q index is in
              rw (get_or-set_at marks index q true false at in_marks, get_or-set_at xs index q own blank at in_xs) refl)
              (λ isnt. let other : q ≢ index = eqb-false q index isnt in
              rw (get_or-set_other marks index q true false other, get_or-set_other xs index q own blank other) refl)

    -- what is written at a marked index is inserted there
    pub marked-write : (marks : List Bool) (xs : List X) (index : ℕ) (own : X) → get_or marks index false ≡ true → index < length xs
        → all_marked marks (set xs index own) ≡ finite.insert (all_marked marks xs) index own
    marked-write marks xs index own is_marked in_xs =
        same_at _ _ (λ q. get-marked _ _ q ∙ here q ∙ sym (get-insert _ index own q ∙ ap (cond (eqb q index) (Some own)) (get-marked marks xs q))) where
          here : (q : ℕ) → marked blank marks (set xs index own) q ≡ cond (eqb q index) (Some own) (marked blank marks xs q)
          here q = same_where (eqb q index) _ _ _
              (λ is. let at : q ≡ index = eqb-true q index is in rw (get_or-set_at xs index q own blank at in_xs, at, is_marked) refl)
              (λ isnt. let other : q ≢ index = eqb-false q index isnt in rw (get_or-set_other xs index q own blank other) refl)

    -- an index whose mark is taken away is removed
    pub marked-unmark : (marks : List Bool) (xs : List X) (index : ℕ) → index < length marks
        → all_marked (set marks index false) xs ≡ finite.remove (all_marked marks xs) index
    marked-unmark marks xs index in_marks =
        same_at _ _ (λ q. get-marked _ _ q ∙ here q ∙ sym (get-remove _ index q ∙ ap (cond (eqb q index) None) (get-marked marks xs q))) where
          here : (q : ℕ) → marked blank (set marks index false) xs q ≡ cond (eqb q index) None (marked blank marks xs q)
          here q = same_where (eqb q index) _ _ _
              (λ is. let at : q ≡ index = eqb-true q index is in rw (get_or-set_at marks index q false false at in_marks) refl)
              (λ isnt. let other : q ≢ index = eqb-false q index isnt in rw (get_or-set_other marks index q false false other) refl)

    -- what comes after the last index with a mark is inserted there
    pub marked-push : (marks : List Bool) (xs : List X) (own : X) → length xs ≡ length marks
        → all_marked (marks ++ true ∷ []) (xs ++ own ∷ []) ≡ finite.insert (all_marked marks xs) (length marks) own
    marked-push marks xs own long =
        same_at _ _ (λ q. get-marked _ _ q ∙ here q
        ∙ sym (get-insert _ (length marks) own q ∙ ap (cond (eqb q (length marks)) (Some own)) (get-marked marks xs q))) where
          here : (q : ℕ) → marked blank (marks ++ true ∷ []) (xs ++ own ∷ []) q ≡ cond (eqb q (length marks)) (Some own) (marked blank marks xs q)
          here q = same_where (eqb q (length marks)) _ _ _
              (λ is. let at : q ≡ length marks = eqb-true q (length marks) is in
              rw (get_or_push marks true false q (sym at), get_or_push xs own blank q (long ∙ sym at)) refl)
              (λ isnt. let other : q ≢ length marks = eqb-false q (length marks) isnt in
              rw (get_or-push_other marks true false q other, get_or-push_other xs own blank q (λ e. other (e ∙ long))) refl)

    pub marked-none : (xs : List X) → all_marked [] xs ≡ finite.empty
    unfolding all_below
    marked-none xs = refl

-- the note of a frame in use is at its index
pub note_of-marked : (marks : List Bool) (notes : List ℕ) (index : ℕ) → get_or marks index false ≡ true
    → note_of (marked_notes marks notes) index ≡ get_or notes index 0
note_of-marked marks notes index is_marked =
    ap (λ o. unwrap_or o 0) (get-marked 0 marks notes index ∙ ap (λ b. cond b (Some (get_or notes index 0)) None) is_marked)
