-- The steps on the word of a clock keep its rule.
use Rattle.std.proofs.Common.{◌≡◌, ℕ, zero, suc, ◌+◌, ◌-◌, ◌*◌, ◌%◌, ◌<◌, ◌≤◌, List, [], ◌∷◌, ◌++◌, length, get_or, set, eqb, cond, eq-eqb, get_or-set_same}
use Rattle.std.proofs.Common.{refl, ap, sym, ◌∙◌, subst, arith}
use Rattle.std.proofs.Math.ListN.{length-append, length-set}
use Rattle.std.specs.List.{sum_by}
use Rattle.std.proofs.lemmas.List.Sums.{sum_by-cons, sum_by-append, count_by-le-length}
use Rattle.std.proofs.lemmas.List.Elements.{All-cons, All-append, All-set, All-nil}
use Rattle.std.proofs.lemmas.Bool.Decides.{nat_tests}
use mathlib.Core.Option.{some}
use lib.ListN.{get_elem?}
use Rattle.atomic_table.specs.Table.{State, Me, Allows, keeps}
use Rattle.atomic_table.proofs.Lists.{set_else}
use Rattle.vs_types.specs.declared.limits.TheConstants.{CALLS}
use Rattle.nr_record.specs.Rule.{HasDrawn, IsKept, given, joint_seat, left_seat, empty_seat, with_stamp}
use Rattle.nr_record.specs.Stamps.{AreBelow, once_below, times}
use Rattle.nr_record.specs.declared.view.View.{View}
use Rattle.nr_record.proofs.Seats.{of_seat, sum_set, sum_has, sum_lt, sum_only}

abbrev quotas : List View → ℕ
quotas views = sum_by (λ v. v.quota) views

abbrev drawn : List View → ℕ
drawn views = sum_by (λ v. length v.stamps) views

abbrev often : ℕ → List View → ℕ
often stamp views = sum_by (λ v. times stamp v.stamps) views

pub times_append : (stamp : ℕ) (xs ys : List ℕ) → times stamp (xs ++ ys) ≡ times stamp xs + times stamp ys
times_append stamp xs ys = sum_by-append (λ (s : ℕ). cond (eqb s stamp) 1 0) xs ys

pub times_cons : (stamp n : ℕ) (stamps : List ℕ) → times stamp (n ∷ stamps) ≡ cond (eqb n stamp) 1 0 + times stamp stamps
times_cons stamp n stamps = sum_by-cons (λ (s : ℕ). cond (eqb s stamp) 1 0) n stamps

times_snoc : (stamp n : ℕ) (stamps : List ℕ) → times stamp (stamps ++ n ∷ []) ≡ times stamp stamps + cond (eqb n stamp) 1 0
times_snoc stamp n stamps = omega (arith, times_append stamp stamps (n ∷ []), times_cons stamp n [])

pub once_here : (stamp : ℕ) → cond (eqb stamp stamp) 1 0 ≡ suc zero
once_here stamp = ap (λ b. cond b 1 0) (eq-eqb stamp stamp refl)

-- a stamp that is in a list is there at least once
pub times_item : (stamps : List ℕ) (k d : ℕ) → k < length stamps → 1 ≤ times (get_or stamps k d) stamps
times_item [] k d lt = absurd (omega arith)
times_item (s ∷ ss) zero d lt = omega (arith, times_cons s s ss, once_here s)
times_item (s ∷ ss) (suc k) d lt = let r = times_item ss k d (omega arith) in omega (arith, times_cons (get_or ss k d) s ss, r)

once_more : (n stamp : ℕ) → once_below (n + 1) stamp ≡ once_below n stamp + cond (eqb n stamp) 1 0
once_more n stamp = grind (arith, nat_tests)

pub once_some : (n stamp : ℕ) → 1 ≤ once_below n stamp → stamp < n
once_some n stamp h = grind (arith, nat_tests)

twice : (views : List View) → sum_by (λ (v : View). 2 * v.quota) views ≡ 2 * quotas views
twice [] = refl
twice (v ∷ vs) =
    let r = twice vs in omega (arith, sum_by-cons (λ (v : View). 2 * v.quota) v vs, sum_by-cons (λ (v : View). v.quota) v vs, r)

less_drawn : (calls seat : ℕ) (words : List ℕ) (views : List View) (v : View) → IsKept calls words views → get_elem? views seat ≡ some v
    → length v.stamps < 2 * v.quota → get_or words 0 0 < CALLS
less_drawn calls seat words views v is at left =
    let less = sum_lt (λ (u : View). length u.stamps) (λ (u : View). 2 * u.quota) views seat v is.within at left in
    omega (arith, twice views, is.quotas, is.drawn, is.few, less)

pub draw_keeps : (calls seat : ℕ) (words : List ℕ) (views : List View) (v : View) → IsKept calls words views → get_elem? views seat ≡ some v
    → length v.stamps < 2 * v.quota
    → IsKept calls (set words 0 (get_or words 0 0 + 1)) (set views seat (with_stamp v (get_or words 0 0)))
draw_keeps calls seat words views v is at left =
    let n : ℕ = get_or words 0 0 in
    let w : View = with_stamp v n in
    let one = is.one_word in
    let long = length-append v.stamps (n ∷ []) in
    let next : get_or (set words 0 (n + 1)) 0 0 ≡ n + 1 = get_or-set_same words 0 (n + 1) 0 (omega arith) in
    record {
      one_word = length-set words 0 (n + 1) ∙ one;
      few = is.few;
      quotas = omega (arith, sum_set (λ (u : View). u.quota) views seat v w at, is.quotas);
      within = All-set (λ (u : View). length u.stamps ≤ 2 * u.quota) views seat w (omega (arith, long)) is.within;
      drawn = omega (arith, next, sum_set (λ (u : View). length u.stamps) views seat v w at, is.drawn, long);
      each_once = λ stamp.
          let total : often stamp (set views seat w) ≡ once_below n stamp + cond (eqb n stamp) 1 0 =
          omega (arith, sum_set (λ (u : View). times stamp u.stamps) views seat v w at, is.each_once stamp, times_snoc stamp n v.stamps) in
          total ∙ sym (once_more n stamp) ∙ ap (λ k. once_below k stamp) (sym next);
    }

pub draw_tells : (calls seat : ℕ) (words : List ℕ) (views : List View) (v : View) → IsKept calls words views → get_elem? views seat ≡ some v
    → length v.stamps < 2 * v.quota → HasDrawn v (get_or words 0 0) (with_stamp v (get_or words 0 0))
draw_tells calls seat words views v is at left = record {
  view = refl;
  later = λ k d lt.
      let stamp : ℕ = get_or v.stamps k d in
      let there = times_item v.stamps k d lt in
      let has = sum_has (λ (u : View). times stamp u.stamps) views seat v at in
      once_some (get_or words 0 0) stamp (omega (arith, is.each_once stamp, there, has));
  in_range = less_drawn calls seat words views v is at left;
}

sum_split : (f : View → ℕ) (views : List View) (seat : ℕ) (v left right : View) → get_elem? views seat ≡ some v → f left + f right ≡ f v
    → sum_by f (set views seat left ++ right ∷ []) ≡ sum_by f views
sum_split f views seat v left right at same =
    omega (arith, sum_by-append f (set views seat left) (right ∷ []), sum_by-cons f right [], sum_set f views seat v left at, same)

pub split_keeps : (calls quota seat : ℕ) (words : List ℕ) (views : List View) (v : View) → IsKept calls words views → get_elem? views seat ≡ some v
    → quota ≤ v.quota → v.stamps ≡ [] → IsKept calls words (set views seat (left_seat quota v) ++ given quota v ∷ [])
split_keeps calls quota seat words views v is at part fresh =
    let left : View = left_seat quota v in
    let right : View = given quota v in
    let P : View → Type 0 = λ u. length u.stamps ≤ 2 * u.quota in
    let empty : length v.stamps ≡ 0 = ap (λ (xs : List ℕ). length xs) fresh in
    record {
      one_word = is.one_word;
      few = is.few;
      quotas = sum_split (λ (u : View). u.quota) views seat v left right at (omega arith) ∙ is.quotas;
      within = All-append P (set views seat left) (right ∷ []) (All-set P views seat left (omega arith) is.within)
          (All-cons P right [] (omega arith) (All-nil P));
      drawn = is.drawn ∙ sym (sum_split (λ (u : View). length u.stamps) views seat v left right at (omega arith));
      each_once = λ stamp.
          sum_split (λ (u : View). times stamp u.stamps) views seat v left right at (omega arith) ∙ is.each_once stamp;
    }

sum_join : (f : View → ℕ) (views : List View) (seat other : ℕ) (v w both idle : View) → get_elem? views seat ≡ some v → get_elem? views other ≡ some w
    → (other ≡ seat → ⊥) → f both + f idle ≡ f v + f w → sum_by f (set (set views seat both) other idle) ≡ sum_by f views
sum_join f views seat other v w both idle at there differ same =
    let there' : get_elem? (set views seat both) other ≡ some w = set_else views seat other both differ ∙ there in
    omega (arith, sum_set f views seat v both at, sum_set f (set views seat both) other w idle there', same)

pub join_keeps : (calls seat other : ℕ) (words : List ℕ) (views : List View) (v w : View) → IsKept calls words views → get_elem? views seat ≡ some v
    → get_elem? views other ≡ some w → (other ≡ seat → ⊥)
    → IsKept calls words (set (set views seat (joint_seat v w)) other empty_seat)
join_keeps calls seat other words views v w is at there differ =
    let P : View → Type 0 = λ u. length u.stamps ≤ 2 * u.quota in
    let first = of_seat P views seat v is.within at in
    let second = of_seat P views other w is.within there in
    let long = length-append v.stamps w.stamps in
    record {
      one_word = is.one_word;
      few = is.few;
      quotas = sum_join (λ (u : View). u.quota) views seat other v w (joint_seat v w) empty_seat at there differ (omega arith) ∙ is.quotas;
      within = All-set P (set views seat (joint_seat v w)) other empty_seat (omega arith)
          (All-set P views seat (joint_seat v w) (omega (arith, first, second, long)) is.within);
      drawn = is.drawn ∙ sym (sum_join (λ (u : View). length u.stamps) views seat other v w (joint_seat v w) empty_seat at there differ (omega (arith, long)));
      each_once = λ stamp.
          sum_join (λ (u : View). times stamp u.stamps) views seat other v w (joint_seat v w) empty_seat at there differ
          (omega (arith, times_append stamp v.stamps w.stamps)) ∙ is.each_once stamp;
    }

pub close_tells : (calls seat : ℕ) (words : List ℕ) (views : List View) (v : View) → IsKept calls words views → get_elem? views seat ≡ some v
    → v.quota ≡ calls → AreBelow (get_or words 0 0) v.stamps × (length v.stamps ≡ get_or words 0 0)
close_tells calls seat words views v is at whole =
    let all : quotas views ≡ v.quota = is.quotas ∙ sym whole in (
      (λ stamp. sym (sum_only (λ (u : View). times stamp u.stamps) (λ (u : View). u.quota) views seat v at all
          (λ k d lt. let few = is.within k d lt in omega (arith, few, count_by-le-length (λ s. eqb s stamp) (get_or views k d).stamps)))
          ∙ is.each_once stamp),
      sym (is.drawn ∙ sum_only (λ (u : View). length u.stamps) (λ (u : View). u.quota) views seat v at all is.within),
    )

pub draw_allows : (slots id : ℕ) (me : Me (Unit {0}) View) (calls : ℕ) → length me.0.stamps < 2 * me.0.quota
    → Allows (λ (s : State (Unit {0}) View). IsKept calls s.words s.views) slots id me 0 (λ n. (n + 1) % 18446744073709551616)
    (λ stamp after. HasDrawn me.0 stamp after.0 × (after.1 ≡ me.1))
draw_allows slots id me calls left s is long at small =
    let n : ℕ = get_or s.words 0 0 in
    let w : View = with_stamp me.0 n in
    let less = less_drawn calls id s.words s.views me.0 is at left in
    let next : n + 1 ≡ (n + 1) % 18446744073709551616 = omega (arith, less) in (
      w,
      keeps,
      tt,
      subst (λ (k : ℕ). IsKept calls (set s.words 0 k) (set s.views id w)) next (draw_keeps calls id s.words s.views me.0 is at left),
      (draw_tells calls id s.words s.views me.0 is at left, refl),
    )

pub few_stamps : (calls seat : ℕ) (words : List ℕ) (views : List View) (v : View) → IsKept calls words views → get_elem? views seat ≡ some v
    → v.quota ≡ calls → length v.stamps ≤ CALLS
few_stamps calls seat words views v is at whole =
    let few = of_seat (λ (u : View). length u.stamps ≤ 2 * u.quota) views seat v is.within at in omega (arith, few, whole, is.few)
