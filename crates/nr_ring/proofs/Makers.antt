-- Who made the events: passes that have a right, of which there are no more than rights.
use Rattle.std.proofs.Common.{◌≡◌, ℕ, zero, suc, ◌+◌, ◌<◌, ◌≤◌, Bool, true, false, List, [], ◌∷◌, Contains, length, get_or, eqb, leb, cond, count_by, refl, sym}
use Rattle.std.proofs.Common.{subst, arith}
use Rattle.std.proofs.lemmas.Bool.{eq-eqb, leb-true}
use Rattle.std.proofs.lemmas.List.Sums.{sum_by-le-sum_by}
use mathlib.Core.Option.{some}
use lib.ListN.{get_elem?}
use Rattle.vs_types.specs.declared.addresses.depth.Depth.{Depth}
use Rattle.nr_ring.specs.Laws.{IsMaker}
use Rattle.nr_ring.specs.Rule.{IsKept}
use Rattle.nr_ring.specs.View.{made_from, made_by_pass}
use Rattle.nr_ring.specs.declared.cells.stored.Stored.{Stored}
use Rattle.nr_ring.specs.declared.ring.view.View.{View}
use Rattle.nr_ring.proofs.Views.{same_item}

view_below : (views : List View) (pass : ℕ) → pass < length views → (v : View) × (get_elem? views pass ≡ some v)
view_below [] pass lt = absurd (omega arith)
view_below (u ∷ us) zero lt = (u, refl)
view_below (u ∷ us) (suc pass) lt = view_below us pass (omega arith)

contains_more : (xs : List ℕ) (x y : ℕ) → Contains xs y → Contains (x ∷ xs) y
contains_more xs x y has = (suc has.0, omega (arith, has.1), has.2)

-- a later event of a pass is among those that it made
later : (from m maker y : ℕ) (ms : List ℕ) (b : Bool) → eqb m maker ≡ b → Contains (made_from (from + 1) maker ms) y
    → Contains (made_from from maker (m ∷ ms)) y
later from m maker y ms true is has = rw is (contains_more (made_from (from + 1) maker ms) from y has)
later from m maker y ms false is has = rw is has

first : (from m maker : ℕ) (ms : List ℕ) → eqb m maker ≡ true → Contains (made_from from maker (m ∷ ms)) from
first from m maker ms is = rw is (zero, omega arith, refl)

made_there : (from k : ℕ) (makers : List ℕ) (maker : ℕ) → k < length makers → get_or makers k maker ≡ maker → Contains (made_from from maker makers) (from + k)
made_there from k [] maker lt is = absurd (omega arith)
made_there from zero (m ∷ ms) maker lt is =
    let P : ℕ → Type 0 = λ n. Contains (made_from from maker (m ∷ ms)) n in
    subst P (omega arith) (first from m maker ms (eq-eqb m maker is))
made_there from (suc k) (m ∷ ms) maker lt is =
    let P : ℕ → Type 0 = λ n. Contains (made_from from maker (m ∷ ms)) n in
    subst P (omega arith) (later from m maker (from + 1 + k) ms (eqb m maker) refl (made_there (from + 1) k ms maker (omega arith) is))

has_made : (v : View) (number : ℕ) → Contains v.mine number → v.mine ≡ [] → ⊥
has_made v number has none = let P : List ℕ → Type 0 = λ xs. Contains xs number in let at = subst P none has in absurd (omega (arith, at.1))

right_of : (v : View) (n number : ℕ) → v.rights ≡ n → (v.rights ≡ 0 → v.mine ≡ []) → Contains v.mine number → 1 ≤ v.rights
right_of v zero number is idle has = absurd (has_made v number has (idle is))
right_of v (suc n) number is idle has = omega (arith, is)

pub maker_of : (depth : Depth) (replicas passes places : ℕ) (stored : Stored) (views : List View) (kept : IsKept depth replicas passes places stored views)
    → (number : ℕ) → number < length stored.history → (pass : ℕ) × IsMaker views number pass
maker_of depth replicas passes places stored views kept number lt =
    let pass = get_or kept.makers number 0 in
    let here : number < length kept.makers = omega (arith, kept.each_made) in
    let v = view_below views pass (kept.by_passes number 0 here) in
    let is = kept.each_view pass v.0 v.1 in
    let P : List ℕ → Type 0 = λ xs. Contains xs number in
    let Q : ℕ → Type 0 = λ n. Contains (made_by_pass pass kept.makers) n in
    let all = subst Q (omega arith) (made_there 0 number kept.makers pass here (same_item kept.makers number pass 0 here)) in
    let made : Contains v.0.mine number = subst P (sym is.mine) all in (
      pass,
      record { view = v.0; is_there = v.1; made = made; right = right_of v.0 v.0.rights number refl (kept.makers_right pass v.0 v.1) made },
    )

one_at_most : (b : Bool) (n : ℕ) → leb 1 n ≡ b → cond b 1 0 ≤ n
one_at_most true n is = let one = leb-true 1 n is in omega arith
one_at_most false n is = omega arith

pub few_makers : (depth : Depth) (replicas passes places : ℕ) (stored : Stored) (views : List View) → IsKept depth replicas passes places stored views
    → count_by (λ (v : View). leb 1 v.rights) views ≤ passes
few_makers depth replicas passes places stored views kept =
    omega (
      arith,
      kept.all_rights,
      sum_by-le-sum_by (λ (v : View). cond (leb 1 v.rights) 1 0) (λ (v : View). v.rights) views (λ v. one_at_most (leb 1 v.rights) v.rights refl),
    )
