-- A pass takes over what another owns.
use Rattle.std.proofs.Common.{◌≡◌, ◌≢◌, ℕ, zero, suc, Bool, true, false, not, ◌&&◌, List, [], ◌∷◌, Contains, length, eqb, if◌then◌else◌, refl, ap, sym, subst}
use Rattle.std.proofs.Common.{◌∙◌, arith}
use Rattle.std.specs.Prelude.{slice_index_or, slice_set}
use Rattle.std.proofs.lemmas.Bool.{false≢true, and_parts, eqb-true, eq-eqb}
use Rattle.std.proofs.lemmas.List.Elements.{All-append, Contains-append_cases}
use mathlib.Core.Option.{some}
use lib.ListN.{get_elem?}
use Rattle.crossbeam_utils.specs.Register.{Forks, Merges}
use Rattle.version_cell.specs.Meetings.{Recalls}
use Rattle.vs_types.specs.declared.addresses.depth.Depth.{Depth}
use Rattle.nr_ring.specs.Calls.{empty_view, left_view}
use Rattle.nr_ring.specs.Rule.{IsKept}
use Rattle.nr_ring.specs.View.{HasSeenAdvances, StartsWith}
use Rattle.nr_ring.specs.declared.cells.stored.Stored.{Stored}
use Rattle.nr_ring.specs.declared.ring.view.View.{View}
use Rattle.nr_ring.specs.inside.Gathering.{are_apart, gathered, lacks, no_view, owner_of, taken_over}
use Rattle.nr_ring.proofs.Further.{between}
use Rattle.nr_ring.proofs.Joins.{merged, other_at, told_one}
use Rattle.nr_ring.proofs.Splits.{split_forks}
use Rattle.nr_ring.proofs.Turns.{seeing_kept}

-- ---- lists that are apart

-- no replica is in both
abbrev pub Apart : List ℕ → List ℕ → Type 0
Apart owned given = (replica : ℕ) → Contains owned replica → Contains given replica → ⊥

both_true : (a b : Bool) → a ≡ true → b ≡ true → a && b ≡ true
both_true true b e f = f
both_true false b e f = absurd (false≢true e)

not_true : (b : Bool) → (b ≡ true → ⊥) → not b ≡ true
not_true true none = absurd (none refl)
not_true false none = refl

not_both : (b : Bool) → not b ≡ true → b ≡ true → ⊥
not_both true e f = false≢true e
not_both false e f = false≢true f

behind : (x : ℕ) (xs : List ℕ) (y : ℕ) → Contains xs y → Contains (x ∷ xs) y
behind x xs y has = (suc has.0, omega (arith, has.1), has.2)

lacks_it : (xs : List ℕ) (y : ℕ) → (Contains xs y → ⊥) → lacks xs y ≡ true
lacks_it [] y none = refl
lacks_it (x ∷ xs) y none =
    both_true (not (eqb x y)) (lacks xs y) (not_true (eqb x y) (λ e. none (0, omega arith, eqb-true x y e)))
    (lacks_it xs y (λ has. none (behind x xs y has)))

it_lacks : (xs : List ℕ) (y : ℕ) → lacks xs y ≡ true → Contains xs y → ⊥
it_lacks [] y e (k, lt, is) = absurd (omega (arith, lt))
it_lacks (x ∷ xs) y e (zero, lt, is) = not_both (eqb x y) (and_parts (not (eqb x y)) (lacks xs y) e).0 (eq-eqb x y is)
it_lacks (x ∷ xs) y e (suc k, lt, is) = it_lacks xs y (and_parts (not (eqb x y)) (lacks xs y) e).1 (k, omega (arith, lt), is)

apart_so : (owned given : List ℕ) → Apart owned given → are_apart owned given ≡ true
apart_so owned [] apart = refl
apart_so owned (r ∷ given) apart =
    both_true (lacks owned r) (are_apart owned given) (lacks_it owned r (λ has. apart r has (0, omega arith, refl)))
    (apart_so owned given (λ x has its. apart x has (behind r given x its)))

so_apart : (owned given : List ℕ) → are_apart owned given ≡ true → Apart owned given
so_apart owned [] e x has (k, lt, is) = absurd (omega (arith, lt))
so_apart owned (r ∷ given) e x has (zero, lt, is) =
    let P : ℕ → Type 0 = λ y. Contains owned y in
    it_lacks owned r (and_parts (lacks owned r) (are_apart owned given) e).0 (subst P (sym is) has)
so_apart owned (r ∷ given) e x has (suc k, lt, is) =
    so_apart owned given (and_parts (lacks owned r) (are_apart owned given) e).1 x has (k, omega (arith, lt), is)

-- ---- the view of who takes over

when_apart : (b : Bool) (p q : View) → b ≡ true → (if b then p else q) ≡ p
when_apart true p q e = refl
when_apart false p q e = absurd (false≢true e)

unless_none : (b : Bool) (p q : View) → ((if b then p else q) ≢ q) → (b ≡ true) × ((if b then p else q) ≡ p)
unless_none true p q is = (refl, refl)
unless_none false p q is = absurd (is refl)

-- where some pass has it, the two owned different replicas
pub gathered_is : (v w : View) → gathered v w ≢ no_view → Apart v.owns w.owns × (gathered v w ≡ taken_over v w)
gathered_is v w is =
    let so = unless_none (are_apart v.owns w.owns) (taken_over v w) no_view is in (so_apart v.owns w.owns so.0, so.1)

-- ---- the steps

-- all that a pass owns is cut off
pub owner_forks : (depth : Depth) (replicas passes places pass : ℕ) (v : View) → Forks (IsKept depth replicas passes places) pass v
    (left_view v [] v.rights) (owner_of v)
owner_forks depth replicas passes places pass v stored views is at =
    split_forks depth replicas passes places pass v [] v.owns v.rights 0
    (record { kept_of = λ r kept. absurd (omega (arith, kept.1)); given_of = λ r has. has; apart = λ r kept given. absurd (omega (arith, kept.1)) })
    (record { all = omega arith; of_makers = is.makers_right pass v at })
    stored views is at

-- and goes to one that has seen as much
pub gather_merges : (depth : Depth) (replicas passes places pass other : ℕ) (v w : View) → StartsWith v.seen w.seen → w.mine ≡ []
    → Merges (IsKept depth replicas passes places) pass v other w (gathered v w) empty_view
gather_merges depth replicas passes places pass other v w begins idle stored views is at differ there =
    let old = is.each_view pass v at in
    let w_at = other_at views pass other (gathered v w) w differ there in
    let copy = is.each_view other w w_at in
    let apart : Apart v.owns w.owns = λ r mine its. differ (sym (is.one_owner pass other v w r at w_at mine its)) in
    let same : gathered v w ≡ taken_over v w = when_apart (are_apart v.owns w.owns) (taken_over v w) no_view (apart_so v.owns w.owns apart) in
    let Seen : ℕ → Type 0 = λ r. HasSeenAdvances r stored.history v.seen in
    let Kept : View → Type 0 = λ z. get_elem? (slice_set views pass z) other ≡ some w
    → IsKept depth replicas passes places stored (slice_set (slice_set views pass z) other empty_view) in
    subst Kept (sym same)
    (λ here. merged depth replicas passes places pass other v w (taken_over v w) stored views is at differ here idle
    (record {
      seen = old.seen;
      told = told_one stored.history w.seen v.told copy.seen old.told;
      owns = All-append Seen v.owns w.owns old.owns
          (λ k d lt. (between (slice_index_or w.owns k d) stored.history v.seen w.seen (copy.owns k d lt) old.seen begins).0);
      mine = old.mine;
    })
    (λ replica has. Contains-append_cases v.owns w.owns replica has) refl refl)
    there

-- each view is one that a pass has
pub existing_recalls : (depth : Depth) (replicas passes places pass : ℕ) (v : View) (value : Stored)
    → Recalls (IsKept depth replicas passes places) pass v value (λ before x y after. (before ≢ no_view) × (after ≡ before))
existing_recalls depth replicas passes places pass v value x views kept at = (
  v,
  seeing_kept depth replicas passes places pass v v.seen x views kept at (kept.each_view pass v at),
  (
    λ e.
        let idle = kept.makers_right pass v at (ap (λ (z : View). z.rights) e) in
        let none : length {A = ℕ} (0 ∷ []) ≡ length {A = ℕ} [] =
        ap (λ (l : List ℕ). length l) (sym (ap (λ (z : View). z.mine) e) ∙ idle) in absurd (omega (arith, none)),
    refl,
  ),
)
