-- A pass that has made nothing is joined to another.
use Rattle.std.proofs.Common.{◌≡◌, ◌≢◌, ◌⊎◌, inl, inr, ℕ, zero, suc, ◌+◌, List, [], ◌∷◌, All, Contains, length, set}
use Rattle.std.proofs.Common.{⊎_elim, refl, sym, subst, ◌∙◌, arith}
use Rattle.std.proofs.Math.ListN.{length-set}
use mathlib.Core.Option.{some}
use lib.ListN.{get_elem?}
use Rattle.atomic_table.proofs.Lists.{at_set}
use Rattle.crossbeam_utils.specs.Register.{Merges}
use Rattle.vs_types.specs.declared.addresses.depth.Depth.{Depth}
use Rattle.nr_ring.specs.View.{StartsWith, made_by_pass, IsTrueOf}
use Rattle.nr_ring.specs.Rule.{IsKept}
use Rattle.nr_ring.specs.Calls.{joint_view, empty_view}
use Rattle.nr_ring.specs.declared.ring.log_event.LogEvent.{LogEvent}
use Rattle.nr_ring.specs.declared.cells.stored.Stored.{Stored}
use Rattle.nr_ring.specs.declared.ring.view.View.{View}
use Rattle.nr_ring.proofs.Rights.{idle_still, rights_changed}

pub told_one : (events a : List LogEvent) (told : List (List LogEvent)) → StartsWith events a → All (StartsWith events) told
    → All (StartsWith events) (a ∷ told)
told_one events a told first rest zero d lt = first
told_one events a told first rest (suc k) d lt = rest k d (omega arith)

-- who owns a replica after a join of a pass to another, which then has this view
abbrev Owner : List View → ℕ → ℕ → View → ℕ → ℕ → Type 0
Owner views pass other z j replica =
    ((j ≡ pass) × Contains z.owns replica) ⊎ ((j ≢ pass) × (j ≢ other) × ((u : View) × (get_elem? views j ≡ some u) × Contains u.owns replica))

owner : (views : List View) (pass other : ℕ) (z : View) (j : ℕ) (u : View) (replica : ℕ)
    → get_elem? (set (set views pass z) other empty_view) j ≡ some u → Contains u.owns replica → Owner views pass other z j replica
owner views pass other z j u replica there has =
    let P : View → Type 0 = λ y. Contains y.owns replica in
    ⊎_elim
    (λ (t : (j ≡ other) × (empty_view ≡ u)). let none : Contains [] replica = subst P (sym t.1) has in absurd (omega (arith, none.1)))
    (λ (t : (j ≢ other) × (get_elem? (set views pass z) j ≡ some u)).
    ⊎_elim
    (λ (s : (j ≡ pass) × (z ≡ u)). inl (s.0, subst P (sym s.1) has))
    (λ (s : (j ≢ pass) × (get_elem? views j ≡ some u)). inr (s.0, t.0, (u, s.1, has)))
    (at_set views pass j z u t.1))
    (at_set (set views pass z) other j empty_view u there)

-- what the pass owns then was owned by it or by the other, so that no third pass owns it
third : (depth : Depth) (replicas passes places : ℕ) (stored : Stored) (views : List View) (pass other : ℕ) (v w : View) (j replica : ℕ) (u : View)
    → IsKept depth replicas passes places stored views → get_elem? views pass ≡ some v → get_elem? views other ≡ some w
    → Contains v.owns replica ⊎ Contains w.owns replica → j ≢ pass → j ≢ other → get_elem? views j ≡ some u → Contains u.owns replica → ⊥
third depth replicas passes places stored views pass other v w j replica u is at there (inl a) mine its here has = mine
    (is.one_owner j pass u v replica here at has a)
third depth replicas passes places stored views pass other v w j replica u is at there (inr a) mine its here has =
    its (is.one_owner j other u w replica here there has a)

one_each : (depth : Depth) (replicas passes places : ℕ) (stored : Stored) (views : List View) (pass other : ℕ) (v w z : View) (p q replica : ℕ)
    → IsKept depth replicas passes places stored views → get_elem? views pass ≡ some v → get_elem? views other ≡ some w
    → (Contains z.owns replica → Contains v.owns replica ⊎ Contains w.owns replica)
    → Owner views pass other z p replica → Owner views pass other z q replica → p ≡ q
one_each depth replicas passes places stored views pass other v w z p q replica is at there from (inl a) (inl b) = a.0 ∙ sym b.0
one_each depth replicas passes places stored views pass other v w z p q replica is at there from (inl a) (inr b) =
    absurd (third depth replicas passes places stored views pass other v w q replica b.2.0 is at there (from a.1) b.0 b.1 b.2.1 b.2.2)
one_each depth replicas passes places stored views pass other v w z p q replica is at there from (inr a) (inl b) =
    absurd (third depth replicas passes places stored views pass other v w p replica a.2.0 is at there (from b.1) a.0 a.1 a.2.1 a.2.2)
one_each depth replicas passes places stored views pass other v w z p q replica is at there from (inr a) (inr b) =
    is.one_owner p q a.2.0 b.2.0 replica a.2.1 b.2.1 a.2.2 b.2.2

-- what the other had seen before the join
pub other_at : (views : List View) (pass other : ℕ) (z w : View) → (other ≡ pass → ⊥) → get_elem? (set views pass z) other ≡ some w
    → get_elem? views other ≡ some w
other_at views pass other z w differ there =
    ⊎_elim (λ (t : (other ≡ pass) × (z ≡ w)). absurd (differ t.0)) (λ (t : (other ≢ pass) × (get_elem? views other ≡ some w)). t.1)
    (at_set views pass other z w there)

-- the pass may then have what is true of the history, own what one of the two owned, and has the rights of both
pub merged : (depth : Depth) (replicas passes places pass other : ℕ) (v w z : View) (stored : Stored) (views : List View)
    → (is : IsKept depth replicas passes places stored views)
    → get_elem? views pass ≡ some v → (other ≡ pass → ⊥) → get_elem? (set views pass z) other ≡ some w → w.mine ≡ []
    → IsTrueOf stored.history (made_by_pass pass is.makers) z → ((replica : ℕ) → Contains z.owns replica → Contains v.owns replica ⊎ Contains w.owns replica)
    → z.mine ≡ v.mine → z.rights ≡ v.rights + w.rights
    → IsKept depth replicas passes places stored (set (set views pass z) other empty_view)
merged depth replicas passes places pass other v w z stored views is at differ there idle own from mine rights =
    let changed = set views pass z in
    let wide : length (set changed other empty_view) ≡ length views = length-set changed other empty_view ∙ length-set views pass z in
    let w_at : get_elem? views other ≡ some w = other_at views pass other z w differ there in
    let T : ℕ → View → Type 0 = λ j y. IsTrueOf stored.history (made_by_pass j is.makers) y in
    let gone : T other empty_view = record {
      seen = (stored.history, refl);
      told = λ k d lt. absurd (omega arith);
      owns = λ k d lt. absurd (omega arith);
      mine = sym idle ∙ (is.each_view other w w_at).mine;
    } in
    record {
      makers = is.makers;
      is_history = is.is_history;
      each_ring = is.each_ring;
      rings_below = is.rings_below;
      ends = is.ends;
      each_made = is.each_made;
      by_passes = λ k d lt. omega (arith, is.by_passes k d lt, wide);
      each_view = λ j u here.
          ⊎_elim
          (λ (t : (j ≡ other) × (empty_view ≡ u)). let R : ℕ → Type 0 = λ i. T i empty_view in let Q : View → Type 0 = λ y. T j y in
          subst Q t.1 (subst R (sym t.0) gone))
          (λ (t : (j ≢ other) × (get_elem? changed j ≡ some u)).
          ⊎_elim
          (λ (s : (j ≡ pass) × (z ≡ u)). let R : ℕ → Type 0 = λ i. T i z in let Q : View → Type 0 = λ y. T j y in subst Q s.1 (subst R (sym s.0) own))
          (λ (s : (j ≢ pass) × (get_elem? views j ≡ some u)). is.each_view j u s.1)
          (at_set views pass j z u t.1))
          (at_set changed other j empty_view u here);
      one_owner = λ p q a b replica pa qb ha hb.
          one_each depth replicas passes places stored views pass other v w z p q replica is at w_at (from replica) (owner views pass other z p a replica pa ha)
          (owner views pass other z q b replica qb hb);
      all_rights = omega (arith, rights_changed views pass v z at, rights_changed changed other w empty_view there, is.all_rights, rights);
      makers_right = idle_still changed other empty_view (λ none. refl)
          (idle_still views pass z (λ none. mine ∙ is.makers_right pass v at (omega (arith, none, rights))) is.makers_right);
    }

pub join_merges : (depth : Depth) (replicas passes places pass other : ℕ) (v w : View) → w.mine ≡ []
    → Merges (IsKept depth replicas passes places) pass v other w (joint_view v w) empty_view
join_merges depth replicas passes places pass other v w idle stored views is at differ there =
    let old = is.each_view pass v at in
    let copy = is.each_view other w (other_at views pass other (joint_view v w) w differ there) in
    merged depth replicas passes places pass other v w (joint_view v w) stored views is at differ there idle
    (record { seen = old.seen; told = told_one stored.history w.seen v.told copy.seen old.told; owns = old.owns; mine = old.mine })
    (λ replica has. inl has) refl refl
