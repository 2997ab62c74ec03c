-- A pass is split: the new pass has seen as much, and takes some of what the other owned.
use Rattle.std.proofs.Common.{◌≡◌, ◌≢◌, ℕ, suc, ◌+◌, ◌<◌, List, [], ◌∷◌, ◌++◌, All, Contains, length, set, eqb, ◌⊎◌, inl, inr, ⊎_elim, refl}
use Rattle.std.proofs.Common.{ap, sym, subst, ◌∙◌, arith}
use Rattle.std.specs.Prelude.{slice_index_or}
use Rattle.std.proofs.Math.ListN.{length-append, length-set}
use Rattle.std.proofs.lemmas.Bool.{ne_eqb}
use Rattle.std.proofs.lemmas.List.Sums.{sum_by_push}
use mathlib.Core.Option.{some}
use lib.ListN.{get_elem?}
use Rattle.atomic_table.proofs.Lists.{at_set}
use Rattle.crossbeam_utils.specs.Register.{Forks}
use Rattle.version_cell.proofs.Parts.{at_end}
use Rattle.vs_types.specs.declared.addresses.depth.Depth.{Depth}
use Rattle.nr_ring.specs.View.{HasSeenAdvances, made_from, made_by_pass, IsTrueOf}
use Rattle.nr_ring.specs.Rule.{IsKept}
use Rattle.nr_ring.specs.Calls.{AreCut, IsCut, copy_of, left_view, offshoot}
use Rattle.nr_ring.specs.declared.cells.stored.Stored.{Stored}
use Rattle.nr_ring.specs.declared.ring.view.View.{View}
use Rattle.nr_ring.proofs.Views.{contains_item}
use Rattle.nr_ring.proofs.Rights.{idle_still, rights_changed}

none_made : (number pass : ℕ) (makers : List ℕ) → All (λ m. m < pass) makers → made_from number pass makers ≡ []
none_made number pass [] below = refl
none_made number pass (m ∷ ms) below =
    let first : eqb m pass ≡ Rattle.std.proofs.Common.false = ne_eqb m pass (λ e. absurd (omega (arith, below 0 0 (omega arith)))) in
    rw first (none_made (number + 1) pass ms (λ k d lt. below (suc k) d (omega arith)))

-- what holds of each item holds of one that is contained
pub holds_of : (P : ℕ → Type 0) (xs : List ℕ) (x : ℕ) → All P xs → Contains xs x → P x
holds_of P xs x all has = subst P has.2 (all has.0 x has.1)

-- who owns a replica after the cut
abbrev Owner : List View → ℕ → List ℕ → List ℕ → ℕ → ℕ → Type 0
Owner views pass kept given j replica =
    ((j ≢ pass) × ((u : View) × (get_elem? views j ≡ some u) × Contains u.owns replica)) ⊎
    (((j ≡ pass) × Contains kept replica) ⊎ ((j ≡ length views) × Contains given replica))

owner : (views : List View) (pass : ℕ) (v : View) (kept given : List ℕ) (left right j : ℕ) (u : View) (replica : ℕ)
    → get_elem? (set views pass (left_view v kept left) ++ offshoot v given right ∷ []) j ≡ some u → Contains u.owns replica
    → Owner views pass kept given j replica
owner views pass v kept given left right j u replica there has =
    let P : View → Type 0 = λ z. Contains z.owns replica in
    ⊎_elim
    (λ (first : get_elem? (set views pass (left_view v kept left)) j ≡ some u).
    ⊎_elim
    (λ (t : (j ≡ pass) × (left_view v kept left ≡ u)). inr (inl (t.0, subst P (sym t.1) has)))
    (λ (t : (j ≢ pass) × (get_elem? views j ≡ some u)). inl (t.0, (u, t.1, has)))
    (at_set views pass j (left_view v kept left) u first))
    (λ (last : (j ≡ length (set views pass (left_view v kept left))) × (offshoot v given right ≡ u)). inr
    (inr (last.0 ∙ length-set views pass (left_view v kept left), subst P (sym last.1) has)))
    (at_end (set views pass (left_view v kept left)) (offshoot v given right) u j there)

one_each : (depth : Depth) (replicas passes places : ℕ) (stored : Stored) (views : List View) (pass : ℕ) (v : View) (kept given : List ℕ) (p q replica : ℕ)
    → IsKept depth replicas passes places stored views → get_elem? views pass ≡ some v → IsCut v.owns kept given → Owner views pass kept given p replica
    → Owner views pass kept given q replica → p ≡ q
one_each depth replicas passes places stored views pass v kept given p q replica is at cut (inl a) (inl b) =
    is.one_owner p q a.1.0 b.1.0 replica a.1.1 b.1.1 a.1.2 b.1.2
one_each depth replicas passes places stored views pass v kept given p q replica is at cut (inl a) (inr (inl b)) =
    absurd (a.0 (is.one_owner p pass a.1.0 v replica a.1.1 at a.1.2 (cut.kept_of replica b.1)))
one_each depth replicas passes places stored views pass v kept given p q replica is at cut (inl a) (inr (inr b)) =
    absurd (a.0 (is.one_owner p pass a.1.0 v replica a.1.1 at a.1.2 (cut.given_of replica b.1)))
one_each depth replicas passes places stored views pass v kept given p q replica is at cut (inr (inl a)) (inl b) =
    absurd (b.0 (is.one_owner q pass b.1.0 v replica b.1.1 at b.1.2 (cut.kept_of replica a.1)))
one_each depth replicas passes places stored views pass v kept given p q replica is at cut (inr (inr a)) (inl b) =
    absurd (b.0 (is.one_owner q pass b.1.0 v replica b.1.1 at b.1.2 (cut.given_of replica a.1)))
one_each depth replicas passes places stored views pass v kept given p q replica is at cut (inr (inl a)) (inr (inl b)) = a.0 ∙ sym b.0
one_each depth replicas passes places stored views pass v kept given p q replica is at cut (inr (inl a)) (inr (inr b)) = absurd (cut.apart replica a.1 b.1)
one_each depth replicas passes places stored views pass v kept given p q replica is at cut (inr (inr a)) (inr (inl b)) = absurd (cut.apart replica b.1 a.1)
one_each depth replicas passes places stored views pass v kept given p q replica is at cut (inr (inr a)) (inr (inr b)) = a.0 ∙ sym b.0

pub split_forks : (depth : Depth) (replicas passes places pass : ℕ) (v : View) (kept given : List ℕ) (left right : ℕ) → IsCut v.owns kept given
    → AreCut v left right → Forks (IsKept depth replicas passes places) pass v (left_view v kept left) (offshoot v given right)
split_forks depth replicas passes places pass v kept given left right cut shares stored views is at =
    let old = is.each_view pass v at in
    let changed = set views pass (left_view v kept left) in
    let wide : length changed ≡ length views = length-set views pass (left_view v kept left) in
    let Seen : ℕ → Type 0 = λ r. HasSeenAdvances r stored.history v.seen in
    let T : ℕ → View → Type 0 = λ j z. IsTrueOf stored.history (made_by_pass j is.makers) z in
    let own : T pass (left_view v kept left) =
    record {
      seen = old.seen;
      told = old.told;
      owns =
          λ k d lt. holds_of Seen v.owns (slice_index_or kept k d) old.owns (cut.kept_of (slice_index_or kept k d) (contains_item kept k d lt));
      mine = old.mine;
    } in
    let new : T (length views) (offshoot v given right) = record {
      seen = old.seen;
      told = λ k d lt. absurd (omega arith);
      owns = λ k d lt. holds_of Seen v.owns (slice_index_or given k d) old.owns (cut.given_of (slice_index_or given k d) (contains_item given k d lt));
      mine = sym (none_made 0 (length views) is.makers is.by_passes);
    } in
    record {
      makers = is.makers;
      is_history = is.is_history;
      each_ring = is.each_ring;
      rings_below = is.rings_below;
      ends = is.ends;
      each_made = is.each_made;
      by_passes = λ k d lt. omega (arith, is.by_passes k d lt, wide, length-append changed (offshoot v given right ∷ []));
      each_view = λ j u there.
          ⊎_elim
          (λ (first : get_elem? changed j ≡ some u).
          ⊎_elim
          (λ (t : (j ≡ pass) × (left_view v kept left ≡ u)). let R : ℕ → Type 0 = λ i. T i (left_view v kept left) in let Q : View → Type 0 = λ z. T j z in
          subst Q t.1 (subst R (sym t.0) own))
          (λ (t : (j ≢ pass) × (get_elem? views j ≡ some u)). is.each_view j u t.1)
          (at_set views pass j (left_view v kept left) u first))
          (λ (last : (j ≡ length changed) × (offshoot v given right ≡ u)).
          let R : ℕ → Type 0 = λ i. T i (offshoot v given right) in let Q : View → Type 0 = λ z. T j z in subst Q last.1 (subst R (sym (last.0 ∙ wide)) new))
          (at_end changed (offshoot v given right) u j there);
      one_owner = λ p q a b replica pa qb ha hb.
          one_each depth replicas passes places stored views pass v kept given p q replica is at cut
          (owner views pass v kept given left right p a replica pa ha)
          (owner views pass v kept given left right q b replica qb hb);
      all_rights = omega (
        arith,
        sum_by_push (λ (z : View). z.rights) changed (offshoot v given right),
        rights_changed views pass v (left_view v kept left) at,
        is.all_rights,
        shares.all,
      );
      makers_right = λ j u there.
          ⊎_elim
          (λ (first : get_elem? changed j ≡ some u). idle_still views pass (left_view v kept left) shares.of_makers is.makers_right j u first)
          (λ (last : (j ≡ length changed) × (offshoot v given right ≡ u)). λ none. sym (ap (λ (z : View). z.mine) last.1))
          (at_end changed (offshoot v given right) u j there);
    }

-- a copy takes nothing
pub copy_forks : (depth : Depth) (replicas passes places pass : ℕ) (v : View) → Forks (IsKept depth replicas passes places) pass v v (copy_of v)
copy_forks depth replicas passes places pass v stored views is at =
    split_forks depth replicas passes places pass v v.owns [] v.rights 0
    (record { kept_of = λ r has. has; given_of = λ r has. absurd (omega (arith, has.1)); apart = λ r kept given. absurd (omega (arith, given.1)) })
    (record { all = omega arith; of_makers = is.makers_right pass v at })
    stored views is at
