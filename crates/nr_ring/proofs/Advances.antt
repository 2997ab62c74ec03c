-- The owner of a replica advances it.
use Rattle.std.proofs.Common.{◌≡◌, ℕ, ◌<◌, ◌≤◌, List, [], ◌∷◌, Contains, Option, Some, refl, ap, sym, subst, arith}
use Rattle.std.specs.Prelude.{slice_index}
use Rattle.version_cell.specs.Passes.{CellPass}
use Rattle.vs_types.specs.declared.addresses.depth.Depth.{Depth}
use Rattle.nr_ring.specs.LogHistory.{MayAdvance, local_of, log_after}
use Rattle.nr_ring.specs.Calls.{HasTaken, LiesAhead, MayMake, MayTake, with_event}
use Rattle.nr_ring.specs.declared.ring.log_event.LogEvent.TheVariants.{Advance}
use Rattle.nr_ring.specs.declared.cells.stored.Stored.{Stored}
use Rattle.nr_ring.specs.declared.ring.view.View.{View}
use Rattle.nr_ring.specs.inside.Held.{Remembers}
use Rattle.nr_ring.proofs.Histories.{as_many_locals}

pub same_replica : (owns : List ℕ) (p q : ℕ) → owns ≡ p ∷ [] → owns ≡ q ∷ [] → p ≡ q
same_replica owns p q a b = let eq = ap (λ (l : List ℕ). slice_index l 0) (sym a) in omega (arith, eq, ap (λ (l : List ℕ). slice_index l 0) b)

-- what a pass remembers, where its replica is another number for the same
pub owner_remembers : (depth : Depth) (replicas passes places : ℕ) (own other : Option ℕ) (ring : ℕ) (p : CellPass View Stored)
    → Remembers depth replicas passes places own ring p → own ≡ other → Remembers depth replicas passes places other ring p
owner_remembers depth replicas passes places own other ring p is same =
    let Owns : Option ℕ → Type 0 = λ o. Remembers depth replicas passes places o ring p in subst Owns same is

module _ (depth : Depth) (replicas passes places r ring : ℕ) (p : CellPass View Stored) (is : Remembers depth replicas passes places (Some r) ring p) where
  pub low_replica : r < 4
  low_replica = omega (arith, is.few, is.owned_below r refl)

  pub there : r < replicas
  there = is.owned_below r refl

  pub owns_it : Contains p.view.owns r
  owns_it = let Has : List ℕ → Type 0 = λ l. Contains l r in subst Has (sym is.owns) (0, omega arith, refl)

  pub may_make : (to : ℕ) → MayMake p.view (Advance r to)
  may_make to = (omega (arith, is.rights), owns_it)

  pub may_advance : (to : ℕ) → MayTake replicas p.view to → (local_of (log_after replicas p.view.seen) r ≡ to → ⊥)
      → MayAdvance (log_after replicas p.view.seen) r to
  may_advance to may other =
      let same : may.replica ≡ r = same_replica p.view.owns may.replica r may.owns is.owns in
      let P : ℕ → Type 0 = λ q. local_of (log_after replicas p.view.seen) q ≤ to in
      let low : local_of (log_after replicas p.view.seen) r ≤ to = subst P same may.above in
      record {
        there = omega (arith, as_many_locals depth replicas p.view.seen is.is_history, there);
        some = omega (arith, low, other);
        written = may.written;
      }

  pub taken_there : (to : ℕ) → local_of (log_after replicas p.view.seen) r ≡ to → HasTaken replicas p.view to p.view
  taken_there to at = record { replica = r; owns = is.owns; there = λ _. refl; below = λ other. absurd (other at) }

  pub taken_now : (w : View) (to : ℕ) → (local_of (log_after replicas p.view.seen) r ≡ to → ⊥) → w ≡ with_event p.view (Advance r to)
      → HasTaken replicas p.view to w
  taken_now w to other made = record { replica = r; owns = is.owns; there = λ at. absurd (other at); below = λ _. made }

  pub lies_ahead : (to : ℕ) → local_of (log_after replicas p.view.seen) r < to → LiesAhead replicas p.view to
  lies_ahead to lt = λ q owns.
      let Local : ℕ → Type 0 = λ o. local_of (log_after replicas p.view.seen) o < to in
      subst Local (same_replica p.view.owns r q is.owns owns) lt
