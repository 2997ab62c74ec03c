-- The rule of the cell: what holds of its value and of the views of all passes, whatever the threads do.
use Rattle.std.specs.Prelude.{◌≡◌, ℕ, ◌<◌, ◌≤◌, List, [], All, Contains, length}
use Rattle.std.specs.List.{sum_by}
use mathlib.Core.Option.{some}
use lib.ListN.{get_elem?}
use Rattle.vs_types.specs.declared.addresses.depth.Depth.{Depth}
use Rattle.nr_ring.specs.LogHistory.{IsLogHistory, log_after, tail}
use Rattle.nr_ring.specs.View.{made_by_pass, IsTrueOf}
use Rattle.nr_ring.specs.declared.cells.stored.Stored.{Stored}
use Rattle.nr_ring.specs.declared.ring.view.View.{View}

-- The value is one history, with the ring of each entry, of which there are no more than the log has places. What each pass knows is true
-- of it. Each event has one maker, which is one of the passes; and each replica has one owner at most. There are so many rights to make
-- events, and a pass that made one has a right still. So where each of so many passes has one right, they have all, and no other pass has
-- made an event. A new log hands out its passes so, and each call leaves its pass one right. No call makes an event by a pass that its
-- caller does not know, and one that leaves `mine` as it was has made none
pub record IsKept (depth : Depth) (replicas passes places : ℕ) (stored : Stored) (views : List View) : Type 0 where
  pub makers : List ℕ
  pub is_history : IsLogHistory depth replicas stored.history
  pub each_ring : length stored.rings ≡ tail (log_after replicas stored.history)
  pub rings_below : All (λ ring. ring < passes) stored.rings
  pub ends : tail (log_after replicas stored.history) ≤ places
  pub each_made : length makers ≡ length stored.history
  pub by_passes : All (λ pass. pass < length views) makers
  pub each_view : (pass : ℕ) (view : View) → get_elem? views pass ≡ some view → IsTrueOf stored.history (made_by_pass pass makers) view
  pub one_owner : (p q : ℕ) (v w : View) (replica : ℕ) → get_elem? views p ≡ some v → get_elem? views q ≡ some w → Contains v.owns replica
      → Contains w.owns replica → p ≡ q
  pub all_rights : sum_by (λ view. view.rights) views ≡ passes
  pub makers_right : (pass : ℕ) (view : View) → get_elem? views pass ≡ some view → view.rights ≡ 0 → view.mine ≡ []
