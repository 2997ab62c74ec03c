-- The steps on the cell keep its rule.
use Rattle.std.proofs.Common.{◌≡◌, ℕ, zero, suc, ◌<◌, ◌≤◌, List, [], ◌∷◌, ◌++◌, All, Contains, length, replicate, set, refl, ap, sym, subst, ◌∙◌, arith}
use Rattle.std.specs.Prelude.{slice_index_or}
use Rattle.std.proofs.Math.ListN.{length-append, length-replicate, length-set}
use Rattle.std.proofs.lemmas.List.Elements.{All-append}
use mathlib.Core.Option.{some}
use lib.ListN.{get_elem?}
use Rattle.crossbeam_utils.specs.Register.{Turns}
use Rattle.vs_types.specs.declared.addresses.depth.Depth.{Depth}
use Rattle.nr_ring.specs.LogHistory.{Log, MayFollow, new_log, log_after_event, log_after, tail}
use Rattle.nr_ring.specs.Words.{rings_after, stored_after_event}
use Rattle.nr_ring.specs.View.{IsElse, made_by_pass, IsTrueOf}
use Rattle.nr_ring.specs.Rule.{IsKept}
use Rattle.nr_ring.specs.Calls.{Looks, MayMake, with_event}
use Rattle.nr_ring.specs.declared.ring.log_event.LogEvent.{LogEvent}
use Rattle.nr_ring.specs.declared.ring.log_event.LogEvent.TheVariants.{Append, Advance}
use Rattle.nr_ring.specs.declared.cells.stored.Stored.{Stored}
use Rattle.nr_ring.specs.declared.ring.view.View.{View}
use Rattle.nr_ring.proofs.Views.{whole, nothing_since, begins_still, advances_still, goes_on_by, after_one_more, made_by_it, made_by_another, owned_before}
use Rattle.nr_ring.proofs.Views.{below_end, contains_item, views_changed}
use Rattle.nr_ring.proofs.Rights.{has_right, idle_still, rights_changed}

-- the view of a pass that has seen so much
abbrev pub seeing : List LogEvent → View → View
seeing seen v = record { seen = seen; mine = v.mine; owns = v.owns; rights = v.rights; told = v.told }

-- a pass may have seen what is true of the history
pub seeing_kept : (depth : Depth) (replicas passes places pass : ℕ) (v : View) (seen : List LogEvent) (x : Stored) (views : List View)
    → (kept : IsKept depth replicas passes places x views)
    → get_elem? views pass ≡ some v → IsTrueOf x.history (made_by_pass pass kept.makers) (seeing seen v)
    → IsKept depth replicas passes places x (set views pass (seeing seen v))
seeing_kept depth replicas passes places pass v seen x views kept at true_of = let w : View = seeing seen v in record {
  makers = kept.makers;
  is_history = kept.is_history;
  each_ring = kept.each_ring;
  rings_below = kept.rings_below;
  ends = kept.ends;
  each_made = kept.each_made;
  by_passes = λ k d lt. omega (arith, kept.by_passes k d lt, length-set views pass w);
  each_view = views_changed (λ j u. IsTrueOf x.history (made_by_pass j kept.makers) u) views pass w true_of (λ j u other there. kept.each_view j u there);
  one_owner = λ p q a b replica pa qb ha hb.
      let c = owned_before views pass v w at refl p a replica pa ha in
      let e = owned_before views pass v w at refl q b replica qb hb in
      kept.one_owner p q c.0 e.0 replica c.1 e.1 c.2 e.2;
  all_rights = omega (arith, rights_changed views pass v w at, kept.all_rights);
  makers_right = idle_still views pass w (kept.makers_right pass v at) kept.makers_right;
}

pub look_turns : (depth : Depth) (replicas passes places pass : ℕ) (v : View)
    → Turns (IsKept depth replicas passes places) pass v (λ x. x) (λ before x found after. Looks depth replicas passes places found before after)
look_turns depth replicas passes places pass v x views kept at =
    let history = x.history in
    let old : IsTrueOf history (made_by_pass pass kept.makers) v = kept.each_view pass v at in (
      seeing history v,
      seeing_kept depth replicas passes places pass v history x views kept at
          (record { seen = whole history; told = old.told; owns = λ k d lt. nothing_since (slice_index_or v.owns k d) history; mine = old.mine }),
      record {
        looked =
            record {
              is_history = kept.is_history;
              seen = old.seen;
              told = old.told;
              advances = old.owns;
              told_stays = refl;
              mine = refl;
              owns = refl;
              rights = refl;
            };
        found_is = refl;
        each_ring = kept.each_ring;
        rings_below = kept.rings_below;
        ends = kept.ends;
      },
    )

only_pass : (n pass : ℕ) → pass < n → All (λ p. p < n) (pass ∷ [])
only_pass n pass lt zero d le = lt
only_pass n pass lt (suc k) d le = absurd (omega arith)

-- an event of another pass's is no advance of a replica that this one owns
pub else_of : (event : LogEvent) (v : View) (replica : ℕ) → MayMake v event → (Contains v.owns replica → ⊥) → IsElse replica event
else_of (Append batch) v replica may apart = tt
else_of (Advance other to) v replica may apart = λ (e : other ≡ replica). let P : ℕ → Type 0 = λ r. Contains v.owns r in apart (subst P e may.1)

-- each entry has a ring after an event, and it is that of a pass
pub rings_long : (ring : ℕ) (rings : List ℕ) (log : Log) (event : LogEvent) → length rings ≡ tail log
    → length (rings_after ring rings event) ≡ tail (log_after_event log event)
rings_long ring rings log (Append batch) same =
    omega (arith, same, length-append rings (replicate (length batch) ring), length-replicate (length batch) ring, length-append log.entries batch)
rings_long ring rings log (Advance replica to) same = same

all_below : (n ring passes : ℕ) → ring < passes → All (λ r. r < passes) (replicate n ring)
all_below zero ring passes below k d lt = absurd (omega arith)
all_below (suc n) ring passes below zero d lt = below
all_below (suc n) ring passes below (suc k) d lt = all_below n ring passes below k d (omega arith)

pub rings_still : (ring passes : ℕ) (rings : List ℕ) (event : LogEvent) → ring < passes → All (λ r. r < passes) rings
    → All (λ r. r < passes) (rings_after ring rings event)
rings_still ring passes rings (Append batch) below all =
    All-append (λ r. r < passes) rings (replicate (length batch) ring) all (all_below (length batch) ring passes below)
rings_still ring passes rings (Advance replica to) below all = all

-- a pass that has seen all makes an event
all_seen_kept : (depth : Depth) (replicas passes places pass ring : ℕ) (v : View) (event : LogEvent) (rings : List ℕ) (views : List View)
    → IsKept depth replicas passes places (record { history = v.seen; rings = rings }) views → get_elem? views pass ≡ some v → ring < passes
    → MayFollow depth (log_after replicas v.seen) event → MayMake v event
    → tail (log_after_event (log_after replicas v.seen) event) ≤ places
    → IsKept depth replicas passes places (record { history = v.seen ++ event ∷ []; rings = rings_after ring rings event })
    (set views pass (with_event v event))
all_seen_kept depth replicas passes places pass ring v event rings views kept at below may own within =
    let w : View = with_event v event in
    let mine = kept.each_view pass v at in
    let one : All (λ p. p < length (set views pass w)) (pass ∷ []) =
    only_pass (length (set views pass w)) pass (omega (arith, below_end views pass v at, length-set views pass w)) in
    record {
      makers = kept.makers ++ pass ∷ [];
      is_history = goes_on_by depth (new_log replicas) v.seen event kept.is_history may;
      each_ring = rings_long ring rings (log_after replicas v.seen) event kept.each_ring ∙ ap tail (sym (after_one_more (new_log replicas) v.seen event));
      rings_below = rings_still ring passes rings event below kept.rings_below;
      ends = omega (arith, within, ap tail (after_one_more (new_log replicas) v.seen event));
      each_made = omega (arith, kept.each_made, length-append kept.makers (pass ∷ []), length-append v.seen (event ∷ []));
      by_passes = All-append (λ p. p < length (set views pass w)) kept.makers (pass ∷ [])
          (λ k d lt. omega (arith, kept.by_passes k d lt, length-set views pass w)) one;
      each_view = views_changed (λ j u. IsTrueOf (v.seen ++ event ∷ []) (made_by_pass j (kept.makers ++ pass ∷ [])) u) views pass w
          (record {
            seen = whole (v.seen ++ event ∷ []);
            told = λ k d lt. begins_still v.seen (slice_index_or v.told k d) event (mine.told k d lt);
            owns = λ k d lt. nothing_since (slice_index_or v.owns k d) (v.seen ++ event ∷ []);
            mine = ap (λ (l : List ℕ). l ++ length v.seen ∷ []) mine.mine ∙ ap (λ n. made_by_pass pass kept.makers ++ n ∷ []) (sym kept.each_made)
                ∙ sym (made_by_it pass kept.makers);
          })
          (λ j u other there. let old = kept.each_view j u there in record {
            seen = begins_still v.seen u.seen event old.seen;
            told = λ k d lt. begins_still v.seen (slice_index_or u.told k d) event (old.told k d lt);
            owns = λ k d lt.
                advances_still (slice_index_or u.owns k d) v.seen u.seen event (old.owns k d lt)
                (else_of event v (slice_index_or u.owns k d) own
                (λ has. other (kept.one_owner j pass u v (slice_index_or u.owns k d) there at (contains_item u.owns k d lt) has)));
            mine = old.mine ∙ sym (made_by_another j pass kept.makers (λ e. other (sym e)));
          });
      one_owner = λ p q a b replica pa qb ha hb.
          let c = owned_before views pass v w at refl p a replica pa ha in
          let e = owned_before views pass v w at refl q b replica qb hb in
          kept.one_owner p q c.0 e.0 replica c.1 e.1 c.2 e.2;
      all_rights = omega (arith, rights_changed views pass v w at, kept.all_rights);
      makers_right = idle_still views pass w (λ none. absurd (omega (arith, has_right event v own))) kept.makers_right;
    }

pub event_kept : (depth : Depth) (replicas passes places pass ring : ℕ) (v : View) (event : LogEvent) (stored : Stored) (views : List View)
    → IsKept depth replicas passes places stored views → get_elem? views pass ≡ some v → stored.history ≡ v.seen → ring < passes
    → MayFollow depth (log_after replicas v.seen) event → MayMake v event
    → tail (log_after_event (log_after replicas v.seen) event) ≤ places
    → IsKept depth replicas passes places (stored_after_event ring stored event) (set views pass (with_event v event))
event_kept depth replicas passes places pass ring v event stored views kept at same below may own within =
    let Before : List LogEvent → Type 0 = λ h. IsKept depth replicas passes places (record { history = h; rings = stored.rings }) views in
    let After : List LogEvent → Type 0 = λ h. IsKept depth replicas passes places
    (record { history = h ++ event ∷ []; rings = rings_after ring stored.rings event }) (set views pass (with_event v event)) in
    subst After (sym same) (all_seen_kept depth replicas passes places pass ring v event stored.rings views (subst Before same kept) at below may own within)
