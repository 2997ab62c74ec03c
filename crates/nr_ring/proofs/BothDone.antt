-- A pass that appended a batch and took all.
use Rattle.std.proofs.Common.{◌≡◌, ℕ, zero, suc, ◌+◌, ◌≤◌, List, [], ◌∷◌, ◌++◌, Some, drop, length, length-append, refl, ap, sym, ◌∙◌, arith}
use Rattle.std.specs.Prelude.{slice_index_or}
use Rattle.std.proofs.lemmas.List.{append-nil}
use Rattle.version_cell.specs.Passes.{CellPass}
use Rattle.vs_types.specs.declared.addresses.depth.Depth.{Depth}
use Rattle.vs_types.specs.declared.log_entry.LogEntry.{LogEntry}
use Rattle.nr_ring.specs.LogHistory.{Log, IsLogHistory, MayAppend, local_of, log_after, log_after_event, new_log, tail}
use Rattle.nr_ring.specs.Calls.{HasLooked, with_event, with_events}
use Rattle.nr_ring.specs.Entries.{HasAppendedAndTaken, to_take}
use Rattle.nr_ring.specs.declared.ring.log_event.LogEvent.TheVariants.{Append, Advance}
use Rattle.nr_ring.specs.declared.cells.stored.Stored.{Stored}
use Rattle.nr_ring.specs.declared.ring.view.View.{View}
use Rattle.nr_ring.specs.inside.Held.{Remembers}
use Rattle.nr_ring.proofs.Advances.{same_replica}
use Rattle.nr_ring.proofs.Histories.{history_fits}
use Rattle.nr_ring.proofs.Views.{after_one_more, begins_still, goes_on_by, whole}

drop_longer : (xs ys : List LogEntry) (n : ℕ) → n ≤ length xs → drop n (xs ++ ys) ≡ drop n xs ++ ys
drop_longer xs ys zero le = refl
drop_longer [] ys (suc n) le = absurd (omega arith)
drop_longer (x ∷ xs) ys (suc n) le = drop_longer xs ys n (omega arith)

-- a look after an append sees what the pass appended
looked_after : (depth : Depth) (replicas passes places r ring : ℕ) (p : CellPass View Stored) (batch : List LogEntry)
    → Remembers depth replicas passes places (Some r) ring p → MayAppend depth (log_after replicas p.view.seen) batch
    → HasLooked depth replicas (with_event p.view (Append batch)) (with_event p.view (Append batch))
looked_after depth replicas passes places r ring p batch is may = let v = p.view in let middle = with_event v (Append batch) in record {
  is_history = goes_on_by depth (new_log replicas) v.seen (Append batch) is.is_history may;
  seen = whole middle.seen;
  told = λ k d lt. begins_still v.seen (slice_index_or v.told k d) (Append batch) (is.told k d lt);
  advances = λ k d lt. ([], sym (append-nil middle.seen), λ j e none. absurd (omega arith));
  told_stays = refl;
  mine = refl;
  owns = refl;
  rights = refl;
}

pub both_done : (depth : Depth) (replicas passes places r ring : ℕ) (u w : View) (p : CellPass View Stored) (batch before : List LogEntry) (place : ℕ)
    → HasLooked depth replicas u p.view → Remembers depth replicas passes places (Some r) ring p → MayAppend depth (log_after replicas p.view.seen) batch
    → IsLogHistory depth replicas w.seen → place ≡ tail (log_after replicas p.view.seen)
    → w ≡ with_events p.view (Append batch ∷ Advance r (tail (log_after replicas p.view.seen) + length batch) ∷ [])
    → before ≡ to_take (log_after replicas p.view.seen) r → HasAppendedAndTaken depth replicas u batch place before w
both_done depth replicas passes places r ring u w p batch before place looked is may history at made before_is =
    let v = p.view in
    let log = log_after replicas v.seen in
    let middle = with_event v (Append batch) in
    let one : log_after replicas middle.seen ≡ log_after_event log (Append batch) = after_one_more (new_log replicas) v.seen (Append batch) in
    let fits = history_fits depth replicas v.seen is.is_history in
    let end : tail (log_after replicas middle.seen) ≡ tail log + length batch = ap tail one ∙ length-append log.entries batch in
    let local : local_of (log_after replicas middle.seen) r ≡ local_of log r = ap (λ (l : Log). local_of l r) one in
    record {
      between = middle;
      appended = record { seen_before = v; looked = looked; appended = refl; place_is = at };
      taken = record {
        between = middle;
        looked = looked_after depth replicas passes places r ring p batch is may;
        taken = record {
          replica = r;
          owns = is.owns;
          there = λ e. absurd (omega (arith, e, local, end, fits.written r, may.some));
          below = λ _. made ∙ ap (λ (n : ℕ). with_event middle (Advance r n)) (sym end);
        };
        entries_are = λ replica owns.
            ap (λ (l : List LogEntry). l ++ batch) before_is
            ∙ (sym (drop_longer log.entries batch (local_of log r) (fits.written r))
            ∙ (ap (λ (l : Log). to_take l r) (sym one)
            ∙ ap (λ (p : ℕ). to_take (log_after replicas middle.seen) p) (same_replica v.owns r replica is.owns owns)));
        history = history;
      };
    }
