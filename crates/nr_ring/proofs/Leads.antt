-- The code of what is there after the events of an exchange, and that the pass may make them.
use Rattle.std.proofs.Common.{◌≡◌, ℕ, ◌+◌, ◌-◌, ◌*◌, ◌≤◌, suc, List, [], ◌∷◌, ◌++◌, Option, Some, length, replicate, set, refl, ap, sym, subst, ◌∙◌, arith}
use Rattle.std.specs.Prelude.{slice_index}
use Rattle.std.proofs.Math.ListN.{length-append, length-replicate}
use Rattle.std.proofs.lemmas.List.{get_or-append_right, get_or-replicate}
use Rattle.version_cell.specs.Passes.{CellPass}
use Rattle.vs_types.specs.declared.addresses.depth.Depth.{Depth}
use Rattle.vs_types.specs.declared.log_entry.LogEntry.{LogEntry}
use Rattle.nr_ring.specs.LogHistory.{HasRoom, Log, MayAdvance, MayAppend, log_after, log_after_event, new_log, tail}
use Rattle.nr_ring.specs.Words.{last_ring, ring_before, stored_after}
use Rattle.nr_ring.specs.declared.ring.log_event.LogEvent.{LogEvent}
use Rattle.nr_ring.specs.declared.ring.log_event.LogEvent.TheVariants.{Append, Advance}
use Rattle.nr_ring.specs.declared.cells.stored.Stored.{Stored}
use Rattle.nr_ring.specs.declared.ring.view.View.{View}
use Rattle.nr_ring.specs.inside.Codes.{code_in, code_of, code_of_log, locals_in}
use Rattle.nr_ring.specs.inside.Held.{LeadTo, Remembers}
use Rattle.nr_ring.proofs.Advances.{may_make}
use Rattle.nr_ring.proofs.Codes.{advance_code, append_code, both_code}
use Rattle.nr_ring.proofs.FirstWords.{Tells, head_is}
use Rattle.nr_ring.proofs.Histories.{as_many_locals, history_fits}
use Rattle.nr_ring.proofs.Views.{after_one_more}

-- the last entry of a batch that was appended lies in the pass's ring
last_of_batch : (rings : List ℕ) (n ring : ℕ) → 1 ≤ n → ring_before (rings ++ replicate n ring) (length (rings ++ replicate n ring)) ≡ ring
last_of_batch rings n ring some =
    let long : length (rings ++ replicate n ring) ≡ suc (length rings + (n - 1)) =
    omega (arith, length-append rings (replicate n ring), length-replicate n ring, some) in
    ap (ring_before (rings ++ replicate n ring)) long
    ∙ get_or-append_right rings (replicate n ring) (length rings) (length rings + (n - 1)) 0 refl (omega arith)
    ∙ get_or-replicate n (length rings + (n - 1) - length rings) ring 0 (omega (arith, some))

module _ (depth : Depth) (replicas passes places : ℕ) (own : Option ℕ) (mine : ℕ) (p : CellPass View Stored)
    (is : Remembers depth replicas passes places own mine p) where
  count : length (log_after replicas p.view.seen).locals ≤ 4
  count = omega (arith, as_many_locals depth replicas p.view.seen is.is_history, is.few)

  -- the log after what was stored, and one event more
  after : (event : LogEvent) → log_after replicas (p.value.history ++ event ∷ []) ≡ log_after_event (log_after replicas p.view.seen) event
  after event = ap (λ (seen : List LogEvent). log_after replicas (seen ++ event ∷ [])) is.value_is ∙ after_one_more (new_log replicas) p.view.seen event

  -- the places that a batch needs are there
  within : (batch : List LogEntry) → HasRoom places (log_after replicas p.view.seen) (length batch)
      → tail (log_after_event (log_after replicas p.view.seen) (Append batch)) ≤ places
  within batch room = omega (arith, room, length-append (log_after replicas p.view.seen).entries batch)

  pub append_leads : (batch : List LogEntry) → MayAppend depth (log_after replicas p.view.seen) batch
      → HasRoom places (log_after replicas p.view.seen) (length batch) → LeadTo depth replicas places p.view (Append batch ∷ [])
  append_leads batch may room = (may, omega (arith, is.rights), tt, within batch room)

  pub append_coded : (head : List ℕ) (batch : List LogEntry) (t code : ℕ) → Tells replicas p.value head → 1 ≤ length batch
      → t ≡ slice_index head 0 + length batch → code ≡ code_of t (locals_in head) (slice_index head 6) * 128 + mine
      → code ≡ code_in replicas (stored_after mine p.value (Append batch ∷ []))
  append_coded head batch t code tells some end code_is =
      let log = log_after replicas p.view.seen in
      let are = head_is depth replicas passes places own mine p is head tells in
      let tails = append_code log (last_ring p.value) head batch t are end ∙ ap code_of_log (sym (after (Append batch))) in
      let last = last_of_batch p.value.rings (length batch) mine some in
      code_is ∙ (λ i. tails i * 128 + sym last i)

module _ (depth : Depth) (replicas passes places r mine : ℕ) (p : CellPass View Stored) (is : Remembers depth replicas passes places (Some r) mine p) where
  pub advance_leads : (to : ℕ) → MayAdvance (log_after replicas p.view.seen) r to → LeadTo depth replicas places p.view (Advance r to ∷ [])
  advance_leads to may = (may, may_make depth replicas passes places r mine p is to, tt, is.ends)

  pub advance_coded : (ring : ℕ) (head : List ℕ) (to t code : ℕ) → Tells replicas p.value head → MayAdvance (log_after replicas p.view.seen) r to
      → t ≡ slice_index head 0 → code ≡ code_of t (set (locals_in head) r to) (slice_index head 6) * 128 + slice_index head 7
      → code ≡ code_in replicas (stored_after ring p.value (Advance r to ∷ []))
  advance_coded ring head to t code tells may end code_is =
      let log = log_after replicas p.view.seen in
      let are = head_is depth replicas passes places (Some r) mine p is head tells in
      let tails = advance_code log (last_ring p.value) head r to t are may.there (count depth replicas passes places (Some r) mine p is) (end ∙ are.tail_is)
      ∙ ap code_of_log (sym (after depth replicas passes places (Some r) mine p is (Advance r to))) in
      code_is ∙ (λ i. tails i * 128 + are.last_is i)

  -- after the batch the replica takes all
  pub can_take : (batch : List LogEntry) → MayAppend depth (log_after replicas p.view.seen) batch
      → MayAdvance (log_after_event (log_after replicas p.view.seen) (Append batch)) r (tail (log_after replicas p.view.seen) + length batch)
  can_take batch may =
      let log = log_after replicas p.view.seen in
      let longer = length-append log.entries batch in
      let fits = history_fits depth replicas p.view.seen is.is_history in
      record {
        there = omega (arith, as_many_locals depth replicas p.view.seen is.is_history, is.owned_below r refl);
        some = omega (arith, fits.written r, may.some);
        written = omega (arith, longer);
      }

  pub both_lead : (batch : List LogEntry) → MayAppend depth (log_after replicas p.view.seen) batch
      → HasRoom places (log_after replicas p.view.seen) (length batch)
      → LeadTo depth replicas places p.view (Append batch ∷ Advance r (tail (log_after replicas p.view.seen) + length batch) ∷ [])
  both_lead batch may room =
      let to = tail (log_after replicas p.view.seen) + length batch in
      let May : Log → Type 0 = λ log. MayAdvance log r to in
      let can = subst May (sym (after_one_more (new_log replicas) p.view.seen (Append batch))) (can_take batch may) in
      let first = within depth replicas passes places (Some r) mine p is batch room in
      let last : tail (log_after replicas (p.view.seen ++ Append batch ∷ [])) ≤ places =
      omega (arith, first, ap tail (after_one_more (new_log replicas) p.view.seen (Append batch))) in
      (may, omega (arith, is.rights), (can, may_make depth replicas passes places r mine p is to, tt, last), first)

  pub both_coded : (head : List ℕ) (batch : List LogEntry) (t code : ℕ) → Tells replicas p.value head → MayAppend depth (log_after replicas p.view.seen) batch
      → t ≡ slice_index head 0 + length batch → code ≡ code_of t (set (locals_in head) r t) (slice_index head 6) * 128 + mine
      → code ≡ code_in replicas (stored_after mine p.value (Append batch ∷ Advance r (tail (log_after replicas p.view.seen) + length batch) ∷ []))
  both_coded head batch t code tells may end code_is =
      let log = log_after replicas p.view.seen in
      let to = tail log + length batch in
      let are = head_is depth replicas passes places (Some r) mine p is head tells in
      let end_is : t ≡ to = end ∙ ap (λ (n : ℕ). n + length batch) are.tail_is in
      let raised = ap (λ (z : ℕ). code_of t (set (locals_in head) r z) (slice_index head 6)) end_is in
      let there = (can_take batch may).there in
      let tails = raised ∙ both_code log (last_ring p.value) head batch r to t are there (count depth replicas passes places (Some r) mine p is) end_is
      ∙ ap code_of_log (sym (after_one_more (new_log replicas) (p.value.history ++ Append batch ∷ []) (Advance r to)
      ∙ ap (λ (l : Log). log_after_event l (Advance r to)) (after depth replicas passes places (Some r) mine p is (Append batch)))) in
      let last = last_of_batch p.value.rings (length batch) mine may.some in
      code_is ∙ (λ i. tails i * 128 + sym last i)
