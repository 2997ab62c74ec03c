-- An exchange of the value that a pass knows keeps the rule, and what it shows.
use Rattle.std.proofs.Common.{◌≡◌, ℕ, zero, suc, ◌+◌, ◌-◌, ◌*◌, ◌%◌, ◌<◌, ◌≤◌, inl, inr, ⊎_elim, Bool, true, false, List, [], ◌∷◌, ◌++◌, All, Contains, Option}
use Rattle.std.proofs.Common.{length, set}
use Rattle.std.proofs.Common.{length-append, refl, ap, sym, subst, ◌∙◌, arith}
use Rattle.std.specs.Prelude.{MatchBool, slice_index, slice_index_or}
use Rattle.std.proofs.lemmas.List.{append-nil, append_assoc}
use Rattle.std.proofs.lemmas.List.Elements.{All-append}
use Rattle.std.proofs.lemmas.Option.{slice_get_within}
use lib.Seq.{set-set}
use Rattle.atomic_table.proofs.Lists.{set_again, set_here}
use Rattle.crossbeam_utils.specs.Register.{TurnsAt}
use Rattle.version_cell.specs.Passes.{CellPass}
use Rattle.version_cell.specs.Words.{Leaves, LiesIn}
use Rattle.vs_types.specs.declared.addresses.depth.Depth.{Depth}
use Rattle.vs_types.specs.declared.log_entry.LogEntry.{LogEntry}
use Rattle.nr_ring.specs.LogHistory.{IsLogHistory, Log, MayAdvance, local_of, log_after_event, log_after, new_log, tail}
use Rattle.nr_ring.specs.Words.{IsOfBatch, Lasts, NeededBy, Needs, last_ring, stored_after, stored_after_event}
use Rattle.nr_ring.specs.Rule.{IsKept}
use Rattle.nr_ring.specs.Calls.{HasMoved, Looks, with_event, with_events}
use Rattle.nr_ring.specs.View.{HasSeenAdvances}
use Rattle.nr_ring.specs.declared.ring.log_event.LogEvent.{LogEvent}
use Rattle.nr_ring.specs.declared.ring.log_event.LogEvent.TheVariants.{Append, Advance}
use Rattle.nr_ring.specs.declared.cells.stored.Stored.{Stored}
use Rattle.nr_ring.specs.declared.ring.view.View.{View}
use Rattle.nr_ring.specs.inside.Batch.{AreStored, IsWritten}
use Rattle.nr_ring.specs.inside.Codes.{code_in}
use Rattle.nr_ring.specs.inside.Held.{LeadTo, MadeOrMoved, Remembers}
use Rattle.nr_ring.proofs.Further.{code_rises, last_few}
use Rattle.nr_ring.proofs.Histories.{beginning_goes_on, history_fits, local_since, tail_rises}
use Rattle.nr_ring.proofs.Needed.{advance_needs, append_needs, needs_kept, same_place}
use Rattle.nr_ring.proofs.Passes.{look_remembers, remembers_still}
use Rattle.nr_ring.proofs.Splits.{holds_of}
use Rattle.nr_ring.proofs.Turns.{event_kept, rings_long, rings_still}
use Rattle.nr_ring.proofs.Views.{after_one_more, begins_still, below_end, goes_on_by}

-- an exchange for the value after events keeps the rule
turns : (depth : Depth) (replicas passes places pass ring : ℕ) (v : View) (events : List LogEvent) (x : Stored) → x.history ≡ v.seen → ring < passes
    → LeadTo depth replicas places v events
    → TurnsAt (IsKept depth replicas passes places) pass v x (stored_after ring x events) (λ before old next after. after ≡ with_events before events)
turns depth replicas passes places pass ring v [] x same below lead views kept at =
    (v, subst (λ (vs : List View). IsKept depth replicas passes places x vs) (sym (set_again views pass v at)) kept, refl)
turns depth replicas passes places pass ring v (event ∷ events) x same below lead views kept at =
    let w : View = with_event v event in
    let next = stored_after_event ring x event in
    let first = event_kept depth replicas passes places pass ring v event x views kept at same below lead.0 lead.1 lead.3 in
    let there = set_here views pass w (below_end views pass v at) in
    let rest = turns depth replicas passes places pass ring w events next (ap (λ (l : List LogEvent). l ++ event ∷ []) same) below lead.2
    (set views pass w) first there in
    (rest.0, subst (λ (vs : List View). IsKept depth replicas passes places (stored_after ring next events) vs) (set-set views pass w rest.0) rest.1, rest.2)

-- it leaves each word that another pass counts on: a replica of its own needs that, which nobody else advances
pub events_leave : (depth : Depth) (replicas passes places pass ring : ℕ) (v : View) (events : List LogEvent) (x : Stored)
    → LeadTo depth replicas places v events
    → Leaves (IsKept depth replicas passes places) (Needs replicas) (Lasts replicas) pass v x (stored_after ring x events)
events_leave depth replicas passes places pass ring v events x lead views kept at other w seen place word differ there lasts then now =
    let r = lasts.1.0 in
    let m : NeededBy (log_after replicas seen.history) seen.rings r place word = lasts.1.2 in
    let n : NeededBy (log_after replicas x.history) x.rings now.0 place word = now.1 in
    let old = kept.each_view other w there in
    let Since : ℕ → Type 0 = λ i. HasSeenAdvances i x.history w.seen in
    let Seen : List LogEvent → Type 0 = λ l. HasSeenAdvances r x.history l in
    let since = subst Seen (sym lasts.0) (holds_of Since w.owns r old.owns lasts.1.1) in
    let log = log_after replicas x.history in
    let before = log_after replicas seen.history in
    let local : local_of log r ≡ local_of before r = local_since replicas r x.history seen.history since in
    let on = beginning_goes_on depth replicas x.history seen.history kept.is_history (since.0, since.1) in
    let fits = history_fits depth replicas x.history kept.is_history in
    let present : r < length log.locals = omega (arith, m.present, on.replicas) in
    let first = slice_get_within before.entries m.place m.entry m.there in
    let second = slice_get_within log.entries n.place n.entry n.there in
    let same = same_place (slice_index seen.rings m.place) (slice_index x.rings n.place) m.place n.place m.k n.k (sym m.at_is ∙ n.at_is) m.two n.two
    (omega (arith, first, tail_rises before log on, n.untaken, fits.kept_up now.0 n.present))
    (omega (arith, second, m.untaken, local, fits.kept_up r present)) in
    let needed : NeededBy log x.rings r place word =
    record {
      place = n.place;
      entry = n.entry;
      k = n.k;
      present = present;
      untaken = omega (arith, same.0, m.untaken, local);
      there = n.there;
      two = n.two;
      at_is = n.at_is;
      word_is = n.word_is;
    } in (
      r,
      needs_kept depth replicas places ring v events x r place word kept.each_ring lead
          (λ has. differ (kept.one_owner other pass w v r there at lasts.1.1 has)) needed,
    )

-- the words of a batch that was written lie in the ring
written_lies : (ring before place from at word : ℕ) (batch : List LogEntry) (own : List ℕ) → from ≡ 32 * ring
    → IsWritten ring before place (length batch) batch own
    → IsOfBatch ring before place batch at word → LiesIn from own at word
written_lies ring before place from at word batch own from_is is new =
    let lt = slice_get_within batch new.i new.entry new.there in
    let two = new.two in
    let at_is = new.at_is in
    let here : at - from ≡ 2 * ((place + new.i) % 16) + new.k = omega arith in (
      (omega arith, omega (arith, is.long)),
      ap (slice_index own) here ∙ is.entries_are new.i new.entry new.k lt new.there new.two ∙ sym new.word_is,
    )

-- ---- the pass after events

stored_history : (ring : ℕ) (x : Stored) (events : List LogEvent) → (stored_after ring x events).history ≡ x.history ++ events
stored_history ring x [] = sym (append-nil x.history)
stored_history ring x (event ∷ events) = stored_history ring (stored_after_event ring x event) events ∙ append_assoc x.history (event ∷ []) events

-- a pass that has made events
abbrev pub having_made : ℕ → List LogEvent → CellPass View Stored → CellPass View Stored
having_made ring [] p = p
having_made ring (event ∷ events) p = having_made ring events record {
  cell = p.cell;
  number = p.number;
  view = with_event p.view event;
  value = stored_after_event ring p.value event;
  fresh = p.fresh;
  from = p.from;
  own = p.own;
}

made_is : (ring : ℕ) (events : List LogEvent) (p : CellPass View Stored) → having_made ring events p ≡ record {
  cell = p.cell;
  number = p.number;
  view = with_events p.view events;
  value = stored_after ring p.value events;
  fresh = p.fresh;
  from = p.from;
  own = p.own;
}
made_is ring [] p = refl
made_is ring (event ∷ events) p = made_is ring events record {
  cell = p.cell;
  number = p.number;
  view = with_event p.view event;
  value = stored_after_event ring p.value event;
  fresh = p.fresh;
  from = p.from;
  own = p.own;
}

module _ (depth : Depth) (replicas passes places : ℕ) (own : Option ℕ) (mine : ℕ) where
  abbrev Knows : CellPass View Stored → Type 0
  Knows p = Remembers depth replicas passes places own mine p

  only_one : (end number : ℕ) → number < end → All (λ n. n < end) (number ∷ [])
  only_one end number lt zero d le = lt
  only_one end number lt (suc k) d le = absurd (omega arith)

  made_known : (ring : ℕ) (events : List LogEvent) (p : CellPass View Stored) → Knows p → ring < passes → LeadTo depth replicas places p.view events
      → Knows (having_made ring events p)
  made_known ring [] p is below lead = is
  made_known ring (event ∷ events) p is below lead =
      let v = p.view in
      let more : length (v.seen ++ event ∷ []) ≡ length v.seen + 1 = length-append v.seen (event ∷ []) in
      made_known ring events _ record {
        few = is.few;
        few_rings = is.few_rings;
        is_history = goes_on_by depth (new_log replicas) v.seen event is.is_history lead.0;
        value_is = ap (λ (l : List LogEvent). l ++ event ∷ []) is.value_is;
        each_ring = rings_long ring p.value.rings (log_after replicas v.seen) event is.each_ring
            ∙ ap tail (sym (after_one_more (new_log replicas) v.seen event));
        rings_below = rings_still ring passes p.value.rings event below is.rings_below;
        ends = omega (arith, lead.3, ap tail (after_one_more (new_log replicas) v.seen event));
        from_is = is.from_is;
        own_long = is.own_long;
        ring_below = is.ring_below;
        owns = is.owns;
        owned_below = is.owned_below;
        rights = is.rights;
        mine = All-append (λ number. number < length (v.seen ++ event ∷ [])) v.mine (length v.seen ∷ []) (λ k d lt. omega (arith, is.mine k d lt, more))
            (only_one (length (v.seen ++ event ∷ [])) (length v.seen) (omega (arith, more)));
        told = λ k d lt. begins_still v.seen (slice_index_or v.told k d) event (is.told k d lt);
      } below lead.2

  led_known : (ring : ℕ) (events : List LogEvent) (p q : CellPass View Stored) → Knows p → ring < passes → LeadTo depth replicas places p.view events
      → q.from ≡ p.from → q.own ≡ p.own → q.value ≡ stored_after ring p.value events → q.view ≡ with_events p.view events → Knows q
  led_known ring events p q is below lead from its value view =
      let now = subst Knows (made_is ring events p) (made_known ring events p is below lead) in
      remembers_still depth replicas passes places own mine _ q now view value from (ap (λ (l : List ℕ). length l) its)

  -- ---- what an exchange asks

  pub events_turn : (pass ring : ℕ) (p : CellPass View Stored) (events : List LogEvent) → Knows p → ring < passes → LeadTo depth replicas places p.view events
      → TurnsAt (IsKept depth replicas passes places) pass p.view p.value (stored_after ring p.value events)
      (λ before old next after. after ≡ with_events before events)
  events_turn pass ring p events is below lead = turns depth replicas passes places pass ring p.view events p.value is.value_is below lead

  pub events_age : (ring : ℕ) (p : CellPass View Stored) (events : List LogEvent) → 1 ≤ length events
      → length p.value.history < length (stored_after ring p.value events).history
  events_age ring p events more =
      omega (arith, more, ap (λ (l : List LogEvent). length l) (stored_history ring p.value events), length-append p.value.history events)

  pub events_rise : (ring : ℕ) (p : CellPass View Stored) (events : List LogEvent) → Knows p → ring < passes → LeadTo depth replicas places p.view events
      → 1 ≤ length events → code_in replicas p.value < code_in replicas (stored_after ring p.value events)
  events_rise ring p events is below lead more =
      let later = subst Knows (made_is ring events p) (made_known ring events p is below lead) in
      let next = stored_after ring p.value events in
      let Is : List LogEvent → Type 0 = λ l. IsLogHistory depth replicas l in
      let history : IsLogHistory depth replicas next.history = subst Is (sym later.value_is) later.is_history in
      let up = code_rises depth replicas next.history p.value.history is.few history (events, stored_history ring p.value events) in
      omega (arith, up, more, last_few depth replicas passes places own mine p is)

  pub advance_stored : (ring : ℕ) (p : CellPass View Stored) (replica to : ℕ) → Knows p → MayAdvance (log_after replicas p.view.seen) replica to
      → AreStored replicas ring (Advance replica to ∷ []) p
  advance_stored ring p replica to is may at word needs =
      let May : List LogEvent → Type 0 = λ l. MayAdvance (log_after replicas l) replica to in
      inl (advance_needs replicas ring replica to p.value at word (subst May (sym is.value_is) may) needs)

  pub append_stored : (p : CellPass View Stored) (batch : List LogEntry) → Knows p
      → IsWritten mine (last_ring p.value) (tail (log_after replicas p.view.seen)) (length batch) batch p.own → AreStored replicas mine (Append batch ∷ []) p
  append_stored p batch is written at word needs =
      let end : tail (log_after replicas p.view.seen) ≡ tail (log_after replicas p.value.history) =
      ap (λ (l : List LogEvent). tail (log_after replicas l)) (sym is.value_is) in
      let At : ℕ → Type 0 = λ n. IsWritten mine (last_ring p.value) n (length batch) batch p.own in
      let there = subst At end written in
      ⊎_elim
      (λ (old : Needs replicas p.value at word). inl old)
      (λ (new : IsOfBatch mine (last_ring p.value) (tail (log_after replicas p.value.history)) batch at word).
      inr (written_lies mine (last_ring p.value) (tail (log_after replicas p.value.history)) p.from at word batch p.own is.from_is there new))
      (append_needs replicas mine batch p.value at word (is.each_ring ∙ end) needs)

  pub both_stored : (p : CellPass View Stored) (batch : List LogEntry) (replica to : ℕ) → Knows p
      → IsWritten mine (last_ring p.value) (tail (log_after replicas p.view.seen)) (length batch) batch p.own
      → MayAdvance (log_after_event (log_after replicas p.view.seen) (Append batch)) replica to
      → AreStored replicas mine (Append batch ∷ Advance replica to ∷ []) p
  both_stored p batch replica to is written may at word needs =
      let next = stored_after_event mine p.value (Append batch) in
      let May : Log → Type 0 = λ l. MayAdvance l replica to in
      let log : log_after_event (log_after replicas p.view.seen) (Append batch) ≡ log_after replicas next.history =
      ap (λ (l : List LogEvent). log_after_event (log_after replicas l) (Append batch)) (sym is.value_is)
      ∙ sym (after_one_more (new_log replicas) p.value.history (Append batch)) in
      append_stored p batch is written at word (advance_needs replicas mine replica to next at word (subst May log may) needs)

  -- ---- what it shows

  -- where the value found has come further than that of the pass, another pass's event has come
  later_moved : (p q : CellPass View Stored) → Knows p → length p.value.history < length q.value.history
      → Looks depth replicas passes places q.value p.view q.view
      → HasMoved p.view q.view
  later_moved p q is more looks =
      let Has : List ℕ → Type 0 = λ l. Contains l (length p.view.seen) → ⊥ in (
        length p.view.seen,
        omega arith,
        omega (arith, more, ap (λ (l : List LogEvent). length l) is.value_is, ap (λ (l : List LogEvent). length l) looks.found_is),
        subst Has (sym looks.looked.mine) (λ has. absurd (omega (arith, is.mine has.0 (length p.view.seen) has.1, has.2))),
      )

  -- the events were made, or another pass's has come
  pub exchange_tells : (ring : ℕ) (p q : CellPass View Stored) (events : List LogEvent) (made : Bool) → Knows p → ring < passes
      → LeadTo depth replicas places p.view events → q.from ≡ p.from → q.own ≡ p.own
      → MatchBool made ((q.value ≡ stored_after ring p.value events) × (q.view ≡ with_events p.view events))
      ((code_in replicas p.value < code_in replicas q.value) × (length p.value.history < length q.value.history)
      × Looks depth replicas passes places q.value p.view q.view)
      → Knows q × MadeOrMoved depth replicas events p.view q.view made
  exchange_tells ring p q events true is below lead from its tells = (led_known ring events p q is below lead from its tells.0 tells.1, tells.1)
  exchange_tells ring p q events false is below lead from its tells =
      (look_remembers depth replicas passes places own mine p q is from its tells.2, (tells.2.looked, later_moved p q is tells.1 tells.2))
