use Rattle.std.proofs.Common.{◌≡◌, ℕ, ◌+◌, ◌<◌, List, length, max, sym, ap, subst, ◌∙◌, arith, lit<}
use Rattle.vs_types.specs.Space.{no_pages}
use Rattle.nr_trace.specs.Orders.{floor}
use Rattle.nr_trace.specs.Calls.{Response, call_of}
use Rattle.nr_trace.proofs.LawsOfSteps.{floor_after_reply, floor_after_other}
use Rattle.std.specs.Prelude.{MatchOption}
use Rattle.nr_trace.specs.Recording.{Recording}
use Rattle.nr_trace.specs.declared.refusals.fault.Fault.TheVariants.{Early}
use Rattle.nr_audit.specs.declared.checks.reads.Chains.{Chains}
use Rattle.nr_audit.specs.inside.Search.{FindsEarly, HasNone, IsFirstAmong}
use Rattle.nr_audit.specs.inside.Passes.{IsFloorFault, IsFloorFaultAt, IsPositionFault, IsPositionFaultAt}
use Rattle.nr_audit.specs.inside.Prefixes.{AreNeeds, with_known}
use Rattle.nr_trace.proofs.LawsOfCalls.{read_event, reply_here}
use Rattle.nr_audit.proofs.CallsAndReplies.{no_reply_there, no_reply_unless, no_call_at_reply}
use Rattle.nr_audit.proofs.Ranks.{more_of}
use Rattle.nr_audit.proofs.FloorFaults.{early_at_other, none_at_call, none_at_other, no_floor_fault}
use Rattle.nr_audit.proofs.FirstOfPasses.{after_log, after_positions, clean_after_positions, first_from_any, first_of_pass, floor_faults, position_faults}
use Rattle.nr_audit.proofs.PositionFaults.{first_position_fault, no_position_fault, none_without_reply}
use Rattle.nr_audit.proofs.NeededEntries.{greater_is, needs_stay, no_reply_at, needs_after_reply}
use Rattle.nr_audit.proofs.RecordedOrder.{passed_as, passed_by}
use Rattle.nr_audit.proofs.RepliesByTable.{no_call_saw_nothing}
use Rattle.nr_audit.proofs.checks.floors.check_replies.Goals as goal
use Rattle.nr_audit.proofs.checks.floors.check_replies.Goals.{in-Reply+in_default-position_fault, in_default+in-Some-pass, in_default+in_default-pass}

pub loop-index-preserved : goal.loop-index-preserved
loop-index-preserved c =
    let trace = c.args.history.now in
    let index = c.loop-index.index in
    let old = c.loop-index.invariant in
    let needed = c.loop-index.needed in
    elim c.match-event.branch [
      | in_default+in-Some-pass w ↦
          let none = no_reply_there trace index c.event.result
          (read_event trace c.events-event-items.result.now index _ _ c.events-event-items.ensures.reads c.loop-index-test.true
          c.event-item.is (sym c.event.ensures)) (no_reply_unless c.event.result w.in_default.not-Reply) in
          record {
            few = omega (arith, w.count-is, old.few);
            floor = w.floor-is ∙ old.floor ∙ sym (floor_after_other trace index none);
            positions = more_of IsPositionFaultAt trace index old.positions (none_without_reply trace index none);
            early = λ clean. subst (λ o. FindsEarly trace (index + 1) o) (sym w.early-is) (w.early_call-early.ensures clean (old.early clean));
            passed = passed_as trace (index + 1) _ _ _ _ (ap (λ (v : Chains). v.lasts.items) w.chains-is)
                (ap (λ (v : Chains). v.places_or_reads.items) w.chains-is) w.pass.ensures.passed;
            needs = subst (λ (needs : List ℕ). AreNeeds trace (index + 1) needs) (sym w.needed-is)
                (needs_stay trace index needed
                (λ replica other. no_reply_at trace index replica other none) old.needs);
          }
      | in_default+in_default-pass w ↦
          let none = no_reply_there trace index c.event.result
          (read_event trace c.events-event-items.result.now index _ _ c.events-event-items.ensures.reads c.loop-index-test.true
          c.event-item.is (sym c.event.ensures)) (no_reply_unless c.event.result w.in_default.not-Reply) in
          record {
            few = omega (arith, w.count-is, old.few);
            floor = w.floor-is ∙ old.floor ∙ sym (floor_after_other trace index none);
            positions = more_of IsPositionFaultAt trace index old.positions (none_without_reply trace index none);
            early = λ clean. subst (λ o. FindsEarly trace (index + 1) o) (sym w.early-is)
                (early_at_other trace index c.loop-index.early
                (none_at_call trace index w.pass.result clean w.pass.ensures.stands
                (λ entries there. absurd (w.in_default-pass.not-Some entries there))) (old.early clean));
            passed = passed_as trace (index + 1) _ _ _ _ (ap (λ (v : Chains). v.lasts.items) w.chains-is)
                (ap (λ (v : Chains). v.places_or_reads.items) w.chains-is) w.pass.ensures.passed;
            needs = subst (λ (needs : List ℕ). AreNeeds trace (index + 1) needs) (sym w.needed-is)
                (needs_stay trace index needed
                (λ replica other. no_reply_at trace index replica other none) old.needs);
          }
      | in-Reply+in_default-position_fault w ↦
          let is = read_event trace c.events-event-items.result.now index _ _ c.events-event-items.ensures.reads c.loop-index-test.true
          c.event-item.is (sym c.event.ensures ∙ w.in-Reply.is) in
          let reply : Response = record { call = w.in-Reply.call; at = w.in-Reply.at; answer = w.in-Reply.answer } in
          let known = w.entries_known-known.ensures w.in-Reply.answer in
          record {
            few = omega (arith, w.count-is, old.few);
            floor = w.floor-is ∙ w.max-floor.ensures ∙ greater_is c.loop-index.floor w.entries_known-known.result
                ∙ ap (λ n. max n w.entries_known-known.result) old.floor
                ∙ ap (λ n. max (floor trace index) n) known
                ∙ sym (floor_after_reply trace index reply (reply_here trace index _ _ _ is));
            positions = more_of IsPositionFaultAt trace index old.positions
                (subst (λ o. MatchOption o (HasNone (IsPositionFaultAt index) trace) (IsFirstAmong (IsPositionFaultAt index) trace))
                w.in_default-position_fault.is (w.position_fault.ensures w.in-Reply.answer is));
            early = λ clean. subst (λ o. FindsEarly trace (index + 1) o) (sym w.early-is)
                (early_at_other trace index c.loop-index.early (none_at_other trace index (no_call_at_reply trace index _ _ _ is)) (old.early clean));
            passed = passed_as trace (index + 1) _ _ _ _ (ap (λ (v : Chains). v.lasts.items) w.chains-is)
                (ap (λ (v : Chains). v.places_or_reads.items) w.chains-is)
                (passed_by trace index c.loop-index.chains.lasts.items c.loop-index.chains.places_or_reads.items
                (no_call_saw_nothing trace index (no_call_at_reply trace index _ _ _ is)) old.passed);
            needs = subst (λ (needs : List ℕ). AreNeeds trace (index + 1) needs)
                (sym (w.needed-is ∙ w.raise_need.ensures.raised ∙ ap (λ n. with_known needed (call_of trace w.in-Reply.call) n) known))
                (needs_after_reply trace index needed reply (reply_here trace index _ _ _ is) w.raise_need.ensures.in_range old.needs);
          }
    ]

-- at the end no position has a fault
placed : (trace : Recording) (index : ℕ) → index ≡ length trace.events → ((lower : ℕ) → lower < index → HasNone (IsPositionFaultAt lower) trace)
    → HasNone IsPositionFault trace
placed trace index at_end none =
    no_position_fault trace (subst (λ n. (lower : ℕ) → lower < n → HasNone (IsPositionFaultAt lower) trace) at_end none)

pub returns-clause-clean : goal.returns-clause-clean
returns-clause-clean c =
    let trace = c.args.history.now in
    let at_end : c.loop-index.index ≡ length trace.events = omega (arith, ap length c.events-event-items.ensures.reads) in
    let positions = placed trace c.loop-index.index at_end c.loop-index.invariant.positions in
    let clean = clean_after_positions trace (after_positions trace c.requires.calls c.requires.log positions) in
    let none = subst (λ o. FindsEarly trace c.loop-index.index o) c.in_default-early.is (c.loop-index.invariant.early clean) in (
      positions,
      no_floor_fault trace (subst (λ n. (lower : ℕ) → lower < n → HasNone (IsFloorFaultAt lower) trace) at_end none),
    )

pub returns-in-Some-early-clause-first : goal.returns-in-Some-early-clause-first
returns-in-Some-early-clause-first c =
    let trace = c.args.history.now in
    let at_end : c.loop-index.index ≡ length trace.events = omega (arith, ap length c.events-event-items.ensures.reads) in
    let positions = placed trace c.loop-index.index at_end c.loop-index.invariant.positions in
    let before = after_positions trace c.requires.calls c.requires.log positions in
    first_from_any trace (Early c.in-Some-early.call) (lit< tt) (first_of_pass no_pages 5 IsFloorFault trace (Early c.in-Some-early.call) floor_faults before
    (subst (λ o. FindsEarly trace c.loop-index.index o) c.in-Some-early.is (c.loop-index.invariant.early (clean_after_positions trace before))))

pub returns-in-Some-clause-first : goal.returns-in-Some-clause-first
returns-in-Some-clause-first c =
    let trace = c.args.history.now in
    let index = c.loop-index.index in
    let is = read_event trace c.events-event-items.result.now index _ _ c.events-event-items.ensures.reads c.loop-index-test.true
    c.event-item.is (sym c.event.ensures ∙ c.in-Reply.is) in
    let first = first_position_fault trace index c.in-Some.fault c.loop-index.invariant.positions
    (c.in-Some.ensures c.in-Reply.answer is) in
    let own = position_faults.only c.in-Some.fault first.is_among in
    first_from_any trace c.in-Some.fault (omega arith)
    (first_of_pass no_pages 4 IsPositionFault trace c.in-Some.fault position_faults (after_log trace c.requires.calls c.requires.log) first)
