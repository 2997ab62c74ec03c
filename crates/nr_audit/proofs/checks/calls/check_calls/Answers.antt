use Rattle.std.proofs.Common.{Vec, Global, ◌≡◌, ℕ, ◌+◌, ◌<◌, length, replicate, set, None, Option, sym, ap, subst, ◌∙◌, arith}
use Rattle.nr_audit.specs.inside.LastCalls.{last_of, HasRows}
use Rattle.std.proofs.lemmas.Bool.{true≢false, iff_false}
use Rattle.std.proofs.lemmas.List.{get_or_read}
use Rattle.nr_trace.specs.declared.refusals.fault.Fault.TheVariants.{ThreadOpen, NoSuchCall, AnsweredTwice}
use Rattle.nr_audit.specs.declared.histories.last_calls.LastCalls.{LastCalls}
use Rattle.nr_audit.specs.inside.Search.{HasNone}
use Rattle.nr_audit.specs.inside.Passes.{IsCallFaultAt}
use Rattle.nr_trace.proofs.LawsOfCalls.{read_event}
use Rattle.nr_audit.proofs.CallsAndReplies.{read_gone, read_some, call_on, no_event, told_call, if_some, open_call, no_open_call}
use Rattle.nr_audit.proofs.LastCalls.{row_for}
use Rattle.nr_audit.proofs.Ranks.{more_of}
use Rattle.nr_audit.proofs.CallFaults.{HasFound, known_at_start, known_after_call, none_at_call, first_open, first_no_call, first_twice, none_at_reply}
use Rattle.nr_audit.proofs.CallFaults.{known_after_reply, first_call_fault, no_call_fault, table_at_end}
use Rattle.nr_audit.proofs.checks.calls.check_calls.Goals as goal
use Rattle.nr_audit.proofs.checks.calls.check_calls.Goals.{in-Reply+else-call-index+else-not-is_call+else-is_some, in_default+in-Some+else-is_open+in_ok-note}
use Rattle.nr_audit.proofs.checks.calls.check_calls.Goals.{in_default+in_default-thread_of}
use Rattle.nr_audit.proofs.checks.calls.check_calls.Goals.{then-call-index-via-then-call-index, then-call-index-via-else-call-index+then-not-is_call}

-- src/calls.rt:28:5
pub loop-index-init : goal.loop-index-init
loop-index-init c = record {
  known = known_at_start c.args.trace.now (last_of c.in_ok-last.last) c.in_ok-replies.replies.items c.in_ok-last.ensures.none
      (c.in_ok-replies.ensures ∙ ap (λ n. replicate {A = Option ℕ} n None) (ap length c.events-events.ensures.reads));
  rows = subst (λ n. HasRows n c.in_ok-last.last) (c.threads.ensures.reads ∙ ap (λ l. l.threads) c.layout.ensures.reads) c.in_ok-last.ensures.rows;
  none = λ lower lt. absurd (omega arith);
}

-- the thread of a call has a row
pub of-requires-in-Some : goal.of-requires-in-Some
of-requires-in-Some c =
    let own = call_on c.args.trace.now c.events-events.result.now c.loop-index.index _ _ c.in-Some.thread c.events-events.ensures.in_range
    c.events-events.ensures.reads c.loop-index-test.true c.index-events-index.is c.event-event.ensures c.in_default.not-Reply
    (sym c.in-Some.is ∙ c.thread_of.ensures) in
    row_for c.args.trace.now.layout.threads c.in-Some.thread c.loop-index.last c.loop-index.invariant.rows own.few

-- src/calls.rt:43:20
pub is_open-requires : goal.is_open-requires
is_open-requires c =
    let known = c.loop-index.invariant.known in
    if_some c.of-in-Some.result (λ call. call < length c.deref.result.now) (λ call is.
    let earlier = (known.last_made c.in-Some.thread call (sym c.of-in-Some.ensures ∙ is)).1 in
    omega (arith, known.one_each, ap length c.deref.ensures.value, ap length c.events-events.ensures.reads))

-- src/calls.rt:44:21
pub returns-then-is_open-clause-first : goal.returns-then-is_open-clause-first
returns-then-is_open-clause-first c =
    let known = c.loop-index.invariant.known in
    let own = call_on c.args.trace.now c.events-events.result.now c.loop-index.index _ _ c.in-Some.thread c.events-events.ensures.in_range
    c.events-events.ensures.reads c.loop-index-test.true c.index-events-index.is c.event-event.ensures c.in_default.not-Reply
    (sym c.in-Some.is ∙ c.thread_of.ensures) in
    let it = open_call c.of-in-Some.result _ c.deref.result.now c.loop-index.replies.items c.of-in-Some.ensures c.deref.ensures.value
    (c.is_open.ensures.0 c.if-is_open.true) in
    first_call_fault c.args.trace.now c.loop-index.index (ThreadOpen c.loop-index.index) c.loop-index.invariant.none
    (first_open c.args.trace.now c.loop-index.index (last_of c.loop-index.last) c.loop-index.replies.items known
    (omega (arith, ap length c.events-events.ensures.reads)) own.made c.in-Some.thread own.on own.is own.no_reply it.0 it.1 it.2)

-- src/calls.rt:40:21
pub returns-then-call-index-clause-first : goal.returns-then-call-index-clause-first
returns-then-call-index-clause-first c =
    let known = c.loop-index.invariant.known in
    first_call_fault c.args.trace.now c.loop-index.index (NoSuchCall c.loop-index.index) c.loop-index.invariant.none
    (first_no_call c.args.trace.now c.loop-index.index (last_of c.loop-index.last) c.loop-index.replies.items known
    (omega (arith, ap length c.events-events.ensures.reads)) _ _ _
    (read_event c.args.trace.now c.events-events.result.now c.loop-index.index _ _ c.events-events.ensures.reads c.loop-index-test.true
    c.index-events-index.is (sym c.event-event.ensures ∙ c.in-Reply.is))
    (λ such. elim c.then-call-index.branch [
      | then-call-index-via-then-call-index w ↦ (let below = such.0 in let above = w.if-call-index.true in omega arith)
      | then-call-index-via-else-call-index+then-not-is_call w ↦
          (let told = told_call c.args.trace.now c.events-events.result.now c.in-Reply.call _ w.is_call.result c.events-events.ensures.reads (let below =
          such.0 in let here = c.loop-index-test.true in omega arith) w.index-events-call.is w.is_call.ensures in
          let answer = w.if-not-is_call.true in
          let called = such.1 in true≢false (sym called ∙ sym told ∙ answer))
    ]))

-- src/calls.rt:43:21
pub returns-then-is_some-clause-first : goal.returns-then-is_some-clause-first
returns-then-is_some-clause-first c =
    let known = c.loop-index.invariant.known in
    let low : c.in-Reply.call < c.loop-index.index = c.if-call-index.false in
    let told = told_call c.args.trace.now c.events-events.result.now c.in-Reply.call _ c.is_call.result c.events-events.ensures.reads (let here =
    c.loop-index-test.true in omega arith) c.index-events-call.is c.is_call.ensures in
    let read = get_or_read c.loop-index.replies.items c.in-Reply.call c.index.result.now
    (omega (arith, known.one_each, ap length c.events-events.ensures.reads)) c.index.ensures None in
    first_call_fault c.args.trace.now c.loop-index.index (AnsweredTwice c.loop-index.index) c.loop-index.invariant.none
    (first_twice c.args.trace.now c.loop-index.index (last_of c.loop-index.last) c.loop-index.replies.items known
    (omega (arith, ap length c.events-events.ensures.reads)) _ _ _
    (read_event c.args.trace.now c.events-events.result.now c.loop-index.index _ _ c.events-events.ensures.reads c.loop-index-test.true
    c.index-events-index.is (sym c.event-event.ensures ∙ c.in-Reply.is))
    low (sym told ∙ c.if-not-is_call.false) (read_some _ _ _ (c.get.ensures ∙ read) (sym c.is_some.ensures) c.if-is_some.true))

-- src/calls.rt:28:5
pub loop-index-preserved : goal.loop-index-preserved
loop-index-preserved c =
    let known = c.loop-index.invariant.known in
    let within : c.loop-index.index < length c.args.trace.now.events = omega (arith, ap length c.events-events.ensures.reads) in
    elim c.match-event.branch [
      | in-Reply+else-call-index+else-not-is_call+else-is_some w ↦
          let low : w.in-Reply.call < c.loop-index.index = w.if-call-index.false in
          let told = told_call c.args.trace.now c.events-events.result.now w.in-Reply.call _ w.is_call.result c.events-events.ensures.reads (let here =
          c.loop-index-test.true in omega arith) w.index-events-call.is w.is_call.ensures in
          let called = sym told ∙ w.if-not-is_call.false in
          let read = get_or_read c.loop-index.replies.items w.in-Reply.call w.index.result.now
          (omega (arith, known.one_each)) w.index.ensures None in
          let none = read_gone _ _ _ (w.get.ensures ∙ read) (sym w.is_some.ensures) w.if-is_some.false in
          let is = read_event c.args.trace.now c.events-events.result.now c.loop-index.index _ _ c.events-events.ensures.reads c.loop-index-test.true
          c.index-events-index.is (sym c.event-event.ensures ∙ w.in-Reply.is) in
          record {
            known = subst (λ (l : LastCalls). HasFound c.args.trace.now (c.loop-index.index + 1) (last_of l) c.match-event.replies.items) (sym w.last-is)
                (subst (λ (v : Vec (Option ℕ) Global). HasFound c.args.trace.now (c.loop-index.index + 1) (last_of c.loop-index.last) v.items)
                (sym w.replies-is)
                (subst (λ o. HasFound c.args.trace.now (c.loop-index.index + 1) (last_of c.loop-index.last) (set c.loop-index.replies.items w.in-Reply.call o))
                (sym w.of.ensures)
                (known_after_reply c.args.trace.now c.loop-index.index (last_of c.loop-index.last) c.loop-index.replies.items known within _ _ _ is low none)));
            rows = subst (HasRows c.args.trace.now.layout.threads) (sym w.last-is) c.loop-index.invariant.rows;
            none = more_of IsCallFaultAt c.args.trace.now c.loop-index.index c.loop-index.invariant.none
                (none_at_reply c.args.trace.now c.loop-index.index (last_of c.loop-index.last) c.loop-index.replies.items known within _ _ _
                is low called none);
          }
      | in_default+in-Some+else-is_open+in_ok-note w ↦
          let own = call_on c.args.trace.now c.events-events.result.now c.loop-index.index _ _ w.in-Some.thread c.events-events.ensures.in_range
          c.events-events.ensures.reads c.loop-index-test.true c.index-events-index.is c.event-event.ensures w.in_default.not-Reply
          (sym w.in-Some.is ∙ w.thread_of.ensures) in
          let idle = no_open_call w.of-in-Some.result _ w.deref.result.now c.loop-index.replies.items w.of-in-Some.ensures w.deref.ensures.value
          (iff_false w.is_open.ensures w.if-is_open.false) in
          record {
            known = subst (λ (l : LastCalls). HasFound c.args.trace.now (c.loop-index.index + 1) (last_of l) c.match-event.replies.items) (sym w.last-is)
                (subst (λ (v : Vec (Option ℕ) Global). HasFound c.args.trace.now (c.loop-index.index + 1) (last_of w.note.new.self) v.items)
                (sym w.replies-is)
                (known_after_call c.args.trace.now c.loop-index.index (last_of c.loop-index.last) c.loop-index.replies.items known within own.made
                w.in-Some.thread own.on own.is own.no_reply (last_of w.note.new.self) w.in_ok-note.ensures.own w.in_ok-note.ensures.others idle));
            rows = subst (HasRows c.args.trace.now.layout.threads) (sym w.last-is)
                (w.in_ok-note.ensures.rows c.args.trace.now.layout.threads c.loop-index.invariant.rows);
            none = more_of IsCallFaultAt c.args.trace.now c.loop-index.index c.loop-index.invariant.none
                (none_at_call c.args.trace.now c.loop-index.index (last_of c.loop-index.last) c.loop-index.replies.items known within own.made
                w.in-Some.thread own.on own.is own.no_reply idle);
          }
      | in_default+in_default-thread_of w ↦ absurd
          (no_event c.event-event.result w.thread_of.result w.in_default.not-Reply w.thread_of.ensures w.in_default-thread_of.not-Some)
    ]

-- src/calls.rt:20:1
pub of-requires-2 : goal.of-requires-2
of-requires-2 c =
    let at_end : c.loop-index.index ≡ length c.args.trace.now.events = omega (arith, ap length c.events-events.ensures.reads) in
    table_at_end c.args.trace.now (last_of c.loop-index.last) c.loop-index.replies.items
    (no_call_fault c.args.trace.now (subst (λ n. (lower : ℕ) → lower < n → HasNone (IsCallFaultAt lower) c.args.trace.now) at_end c.loop-index.invariant.none))
    (subst (λ n. HasFound c.args.trace.now n (last_of c.loop-index.last) c.loop-index.replies.items) at_end c.loop-index.invariant.known)

-- src/calls.rt:20:1
pub returns-clause-clean : goal.returns-clause-clean
returns-clause-clean c =
    let at_end : c.loop-index.index ≡ length c.args.trace.now.events = omega (arith, ap length c.events-events.ensures.reads) in
    no_call_fault c.args.trace.now (subst (λ n. (lower : ℕ) → lower < n → HasNone (IsCallFaultAt lower) c.args.trace.now) at_end c.loop-index.invariant.none)
