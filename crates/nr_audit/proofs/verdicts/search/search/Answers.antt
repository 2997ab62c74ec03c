use Rattle.std.proofs.Common.{◌≡◌, refl, ap, sym, ◌∙◌, subst, lit<}
use Rattle.std.proofs.lemmas.Result.{err_from_is_err_and}
use Rattle.std.specs.Prelude.{All}
use Rattle.vs_types.specs.Space.{Space}
use Rattle.vs_plain.specs.Plain.{BoundedSpace}
use Rattle.nr_trace.specs.Calls.{IsCall}
use Rattle.nr_trace.specs.Laws.{HasCleanLog}
use Rattle.nr_trace.specs.Orders.{recorded_order}
use Rattle.nr_audit.specs.inside.LastEvents.{AreLastEvents}
use Rattle.nr_audit.specs.inside.Search.{HasNoFaultOn, HasNone, HasNoneFrom}
use Rattle.nr_audit.specs.inside.Passes.{IsCallFault, IsLogFault, IsAnswerFault, IsDumpFault}
use Rattle.nr_audit.proofs.FirstOfPasses.{none_of_format, after_calls, after_positions, before_answers, after_answers, after_releases, after_dumps}
use Rattle.nr_audit.proofs.FirstOfPasses.{clean_after_positions, faultless_after_all, refused_by_pass, refused_early, refused_from_any, refused_of, refused_of_any}
use Rattle.nr_audit.proofs.FirstOfPasses.{refused_on, refused_in, refused_start}
use Rattle.nr_audit.proofs.FirstOfPasses.{HasNoneBefore, call_faults, log_faults, answer_faults, dump_faults}
use Rattle.nr_audit.proofs.ComparedDumps.{none_found}
use Rattle.nr_audit.proofs.LastEvents.{all_calls}
use Rattle.nr_audit.proofs.Judgements.{late_first, no_stale, no_wrong, none_behind, refused_late}
use Rattle.nr_audit.proofs.verdicts.search.search.Goals as goal

pub returns-in_err-history-clause-first : goal.returns-in_err-history-clause-first
returns-in_err-history-clause-first c = λ run of_tail goes_on.
    let p = err_from_is_err_and c.from_residual.result c.from_residual.ensures.1 in
    rw (p.1, p.2) (refused_from_any run c.args.start.space 2 IsCallFault c.args.trace.now _ (lit< tt) call_faults (none_of_format c.args.trace.now)
    c.in_err-history.ensures.first)

pub returns-in_err-places-clause-first : goal.returns-in_err-places-clause-first
returns-in_err-places-clause-first c = λ run of_tail goes_on.
    let p = err_from_is_err_and c.from_residual-in_err-places.result c.from_residual-in_err-places.ensures.1 in
    let same = c.in_ok-history.ensures.history in
    let t = c.in_ok-history.history in
    let calls = subst (λ t. HasNone IsCallFault t) (sym same) c.in_ok-history.ensures.clean in
    rw (p.1, p.2) (refused_of run c.args.start.space t c.args.trace.now _ same
    (refused_from_any run c.args.start.space 3 IsLogFault t _ (lit< tt) log_faults (after_calls t calls) c.in_err-places.ensures.first))

pub check_replies-requires-clause-calls : goal.check_replies-requires-clause-calls
check_replies-requires-clause-calls c = subst (λ t. HasNone IsCallFault t) (sym c.in_ok-history.ensures.history) c.in_ok-history.ensures.clean

pub returns-in_err-standing-clause-first : goal.returns-in_err-standing-clause-first
returns-in_err-standing-clause-first c = λ run of_tail goes_on.
    let p = err_from_is_err_and c.from_residual-in_err-standing.result c.from_residual-in_err-standing.ensures.1 in
    rw (p.1, p.2) (refused_of run c.args.start.space c.in_ok-history.history c.args.trace.now _ c.in_ok-history.ensures.history
    (refused_of_any run c.args.start.space c.in_ok-history.history _ c.in_err-standing.ensures.first))

pub of-events-requires : goal.of-events-requires
of-events-requires c =
    let t = c.in_ok-history.history in
    let calls = subst (λ t. HasNone IsCallFault t) (sym c.in_ok-history.ensures.history) c.in_ok-history.ensures.clean in
    let clean = clean_after_positions t (after_positions t calls c.in_ok-places.ensures.clean c.in_ok-standing.ensures.clean.0) in
    subst (λ order. All (IsCall t) order) (sym c.in_ok-order.ensures) (all_calls t clean)

pub check_answers-requires-clause-clean : goal.check_answers-requires-clause-clean
check_answers-requires-clause-clean c =
    let same = c.in_ok-history.ensures.history in
    let t = c.in_ok-history.history in
    let calls = subst (λ t. HasNone IsCallFault t) (sym same) c.in_ok-history.ensures.clean in
    subst (λ t. HasCleanLog t) same (clean_after_positions t (after_positions t calls c.in_ok-places.ensures.clean c.in_ok-standing.ensures.clean.0))

pub check_answers-requires-clause-listed : goal.check_answers-requires-clause-listed
check_answers-requires-clause-listed c =
    let t = c.in_ok-history.history in
    let events = c.of-events.result in
    subst (λ t. AreLastEvents t (recorded_order t) events) c.in_ok-history.ensures.history
    (subst (λ order. AreLastEvents t order events) c.in_ok-order.ensures c.of-events.ensures)

pub check_answers-requires-clause-none : goal.check_answers-requires-clause-none
check_answers-requires-clause-none c = none_found c.in_ok-touched.touched.start.space c.args.trace.now _ refl

pub returns-in_err-order-2-clause-first : goal.returns-in_err-order-2-clause-first
returns-in_err-order-2-clause-first c = λ run of_tail goes_on.
    let start = c.in_ok-touched.touched.start.space in
    let again : start ≡ c.args.start.space = ap (λ (s : BoundedSpace). s.space) c.in_ok-touched.ensures.start in
    let p = err_from_is_err_and c.from_residual-in_err-order-2.result c.from_residual-in_err-order-2.ensures.1 in
    let same = c.in_ok-history.ensures.history in
    let t = c.in_ok-history.history in
    let calls = subst (λ t. HasNone IsCallFault t) (sym same) c.in_ok-history.ensures.clean in
    rw (p.1, p.2) (refused_on run start c.args.start.space c.args.trace.now _ again
    (refused_of run start t c.args.trace.now _ same (refused_early run start t 6 IsAnswerFault _ (lit< tt) answer_faults
    (before_answers t calls c.in_ok-places.ensures.clean c.in_ok-standing.ensures.clean.0 c.in_ok-standing.ensures.clean.1 start)
    (refused_in start IsAnswerFault c.args.trace.now t _ (sym same) c.in_err-order-2.ensures.first))))

pub returns-in-Some-clause-first : goal.returns-in-Some-clause-first
returns-in-Some-clause-first c = λ run of_tail goes_on.
    let start = c.args.start.space in
    let trace = c.args.trace.now in
    let touched = c.in_ok-touched.touched in
    let again : touched.start.space ≡ start = ap (λ (s : BoundedSpace). s.space) c.in_ok-touched.ensures.start in
    let same = c.in_ok-history.ensures.history in
    let t = c.in_ok-history.history in
    let calls = subst (λ t. HasNone IsCallFault t) (sym same) c.in_ok-history.ensures.clean in
    let clean = subst (λ t. HasCleanLog t) same
    (clean_after_positions t (after_positions t calls c.in_ok-places.ensures.clean c.in_ok-standing.ensures.clean.0)) in
    let right = subst (λ (s : Space). HasNoneFrom s IsAnswerFault t) again
    (subst (λ t. HasNoneFrom touched.start.space IsAnswerFault t) (sym same) c.in_ok-order-2.ensures.right) in
    let before = subst (λ t. HasNoneBefore start 7 t) same
    (after_answers t calls c.in_ok-places.ensures.clean c.in_ok-standing.ensures.clean.0 c.in_ok-standing.ensures.clean.1 start right) in
    late_first run start trace touched.stale touched.reachable c.in-Some.fault (sym c.late_fault.ensures ∙ c.in-Some.is)
    (c.in_ok-touched.ensures.none run of_tail goes_on clean) (c.in_ok-touched.ensures.some run of_tail goes_on clean)
    (c.in_ok-touched.ensures.reaches run of_tail goes_on clean) before

pub returns-clause-touches : goal.returns-clause-touches
returns-clause-touches c = λ run of_tail goes_on.
    let same = c.in_ok-history.ensures.history in
    let t = c.in_ok-history.history in
    let calls = subst (λ t. HasNone IsCallFault t) (sym same) c.in_ok-history.ensures.clean in
    let clean = subst (λ t. HasCleanLog t) same
    (clean_after_positions t (after_positions t calls c.in_ok-places.ensures.clean c.in_ok-standing.ensures.clean.0)) in
    rw (no_stale c.in_ok-touched.touched.stale c.in_ok-touched.touched.reachable (sym c.late_fault.ensures ∙ c.in_default.is)) at
    (c.in_ok-touched.ensures.none run of_tail goes_on clean)

pub returns-clause-tail : goal.returns-clause-tail
returns-clause-tail c = λ run of_tail goes_on.
    let same = c.in_ok-history.ensures.history in
    let t = c.in_ok-history.history in
    let calls = subst (λ t. HasNone IsCallFault t) (sym same) c.in_ok-history.ensures.clean in
    let clean = subst (λ t. HasCleanLog t) same
    (clean_after_positions t (after_positions t calls c.in_ok-places.ensures.clean c.in_ok-standing.ensures.clean.0)) in
    c.in_ok-touched.ensures.tail run of_tail goes_on clean

pub returns-clause-met : goal.returns-clause-met
returns-clause-met c = λ run of_tail goes_on.
    let same = c.in_ok-history.ensures.history in
    let t = c.in_ok-history.history in
    let calls = subst (λ t. HasNone IsCallFault t) (sym same) c.in_ok-history.ensures.clean in
    let clean = subst (λ t. HasCleanLog t) same
    (clean_after_positions t (after_positions t calls c.in_ok-places.ensures.clean c.in_ok-standing.ensures.clean.0)) in
    rw (no_stale c.in_ok-touched.touched.stale c.in_ok-touched.touched.reachable (sym c.late_fault.ensures ∙ c.in_default.is)) at
    (c.in_ok-touched.ensures.met run of_tail goes_on clean)

pub returns-in_err-check_dumps-clause-first : goal.returns-in_err-check_dumps-clause-first
returns-in_err-check_dumps-clause-first c = λ run of_tail goes_on.
    let start = c.in_ok-touched.touched.start.space in
    let again : start ≡ c.args.start.space = ap (λ (s : BoundedSpace). s.space) c.in_ok-touched.ensures.start in
    let p = err_from_is_err_and c.from_residual-in_err-check_dumps.result c.from_residual-in_err-check_dumps.ensures.1 in
    let same = c.in_ok-history.ensures.history in
    let t = c.in_ok-history.history in
    let calls = subst (λ t. HasNone IsCallFault t) (sym same) c.in_ok-history.ensures.clean in
    let clean = subst (λ t. HasCleanLog t) same
    (clean_after_positions t (after_positions t calls c.in_ok-places.ensures.clean c.in_ok-standing.ensures.clean.0)) in
    let nothing = sym c.late_fault.ensures ∙ c.in_default.is in
    let touches = rw (no_stale c.in_ok-touched.touched.stale c.in_ok-touched.touched.reachable nothing) at
    (c.in_ok-touched.ensures.none run of_tail goes_on clean) in
    let released = rw (no_wrong c.in_ok-touched.touched.stale c.in_ok-touched.touched.reachable nothing) at
    (c.in_ok-touched.ensures.released run of_tail goes_on clean) in
    let right = subst (λ t. HasNoneFrom start IsAnswerFault t) (sym same) c.in_ok-order-2.ensures.right in
    let none_before = subst (λ t. HasNoneBefore start 9 t) same
    (after_releases t calls c.in_ok-places.ensures.clean c.in_ok-standing.ensures.clean.0 c.in_ok-standing.ensures.clean.1 start right) in
    rw (p.1, p.2) (refused_late run c.args.start.space c.args.trace.now touches released _
    (refused_start start c.args.start.space c.args.trace.now _ again
    (refused_by_pass start 9 IsDumpFault c.args.trace.now _ dump_faults none_before (c.in_err-check_dumps.ensures.first start
    (record { whole = c.in_ok-order-2.ensures.space; found = c.in_ok-order-2.ensures.found })))))

pub returns-clause-none : goal.returns-clause-none
returns-clause-none c = λ run of_tail goes_on.
    let start = c.in_ok-touched.touched.start.space in
    let again : start ≡ c.args.start.space = ap (λ (s : BoundedSpace). s.space) c.in_ok-touched.ensures.start in
    let same = c.in_ok-history.ensures.history in
    let t = c.in_ok-history.history in
    let calls = subst (λ t. HasNone IsCallFault t) (sym same) c.in_ok-history.ensures.clean in
    let right = subst (λ t. HasNoneFrom start IsAnswerFault t) (sym same) c.in_ok-order-2.ensures.right in
    let dumps = subst (λ t. HasNoneFrom start IsDumpFault t) (sym same) (c.in_ok-check_dumps.ensures.clean start
    (record { whole = c.in_ok-order-2.ensures.space; found = c.in_ok-order-2.ensures.found })) in
    let clean = subst (λ t. HasCleanLog t) same
    (clean_after_positions t (after_positions t calls c.in_ok-places.ensures.clean c.in_ok-standing.ensures.clean.0)) in
    let released = rw (no_wrong c.in_ok-touched.touched.stale c.in_ok-touched.touched.reachable (sym c.late_fault.ensures ∙ c.in_default.is)) at
    (c.in_ok-touched.ensures.released run of_tail goes_on clean) in
    none_behind run c.args.start.space c.args.trace.now (returns-clause-touches c run of_tail goes_on) released
    (subst (λ (s : Space). HasNoFaultOn s c.args.trace.now) again
    (subst (λ t. HasNoFaultOn start t) same (faultless_after_all start t (after_dumps t calls c.in_ok-places.ensures.clean
    c.in_ok-standing.ensures.clean.0 c.in_ok-standing.ensures.clean.1 start right dumps))))
