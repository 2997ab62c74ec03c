-- What a run has to show, once its bytes are audited.
use Rattle.std.proofs.Common.{◌≡◌, ℕ, List, Vec, length, ap, sym, subst, ◌∙◌, arith}
use Rattle.std.specs.Vec.{with_items}
use Rattle.std.proofs.lemmas.List.{length-map, with_items_is}
use Rattle.std.specs.Prelude.{IfOk, Result, Ok}
use Rattle.vs_types.specs.Config.{Layout}
use Rattle.vs_types.specs.declared.requests.request.Query.{Query}
use Rattle.nr_ring.specs.Pass.{Known, TableId}
use Rattle.nr_trace.specs.Faults.{IsFirstOf}
use Rattle.nr_trace.specs.Laws.{IsFaultless}
use Rattle.nr_trace.specs.Orders.{recorded_order}
use Rattle.nr_trace.specs.Recording.{Recording}
use Rattle.nr_trace.specs.Spelling.{Spells}
use Rattle.nr_trace.proofs.LawsOfSpelling.{one_trace}
use Rattle.nr_audit.specs.Headline.{AreRightWith, IsSpelledWith}
use Rattle.nr_audit.specs.Verdict.{IsVerdictOf}
use Rattle.nr_audit.specs.declared.verdicts.verdict.Verdict.TheVariants.{Yes}
use Rattle.nr_record.specs.Events.{AreEventsOf}
use Rattle.nr_record.specs.Pen.{ClockId, PenState}
use Rattle.nr_serve.specs.Run.{AreAllCallsOf, HaveSeenAnswers, IfRunRefused, IfVerified, IsLogOf, IsRefusedRun, IsTraceOf, IsVerifiedRun}
use Rattle.nr_serve.specs.declared.endings.outcome.Outcome.{Outcome}
use Rattle.nr_serve.specs.declared.endings.outcome.Outcome.TheVariants.{Refused, Verified}
use Rattle.nr_serve.specs.declared.endings.call_outcome.CallOutcome.{CallOutcome}
use Rattle.nr_serve.specs.inside.Calls.{AreServed, WorkerState, since}
use Rattle.nr_serve.specs.inside.Ending.{IsWrittenOf, answers_of, passes_of, pens_of}
use Rattle.nr_serve.proofs.Made.{are_calls, have_seen}

-- bytes that spell a trace spell it alone
pub spelled_with : (bytes : List ℕ) (trace : Recording) (P : Recording → Type 0) → Spells bytes trace → P trace → IsSpelledWith bytes P
spelled_with bytes trace P spelled is = (trace, record { spelled = spelled; no_other = λ other same. one_trace bytes other trace same spelled }, is)

-- the bytes that are written spell a trace of the threads' scripts
pub trace_of_run : (clock : ClockId) (log : TableId) (layout : Layout) (scripts : List (List Query)) (workers : List WorkerState)
    (pens : List PenState) (passes : List Known) (bytes : List ℕ) → layout ≡ clock.layout → length scripts ≡ layout.threads
    → AreServed clock (since log 0) scripts workers → pens ≡ pens_of workers → passes ≡ passes_of workers → IsWrittenOf layout pens passes bytes
    → IsTraceOf layout scripts (answers_of workers) (passes_of workers) bytes
trace_of_run clock log layout scripts workers pens passes bytes of_clock one_each served pens_are passes_are written =
    let trace = written.trace in
    let recorded = subst (λ (ps : List PenState). AreEventsOf trace.events ps) pens_are written.recorded in
    let same = written.layout_is ∙ of_clock in
    let calls = are_calls clock (since log 0) scripts workers trace served recorded same in
    let seen = have_seen clock log scripts workers trace served recorded same in
    let of_log = subst (λ (ps : List Known). IsLogOf layout trace.log ps) passes_are written.log in
    record {
      layout_is = spelled_with bytes trace (λ t. t.layout ≡ layout) written.spelled written.layout_is;
      answers_each = length-map workers (λ (w : WorkerState). w.said) ∙ served.one_each ∙ one_each;
      calls = spelled_with bytes trace (λ t. AreAllCallsOf t scripts (answers_of workers)) written.spelled calls;
      passes_each = length-map workers (λ (w : WorkerState). w.pass) ∙ served.one_each ∙ one_each;
      log = spelled_with bytes trace (λ t. IsLogOf layout t.log (passes_of workers)) written.spelled of_log;
      seen = spelled_with bytes trace (λ t. HaveSeenAnswers t (passes_of workers)) written.spelled seen;
    }

-- what a run has to show whose bytes are found right
pub verified_with : {J E : Type 0} (r : Result (Outcome J) E) (layout : Layout) (scripts : List (List Query)) (shown answers : List (List CallOutcome))
    (bytes : List ℕ) (back passes : List Known) → shown ≡ answers → back ≡ passes → IfOk r (IfVerified (λ a t o p. a ≡ shown))
    → IfOk r (IfVerified (λ a t o p. t ≡ bytes)) → IfOk r (IfVerified (λ a t o p. p ≡ back)) → IfOk r (IfVerified (λ a t o p. IsVerdictOf t (Yes o)))
    → IfOk r (IfVerified (λ a t o p. AreRightWith t o)) → IsTraceOf layout scripts answers passes bytes
    → IfOk r (IfVerified (IsVerifiedRun layout scripts))
verified_with (Ok (Verified a t o p)) layout scripts shown answers bytes back passes of_shown of_back same_answers same_bytes same_passes verdict right is =
    let trace = verdict.0 in
    let spelled : Spells t trace = verdict.1 in
    let written = subst (λ (x : List ℕ). IsTraceOf layout scripts answers passes x) (sym same_bytes) is in
    let passed = subst (λ (x : List Known). IsTraceOf layout scripts answers x t) (sym (same_passes ∙ of_back)) written in
    record {
      trace_of = subst (λ (x : List (List CallOutcome)). IsTraceOf layout scripts x p t) (sym (same_answers ∙ of_shown)) passed;
      faultless = spelled_with t trace IsFaultless spelled verdict.2;
      order_is = spelled_with t trace (λ trace. o ≡ recorded_order trace) spelled verdict.3;
      right = right;
    }
verified_with _ layout scripts shown answers bytes back passes of_shown of_back same_answers same_bytes same_passes verdict right is = tt

-- and whose bytes are refused
pub refused_with : {J E : Type 0} (r : Result (Outcome J) E) (layout : Layout) (scripts : List (List Query)) (answers : List (List CallOutcome))
    (bytes : List ℕ) (passes : List Known) → IfOk r (IfRunRefused (λ t f. t ≡ bytes)) → IfOk r (IfRunRefused IsFirstOf)
    → IsTraceOf layout scripts answers passes bytes → IfOk r (IfRunRefused (IsRefusedRun layout scripts))
refused_with (Ok (Refused t f)) layout scripts answers bytes passes same_bytes first is = record {
  answers = answers;
  passes = passes;
  trace_of = subst (λ (x : List ℕ). IsTraceOf layout scripts answers passes x) (sym same_bytes) is;
  first = first;
}
refused_with _ layout scripts answers bytes passes same_bytes first is = tt

-- a vector whose elements are written back as they were has them still
pub back_is : {X Z : Type 0} (v : Vec X Z) (ws : List X) → ws ≡ v.items → (with_items v ws).items ≡ v.items
back_is {X} v ws same =
    let long : length ws ≡ v.len = omega (arith, ap (λ (xs : List X). length xs) same, v.ok.0) in with_items_is v ws long ∙ same

-- a vector to which as many elements are written back has those
pub written_back : {X Z : Type 0} (v : Vec X Z) (ws : List X) → length ws ≡ length v.items → (with_items v ws).items ≡ ws
written_back {X} v ws same =
    let long : length ws ≡ v.len = omega (arith, same, v.ok.0) in with_items_is v ws long
