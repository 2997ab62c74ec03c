use Rattle.std.proofs.Common.{◌≡◌, ℕ, ◌<◌, length, take, get_or, refl, sym, ap, subst, ◌∙◌, arith}
use Rattle.std.specs.Prelude.{option_map, is_some, None}
use Rattle.std.proofs.Math.Seq.{take-length}
use Rattle.std.proofs.lemmas.Bool.{iff_false}
use Rattle.std.proofs.lemmas.Grind.{same_number_lists}
use Rattle.vs_plain.specs.Plain.{BoundedSpace}
use Rattle.nr_trace.specs.Calls.{Response}
use Rattle.nr_trace.specs.Orders.{recorded_order, space_from}
use Rattle.nr_trace.specs.Faults.{IsWrongFrom}
use Rattle.nr_trace.specs.declared.refusals.fault.Fault.TheVariants.{WrongAnswer}
use Rattle.nr_audit.specs.inside.LastEvents.{IsLastEvent}
use Rattle.nr_trace.specs.Calls.{request_of}
use Rattle.nr_audit.specs.inside.Passes.{IsAnswerFault}
use Rattle.nr_audit.specs.inside.Search.{IsFirstAmongFrom}
use Rattle.nr_audit.specs.Verdict.{space_of}
use Rattle.nr_audit.specs.Served.{Serves}
use Rattle.nr_audit.proofs.AnswerFaults.{space_visits, space_stays, none_wrong, first_wrong, wrong_here, right_here, no_call_is_right, answered, left}
use Rattle.nr_audit.proofs.AnswerFaults.{operation_by, space_of_order, right_more}
use Rattle.nr_audit.proofs.LastEvents.{put_more, left_more}
use Rattle.nr_audit.proofs.PassedPlaces.{reached_all, reached_more, reached_nothing, reached_other}
use Rattle.nr_audit.specs.inside.Dumps.{HasPassed}
use Rattle.nr_audit.proofs.checks.answers.serve_calls.Goals as goal

pub loop-member-preserved-in_default : goal.loop-member-preserved-in_default
loop-member-preserved-in_default c =
    let trace = c.args.trace.now in
    let start = c.args.start.space in
    let order = recorded_order trace in
    let k = c.loop-member.member-index in
    let is = c.loop-member.invariant in
    let within : k < length order = omega arith in
    let own = subst (λ e. IsLastEvent trace (get_or order k 0) e) (sym (is.left k (omega arith))) (c.requires.listed.each k within) in
    let call = c.call_at-call.ensures ∙ own.names in
    let asks = c.request_of.ensures.asks ∙ ap (request_of trace) call in
    let none = sym asks ∙ c.in_default.is in
    record {
      put = put_more order c.loop-member.members k c.call_at-call.result (omega arith) is.put call;
      left = left_more c.loop-member.members c.args.members.now k c.call_at-call.result is.left;
      space = is.space ∙ ap (λ s. space_of trace.layout s) (space_stays start trace order k 0 within none);
      reached = reached_other start trace c.requires.clean k c.loop-member.place c.loop-member.faults within is.reached
          (ap is_some (operation_by trace (get_or order k 0) None (sym none)));
      right = right_more start trace order k is.right (no_call_is_right start trace order refl c.requires.clean (get_or order k 0) none);
    }

pub returns-then-not-agrees-clause-first : goal.returns-then-not-agrees-clause-first
returns-then-not-agrees-clause-first c =
    let trace = c.args.trace.now in
    let start = c.args.start.space in
    let order = recorded_order trace in
    let k = c.loop-member.member-index in
    let is = c.loop-member.invariant in
    let within : k < length order = omega arith in
    let own = subst (λ e. IsLastEvent trace (get_or order k 0) e) (sym (is.left k (omega arith))) (c.requires.listed.each k within) in
    let call = c.call_at-call.ensures ∙ own.names in
    let request = c.in-Some.request in
    let serves = subst (λ (s : BoundedSpace). Serves s request c.in_ok-answer.answer c.serve.new.space) is.space c.in_ok-answer.ensures.ok in
    let gives = answered trace.layout (space_from start trace (take k order)) request c.in_ok-answer.answer c.serve.new.space serves in
    let asks = sym c.in-Some.is ∙ c.request_of.ensures.asks ∙ ap (request_of trace) call in
    let told = c.answer_at.ensures ∙ ap (option_map (λ (r : Response). r.answer)) own.only_reply in
    subst (λ n. IsFirstAmongFrom start IsAnswerFault trace (WrongAnswer n)) (sym call)
    (first_wrong start trace order refl c.requires.clean k within is.right
    (wrong_here start trace order refl c.requires.clean k request c.in_ok-answer.answer c.answer_at.result within asks gives told
    (iff_false c.agrees.ensures c.if-not-agrees.true)))

pub loop-member-preserved : goal.loop-member-preserved
loop-member-preserved c =
    let trace = c.args.trace.now in
    let start = c.args.start.space in
    let order = recorded_order trace in
    let k = c.loop-member.member-index in
    let request = c.in-Some.request in
    let is = c.loop-member.invariant in
    let within : k < length order = omega arith in
    let own = subst (λ e. IsLastEvent trace (get_or order k 0) e) (sym (is.left k (omega arith))) (c.requires.listed.each k within) in
    let call = c.call_at-call.ensures ∙ own.names in
    let asks = sym c.in-Some.is ∙ c.request_of.ensures.asks ∙ ap (request_of trace) call in
    let told = c.answer_at.ensures ∙ ap (option_map (λ (r : Response). r.answer)) own.only_reply in
    let serves = subst (λ (s : BoundedSpace). Serves s request c.in_ok-answer.answer c.serve.new.space) is.space c.in_ok-answer.ensures.ok in
    let gives = answered trace.layout (space_from start trace (take k order)) request c.in_ok-answer.answer c.serve.new.space serves in
    record {
      put = put_more order c.loop-member.members k c.call_at-call.result (omega arith) is.put call;
      left = left_more c.loop-member.members c.args.members.now k c.call_at-call.result is.left;
      space = left trace.layout (space_from start trace (take k order)) request c.in_ok-answer.answer c.serve.new.space serves
          ∙ ap (λ s. space_of trace.layout s) (space_visits start trace order k 0 request within asks);
      reached = reached_more start trace c.requires.clean k c.loop-member.place c.loop-member.faults within is.reached
          c.in_ok-place.place c.loop-member.space c.pass_place.new.faults is.space
          (subst (λ n. HasPassed trace c.loop-member.space c.loop-member.place n c.in_ok-place.place c.loop-member.faults c.pass_place.new.faults) call
          c.in_ok-place.ensures);
      right = right_more start trace order k is.right
          (right_here start trace order refl c.requires.clean k request c.in_ok-answer.answer c.answer_at.result within asks gives told
          (c.agrees.ensures.0 c.if-not-agrees.false));
    }

pub returns-clause-calls : goal.returns-clause-calls
returns-clause-calls c =
    same_number_lists c.loop-member.members (recorded_order c.args.trace.now) (omega arith) (λ k lt. c.loop-member.invariant.put k (omega arith))

pub returns-clause-space : goal.returns-clause-space
returns-clause-space c =
    let trace = c.args.trace.now in
    let start = c.args.start.space in
    let order = recorded_order trace in
    let at_end : c.loop-member.member-index ≡ length order = omega arith in
    c.loop-member.invariant.space
    ∙ ap (λ s. space_of trace.layout s) (ap (λ n. space_from start trace (take n order)) at_end ∙ ap (λ xs. space_from start trace xs) (take-length order)
    ∙ space_of_order start trace order c.requires.clean refl)

pub returns-clause-right : goal.returns-clause-right
returns-clause-right c =
    let trace = c.args.trace.now in
    let start = c.args.start.space in
    let order = recorded_order trace in
    let at_end : c.loop-member.member-index ≡ length order = omega arith in
    none_wrong start trace order refl c.requires.clean
    (subst (λ n. (j : ℕ) → j < n → IsWrongFrom start trace (get_or order j 0) → ⊥) at_end c.loop-member.invariant.right)

pub loop-member-init : goal.loop-member-init
loop-member-init c = record {
  put = λ k lt. absurd (omega arith);
  left = λ k le. refl;
  space = c.requires.start;
  reached = reached_nothing c.args.start.space c.args.trace.now c.args.faults.now c.requires.none;
  right = λ j lt. absurd (omega arith);
}

pub returns-clause-found : goal.returns-clause-found
returns-clause-found c =
    reached_all c.args.start.space c.args.trace.now c.loop-member.member-index c.loop-member.place c.loop-member.faults c.requires.clean (omega arith)
    c.loop-member.invariant.reached
