use Rattle.std.proofs.Common.{◌≡◌, ℕ, take, ap, subst, sym, ◌∙◌}
use Rattle.vs_types.specs.Space.{Space}
use Rattle.vs_plain.specs.Plain.{BoundedSpace}
use Rattle.nr_trace.specs.Calls.{request_of}
use Rattle.nr_trace.specs.Faults.{IsFirstFrom}
use Rattle.nr_trace.specs.Orders.{answer_in, space_from}
use Rattle.nr_trace.specs.declared.refusals.fault.Fault.TheVariants.{WrongAnswer}
use Rattle.nr_trace.proofs.LawsOfCalls.{is_some_from}
use Rattle.nr_explain.proofs.Replies.{some_reply}
use Rattle.nr_explain.specs.Facts.{IsLastChangeFrom}
use Rattle.nr_explain.specs.Nearest.{IsMemoryOf, IsNearest}
use Rattle.nr_explain.proofs.WrongAnswers.{few_seen, wrong_facts}
use Rattle.nr_explain.proofs.chain.answers.other_answer.Goals as goal

pub unreachable-requires : goal.unreachable-requires
unreachable-requires c =
    let segment = c.args.segment.now in
    let wrong = c.requires.first.holds in
    some_reply segment c.args.index wrong.reply wrong.is_reply (λ index low answers. c.in_default.ensures index answers)

pub request_at-request-requires : goal.request_at-request-requires
request_at-request-requires c = is_some_from _ c.requires.first.holds.request c.requires.first.holds.asks

pub answer_after-requires-clause-within : goal.answer_after-requires-clause-within
answer_after-requires-clause-within c =
    few_seen c.args.first.now.space c.args.segment.now c.args.index c.in-Some.reply c.requires.first c.in-Some.ensures.0 c.in-Some.ensures.1

pub last_look-requires-clause-within : goal.last_look-requires-clause-within
last_look-requires-clause-within c =
    few_seen c.args.first.now.space c.args.segment.now c.args.index c.in-Some.reply c.requires.first c.in-Some.ensures.0 c.in-Some.ensures.1

pub space_from-requires-clause-within : goal.space_from-requires-clause-within
space_from-requires-clause-within c =
    few_seen c.args.first.now.space c.args.segment.now c.args.index c.in-Some.reply c.requires.first c.in-Some.ensures.0 c.in-Some.ensures.1

pub returns-clause-is : goal.returns-clause-is
returns-clause-is c =
    let segment = c.args.segment.now in
    let start = c.args.first.now.space in
    let event = c.call_at-call.ensures.event in
    let is = c.in-Some.ensures in
    let again : c.in_ok-again.again.space ≡ start = ap (λ (s : BoundedSpace). s.space) c.in_ok-again.ensures in
    let before : c.in_ok-before.before.space ≡ start = ap (λ (s : BoundedSpace). s.space) c.in_ok-before.ensures in
    let begun : c.in_ok-begun.begun.space ≡ start = ap (λ (s : BoundedSpace). s.space) c.in_ok-begun.ensures in
    let then_is = ap (λ (s : BoundedSpace). s.space) c.in_ok-then.ensures
    ∙ ap (λ (s : Space). space_from s segment (take c.in-Some.reply.at segment.log)) begun in
    wrong_facts start segment c.call_at-call.result c.request_at-request.result c.in-Some.reply c.in_ok-wanted.wanted c.address_about-address.result
    c.in_ok-last.last.1 c.in_ok-right.right c.in_ok-memory.memory
    (subst (λ (n : ℕ). IsFirstFrom start segment (WrongAnswer n)) (sym event) c.requires.first) c.call_at-call.ensures.is
    (ap (request_of segment) event ∙ c.request_at-request.ensures.asks) is.0 (is.1 ∙ sym event)
    (subst (λ (s : BoundedSpace). c.in_ok-wanted.wanted
    ≡ answer_in segment.layout (space_from s.space segment (take c.in-Some.reply.at segment.log)) c.request_at-request.result)
    c.in_ok-space.ensures c.in_ok-wanted.ensures) c.address_about-address.ensures
    (subst (λ (s : Space). IsLastChangeFrom s segment c.address_about-address.result c.in-Some.reply.at c.in_ok-last.last.1) again c.in_ok-last.ensures.changed)
    (subst (λ (s : Space). IsNearest s segment c.request_at-request.result c.in-Some.reply.answer c.in-Some.reply.at c.in-Some.reply.at c.in_ok-right.right)
    before c.in_ok-right.ensures)
    (subst (λ (s : Space). IsMemoryOf s c.in-Some.reply.answer c.in_ok-memory.memory) then_is c.in_ok-memory.ensures)
