use Rattle.std.proofs.Common.{◌≡◌, ℕ, length, take, ap, subst, sym, ◌∙◌}
use Rattle.vs_types.specs.Space.{Space, no_pages}
use Rattle.vs_plain.specs.Plain.{BoundedSpace}
use Rattle.nr_trace.specs.Calls.{request_of}
use Rattle.nr_trace.specs.Faults.{IsFirst}
use Rattle.nr_trace.specs.Orders.{answer_in, space_from}
use Rattle.nr_trace.specs.declared.refusals.fault.Fault.TheVariants.{WrongAnswer}
use Rattle.nr_trace.proofs.LawsOfCalls.{is_some_from}
use Rattle.nr_explain.specs.Facts.{IsLastChangeFrom}
use Rattle.nr_explain.specs.Nearest.{IsMemoryOf, IsNearest}
use Rattle.nr_explain.specs.inside.Searches.{IsOpenBelow}
use Rattle.nr_explain.proofs.Replies.{some_reply}
use Rattle.nr_explain.proofs.WrongAnswers.{few_seen, wrong_facts}
use Rattle.nr_explain.proofs.calls.answers.other_answer.Goals as goal

pub unreachable-requires : goal.unreachable-requires
unreachable-requires c =
    let trace = c.args.trace.now in
    let wrong = c.requires.holds in
    some_reply trace c.args.index wrong.reply wrong.is_reply
    (subst (λ (n : ℕ). IsOpenBelow trace c.args.index n) (ap length c.events.ensures.reads) c.in_default.ensures)

pub request_at-request-requires : goal.request_at-request-requires
request_at-request-requires c = is_some_from _ c.requires.holds.request c.requires.holds.asks

pub answer_after-requires-clause-within : goal.answer_after-requires-clause-within
answer_after-requires-clause-within c =
    few_seen no_pages c.args.trace.now c.args.index c.in-Some.reply c.requires c.in-Some.ensures.0 c.in-Some.ensures.1

pub last_look-requires-clause-within : goal.last_look-requires-clause-within
last_look-requires-clause-within c =
    few_seen no_pages c.args.trace.now c.args.index c.in-Some.reply c.requires c.in-Some.ensures.0 c.in-Some.ensures.1

pub space_at-requires : goal.space_at-requires
space_at-requires c =
    few_seen no_pages c.args.trace.now c.args.index c.in-Some.reply c.requires c.in-Some.ensures.0 c.in-Some.ensures.1

pub returns-clause-is : goal.returns-clause-is
returns-clause-is c =
    let trace = c.args.trace.now in
    let event = c.call_at-call.ensures.event in
    let is = c.in-Some.ensures in
    let space_is : c.no_pages.result.space ≡ no_pages = ap (λ (s : BoundedSpace). s.space) c.no_pages.ensures in
    let again : c.no_pages-2.result.space ≡ no_pages = ap (λ (s : BoundedSpace). s.space) c.no_pages-2.ensures in
    let empty : c.no_pages-empty.result.space ≡ no_pages = ap (λ (s : BoundedSpace). s.space) c.no_pages-empty.ensures in
    let then_is = ap (λ (s : BoundedSpace). s.space) c.in_ok-then.ensures in
    wrong_facts no_pages trace c.call_at-call.result c.request_at-request.result c.in-Some.reply c.in_ok-wanted.wanted c.address_about-address.result
    c.in_ok-last.last.1 c.in_ok-right.right c.in_ok-memory.memory
    (subst (λ (n : ℕ). IsFirst trace (WrongAnswer n)) (sym event) c.requires) c.call_at-call.ensures.is
    (ap (request_of trace) event ∙ c.request_at-request.ensures.asks) is.0 (is.1 ∙ sym event)
    (subst (λ (s : Space). c.in_ok-wanted.wanted
    ≡ answer_in trace.layout (space_from s trace (take c.in-Some.reply.at trace.log)) c.request_at-request.result)
    space_is c.in_ok-wanted.ensures) c.address_about-address.ensures
    (subst (λ (s : Space). IsLastChangeFrom s trace c.address_about-address.result c.in-Some.reply.at c.in_ok-last.last.1) again c.in_ok-last.ensures.changed)
    (subst (λ (s : Space). IsNearest s trace c.request_at-request.result c.in-Some.reply.answer c.in-Some.reply.at c.in-Some.reply.at c.in_ok-right.right)
    empty c.in_ok-right.ensures)
    (subst (λ (s : Space). IsMemoryOf s c.in-Some.reply.answer c.in_ok-memory.memory) then_is c.in_ok-memory.ensures)
