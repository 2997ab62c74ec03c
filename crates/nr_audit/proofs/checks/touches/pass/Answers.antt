use Rattle.std.proofs.Common.{◌≡◌, ◌<◌, IfSome, sym, ap, ◌∙◌, subst}
use Rattle.nr_trace.specs.Calls.{call_of, Invocation, Response}
use Rattle.nr_trace.specs.Orders.{known_by}
use Rattle.nr_trace.specs.Recording.{Recording}
use Rattle.nr_audit.specs.inside.Prefixes.{with_known}
use Rattle.nr_audit.proofs.KnownEntries.{past_other, past_reply}
use Rattle.nr_audit.proofs.checks.touches.pass.Goals as goal

pub returns-in-Some : goal.returns-in-Some
returns-in-Some c = λ are.
    let segment = c.args.segment.now in
    let same = c.requires.same in
    let call = c.call_at-call.result in
    let known = c.entries_known-known.result in
    past_reply segment c.args.index c.in-Some.at call known c.args.needed.now c.raise_need.new.needed (sym c.position_at.ensures ∙ c.in-Some.is)
    c.call_at-call.ensures
    (λ reply names there.
    c.entries_known-known.ensures reply.answer
    ∙ ap (λ (s : Recording). known_by s (record { call = call; at = c.in-Some.at; answer = reply.answer })) same
    ∙ ap (λ (r : Response). known_by segment r) (let it : record { call = call; at = c.in-Some.at; answer = reply.answer } ≡ reply = λ i. record {
      call = sym names i;
      at = sym there i;
      answer = reply.answer;
    } in it))
    (subst (λ (s : Recording). IfSome (call_of s call) (λ (made : Invocation). made.replica < 4)) same c.raise_need.ensures.in_range)
    (subst (λ (s : Recording). c.raise_need.new.needed ≡ with_known c.args.needed.now (call_of s call) known) same c.raise_need.ensures.raised)
    are

pub returns-in_default : goal.returns-in_default
returns-in_default c = λ are. past_other c.args.segment.now c.args.index c.args.needed.now (sym c.position_at.ensures ∙ c.in_default.is) are
