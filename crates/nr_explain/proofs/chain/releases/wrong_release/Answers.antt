use Rattle.std.proofs.Common.{sym, ap, option_and_then, subst, ◌∙◌}
use Rattle.nr_trace.specs.Calls.{Invocation, IsCall, released_in, released_of}
use Rattle.nr_trace.specs.Recording.{IsAskable}
use Rattle.nr_explain.specs.inside.Reading.{all_states}
use Rattle.nr_explain.proofs.Reaching.{left_so, release_asks, release_is_call, wrong_so}
use Rattle.nr_explain.proofs.chain.releases.wrong_release.Goals as goal

pub call_at-call-requires : goal.call_at-call-requires
call_at-call-requires c =
    let show = c.requires.show in
    subst (IsCall c.args.segment.now) show.made (release_is_call c.args.segment.now show.release show.has)

pub unreachable-requires : goal.unreachable-requires
unreachable-requires c =
    let segment = c.args.segment.now in
    let show = c.requires.show in
    c.in_default.not-Release show.release.size show.release.phys
    (release_asks segment c.call_at-call.result show.release c.call_at-call.ensures.is show.has (show.made ∙ sym c.call_at-call.ensures.event))

pub why_wrong-requires-clause-gives : goal.why_wrong-requires-clause-gives
why_wrong-requires-clause-gives c =
    let segment = c.args.segment.now in
    ap (released_of segment) (sym c.call_at-call.ensures.event)
    ∙ ap (option_and_then (λ (made : Invocation). released_in made.asked)) c.call_at-call.ensures.is ∙ ap released_in c.in-Release.is

pub why_wrong-requires-clause-memory : goal.why_wrong-requires-clause-memory
why_wrong-requires-clause-memory c =
    subst (IsAskable c.args.segment.now.layout.depth) c.in-Release.is c.call_at-call.ensures.askable

pub returns-clause-is : goal.returns-clause-is
returns-clause-is c = record {
  call = c.call_at-call.ensures.is;
  why = wrong_so (all_states c.args.last.now) c.args.first.now.space c.args.segment.now c.args.index c.call_at-call.result
      (record { size = c.in-Release.size; phys = c.in-Release.phys }) c.in_ok-why.why c.call_at-call.ensures.event c.in-Release.is c.in_ok-why.ensures;
}

pub returns-clause-left : goal.returns-clause-left
returns-clause-left c =
    left_so (all_states c.args.last.now) c.args.first.now.space c.args.segment.now c.args.index c.call_at-call.result
    (record { size = c.in-Release.size; phys = c.in-Release.phys }) c.in_ok-why.why c.call_at-call.ensures.event c.in-Release.is c.in_ok-why.ensures
