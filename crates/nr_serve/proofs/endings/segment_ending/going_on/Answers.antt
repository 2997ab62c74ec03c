use Rattle.std.proofs.Common.{◌≡◌, ℕ, ◌+◌, List, All, Some, length, ap, sym, subst, ◌∙◌}
use Rattle.std.proofs.lemmas.List.Elements.{All-map}
use Rattle.nr_trace.specs.declared.refusals.fault.Fault.{Fault}
use Rattle.nr_audit.specs.Faults.{IsFirstAfter}
use Rattle.nr_ring.specs.Pass.{Known, TableId}
use Rattle.nr_serve.specs.SegmentRun.{IsAnswer}
use Rattle.nr_serve.specs.inside.Calls.{since}
use Rattle.nr_serve.specs.inside.Segment.{state_with}
use Rattle.nr_serve.proofs.Segments.{failed_as, fits_after, fitting_frames, gone_as, has_gone, is_wrong, laid_as_before, made_segment, same_state, still_fits}
use Rattle.nr_serve.proofs.endings.segment_ending.going_on.Goals as goal

pub written_segment-requires-clause-dumps : goal.written_segment-requires-clause-dumps
written_segment-requires-clause-dumps g c =
    let cut = c.in_ok-cut.ensures.cut in
    (cut.one_each ∙ sym c.requires.ended.run.replicas_are, fitting_frames _ _ _ _ _ cut.dumps_are)

pub judge_segment-requires : goal.judge_segment-requires
judge_segment-requires g c = still_fits c.args.past c.args.config _ c.requires.ended.run.past_fits c.in_ok-trace.ensures.layout

pub invariant_of-run : goal.invariant_of-run
invariant_of-run g c =
    let cut = c.in_ok-cut.ensures in
    let run = c.requires.ended.run in
    record {
      opened_is = cut.opened.1 ∙ run.opened_is;
      depth_is = run.depth_is;
      replicas_are = run.replicas_are;
      one_each = cut.count ∙ run.one_each;
      of_log = subst (λ (log : TableId). All (λ (pass : Known). pass.log ≡ log) c.in_ok-cut.passes.items) (sym cut.opened.0) cut.log;
      past_fits = fits_after c.args.config _ c.in-Ok.after c.in-Ok.ensures.fits c.in_ok-trace.ensures.layout;
    }

pub returns-in-Ok : goal.returns-in-Ok
returns-in-Ok g c = λ before scripts served.
    let of = since g.K.ReplicasName.log g.K.ReplicasName.base in
    let cut = c.in_ok-cut.ensures.cut in
    let written = c.in_ok-trace.ensures in
    let trace = c.in_ok-trace.field-0.trace in
    let made = made_segment _ _ c.args.clock of _ c.args.config c.args.past before scripts _ _ _ trace c.in_ok-trace.field-0.bytes.items
    cut.history _ c.requires.ended served written.layout written.recorded written.calls
    (written.spelled _ (laid_as_before of before c.args.config c.args.past)) cut.is_history cut.begins cut.calls_are in
    let opened = c.in_ok-cut.ensures.opened in
    let new = c.in_ok-cut.passes.items in
    let answered = All-map (All IsAnswer) (λ said. said.items) c.args.parts.answers.items c.requires.answered in
    let gone = has_gone _ _ _ _ _ _ _ _ _ _ _ _ made c.in-Ok.order c.in-Ok.after new c.in-Ok.ensures.sound c.in-Ok.ensures.order answered
    c.in-Ok.ensures.kept c.in_ok-cut.ensures.log cut.heard c.in_ok-cut.ensures.count in
    let longer = ap (λ (l : List ℕ). g.K.ReplicasName.base + length l) (sym written.calls) in
    gone_as (state_with of before c.args.config c.args.past) scripts _ c.of-answers.result _ c.of-bytes.result c.in-Ok.order _ _ c.of-answers.ensures
    c.of-bytes.ensures
    (same_state (since c.in_ok-cut.cut.replicas.log c.in_ok-cut.cut.replicas.base) (since of.log (of.from + length trace.log)) new c.args.config
    (Some c.in-Ok.after) opened.0 (opened.2 ∙ longer))
    gone

pub returns : goal.returns
returns g c = λ before scripts served.
    let of = since g.K.ReplicasName.log g.K.ReplicasName.base in
    let cut = c.in_ok-cut.ensures.cut in
    let written = c.in_ok-trace.ensures in
    let trace = c.in_ok-trace.field-0.trace in
    let made = made_segment _ _ c.args.clock of _ c.args.config c.args.past before scripts _ _ _ trace c.in_ok-trace.field-0.bytes.items
    cut.history _ c.requires.ended served written.layout written.recorded written.calls
    (written.spelled _ (laid_as_before of before c.args.config c.args.past)) cut.is_history cut.begins cut.calls_are in
    failed_as (state_with of before c.args.config c.args.past) scripts _ c.of-bytes.result _ c.of-bytes.ensures
    (is_wrong _ _ _ _ _ _ _ _ _ _ _ _ made _
    (λ run behind. subst (λ (f : Fault). IsFirstAfter run trace f) (sym c.in-Err-Refused.fault-is)
    (rw c.in-Err-Refused.field-0-is at (c.in-Err-Refused.ensures.first run behind))))
