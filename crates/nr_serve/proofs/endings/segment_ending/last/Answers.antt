use Rattle.std.proofs.Common.{All, sym, subst, ◌∙◌}
use Rattle.nr_trace.specs.declared.refusals.fault.Fault.{Fault}
use Rattle.nr_audit.specs.Faults.{IsFirstAfter}
use Rattle.nr_serve.specs.SegmentRun.{IsAnswer}
use Rattle.nr_serve.specs.inside.Calls.{since}
use Rattle.nr_serve.specs.inside.Segment.{state_with}
use Rattle.nr_serve.proofs.Segments.{all_unmapped, ended_as, failed_as, fitting_frames, has_ended, is_wrong, laid_as_before, made_segment, still_fits}
use Rattle.nr_serve.proofs.endings.segment_ending.last.Goals as goal

pub written_segment-requires-clause-dumps : goal.written_segment-requires-clause-dumps
written_segment-requires-clause-dumps g c =
    let settled = c.in_ok-calls.ensures.settled in
    (settled.one_each ∙ sym c.requires.ended.run.replicas_are, fitting_frames _ _ _ _ _ settled.dumps_are)

pub judge_segment-requires : goal.judge_segment-requires
judge_segment-requires g c = still_fits c.args.past c.args.config _ c.requires.ended.run.past_fits c.in_ok-trace.ensures.layout

pub returns-in-Ok : goal.returns-in-Ok
returns-in-Ok g c = λ before scripts served.
    let of = since g.K.ReplicasName.log g.K.ReplicasName.base in
    let settled = c.in_ok-calls.ensures.settled in
    let written = c.in_ok-trace.ensures in
    let trace = c.in_ok-trace.field-0.trace in
    let made = made_segment _ _ c.args.clock of _ c.args.config c.args.past before scripts _ _ _ trace c.in_ok-trace.field-0.bytes.items
    settled.history _ c.requires.ended served written.layout written.recorded written.calls
    (written.spelled _ (laid_as_before of before c.args.config c.args.past)) settled.is_history settled.begins settled.calls_are in
    ended_as (state_with of before c.args.config c.args.past) scripts _ c.of-answers.result _ c.of-bytes.result c.in-Ok.order _ c.of-passes.result
    c.of-answers.ensures c.of-bytes.ensures (c.of-passes.ensures ∙ c.in_ok-calls.ensures.passes)
    (has_ended _ _ _ _ _ _ _ _ _ _ _ _ made c.in-Ok.order c.in-Ok.ensures.sound c.in-Ok.ensures.order
    (λ all. c.requires.stopped (all_unmapped (All IsAnswer) (λ said. said.items) c.args.parts.answers.items all)))

pub returns : goal.returns
returns g c = λ before scripts served.
    let of = since g.K.ReplicasName.log g.K.ReplicasName.base in
    let settled = c.in_ok-calls.ensures.settled in
    let written = c.in_ok-trace.ensures in
    let trace = c.in_ok-trace.field-0.trace in
    let made = made_segment _ _ c.args.clock of _ c.args.config c.args.past before scripts _ _ _ trace c.in_ok-trace.field-0.bytes.items
    settled.history _ c.requires.ended served written.layout written.recorded written.calls
    (written.spelled _ (laid_as_before of before c.args.config c.args.past)) settled.is_history settled.begins settled.calls_are in
    failed_as (state_with of before c.args.config c.args.past) scripts _ c.of-bytes.result _ c.of-bytes.ensures
    (is_wrong _ _ _ _ _ _ _ _ _ _ _ _ made _
    (λ run behind. subst (λ (f : Fault). IsFirstAfter run trace f) (sym c.in-Err-Refused.fault-is)
    (rw c.in-Err-Refused.field-0-is at (c.in-Err-Refused.ensures.first run behind))))
