use Rattle.std.proofs.Common.{sym, subst}
use Rattle.nr_trace.specs.Versions.{IsVersionOf}
use Rattle.nr_trace.specs.declared.formats.version.Form.TheVariants as forms
use Rattle.nr_serve.proofs.Segments.{follows}
use Rattle.nr_serve.proofs.endings.segment_ending.written_segment.Goals as goal

pub returns-clause-spelled : goal.returns-clause-spelled
returns-clause-spelled c before laid =
    let made = c.in_ok-trace.ensures in
    c.in_ok-bytes.ensures.spells (forms.Segment before) (subst (IsVersionOf (forms.Segment before)) (sym made.segment.0) tt)
    (follows before c.args.config c.in_ok-trace.trace.layout laid made.handed_in.0)
