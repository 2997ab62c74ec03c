use Rattle.std.proofs.Common.{ap, subst, ◌∙◌}
use Rattle.nr_trace.specs.Feed.{EndsRefused, FedSegment}
use Rattle.nr_trace.specs.inside.Feeding.{IsFeeding}
use Rattle.nr_trace.specs.declared.formats.version.Form.TheVariants as forms
use Rattle.nr_trace.proofs.Feeding.{ends_refused, not_stopped}
use Rattle.nr_trace.proofs.FeedingSegments.{segment_ended_refused, segment_ends}
use Rattle.nr_trace.proofs.reading.feed.SegmentFeed.end_or_refuse.Goals as goal

pub returns-in-Open-clause-ends : goal.returns-in-Open-clause-ends
returns-in-Open-clause-ends c =
    segment_ends c.args.self c.self.inside.before c.self.inside.state c.in-Open.reader c.in-Open.begun c.ended.result c.self.view_is c.self.invariant
    c.in-Open.is c.ended.ensures

pub returns-in-Stopped-clause-ends : goal.returns-in-Stopped-clause-ends
returns-in-Stopped-clause-ends c = segment_ended_refused c.args.self c.self.inside.before c.self.inside.state c.in-Stopped.fail c.self.view_is c.in-Stopped.is

pub ended-requires : goal.ended-requires
ended-requires c = (subst (IsFeeding (forms.Segment c.self.inside.before)) c.in-Open.is c.self.invariant).1

pub returns-in-Open-clause-refused : goal.returns-in-Open-clause-refused
returns-in-Open-clause-refused c =
    subst (λ (f : FedSegment). EndsRefused (forms.Segment f.before) f.pieces c.ended.result) c.self.view_is
    (ends_refused (forms.Segment c.self.inside.before) c.self.inside.state c.in-Open.reader c.in-Open.begun c.ended.result c.self.invariant c.in-Open.is
    c.ended.ensures)

pub returns-in-Stopped-clause-refused : goal.returns-in-Stopped-clause-refused
returns-in-Stopped-clause-refused c = λ bytes view.
    not_stopped c.self.inside.state bytes c.in-Stopped.fail (ap (λ (f : FedSegment). f.pieces) c.self.view_is ∙ view) c.in-Stopped.is
