use Rattle.std.proofs.Common.{subst, ◌∙◌}
use Rattle.nr_trace.specs.Feed.{EndsRefused}
use Rattle.nr_trace.specs.inside.Feeding.{IsFeeding}
use Rattle.nr_trace.specs.declared.formats.version.Form.TheVariants as forms
use Rattle.nr_trace.proofs.Feeding.{ended_before, ends, ends_refused, not_stopped}
use Rattle.nr_trace.proofs.reading.feed.Feed.end_or_refuse.Goals as goal

pub returns-in-Open-clause-ends : goal.returns-in-Open-clause-ends
returns-in-Open-clause-ends c =
    ends c.args.self c.self.inside.state c.in-Open.reader c.in-Open.begun c.ended.result c.self.view_is c.self.invariant c.in-Open.is
    c.ended.ensures

pub ended-requires : goal.ended-requires
ended-requires c = (subst (IsFeeding forms.Trace) c.in-Open.is c.self.invariant).1

pub returns-in-Open-clause-refused : goal.returns-in-Open-clause-refused
returns-in-Open-clause-refused c =
    subst (λ f. EndsRefused forms.Trace f c.ended.result) c.self.view_is
    (ends_refused forms.Trace c.self.inside.state c.in-Open.reader c.in-Open.begun c.ended.result c.self.invariant c.in-Open.is c.ended.ensures)

pub returns-in-Stopped-clause-ends : goal.returns-in-Stopped-clause-ends
returns-in-Stopped-clause-ends c = ended_before c.args.self c.self.inside.state c.in-Stopped.fail c.self.view_is c.in-Stopped.is

pub returns-in-Stopped-clause-refused : goal.returns-in-Stopped-clause-refused
returns-in-Stopped-clause-refused c = λ bytes view. not_stopped c.self.inside.state bytes c.in-Stopped.fail (c.self.view_is ∙ view) c.in-Stopped.is
