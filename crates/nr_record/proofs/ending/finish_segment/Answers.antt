use Rattle.std.proofs.Common.{List, All, ap, sym, subst}
use Rattle.vs_types.specs.Config.{Layout}
use Rattle.nr_trace.specs.Recording.{Recording, IsEvent}
use Rattle.nr_trace.specs.declared.recordings.event.Event.{Event}
use Rattle.nr_trace.specs.declared.formats.version.Version.TheVariants.{V2}
use Rattle.nr_record.specs.Events.{AreEventsOf}
use Rattle.nr_record.proofs.ending.finish_segment.Goals as goal

pub segment_of-requires-clause-events : goal.segment_of-requires-clause-events
segment_of-requires-clause-events c = (
  c.in_ok-events.ensures.count,
  subst (λ (layout : Layout). All (IsEvent V2 layout) c.in_ok-events.events.items) (sym c.requires.config) c.in_ok-events.ensures.fit,
)

pub returns : goal.returns
returns c =
    let made = c.segment_of.ensures in
    record {
      recorded = subst (λ (es : List Event). AreEventsOf es c.args.pens.items) (sym (ap (λ (t : Recording). t.events) made)) c.in_ok-events.ensures.events;
      handed_in = (ap (λ (t : Recording). t.layout) made, ap (λ (t : Recording). t.log) made, ap (λ (t : Recording). t.dumps) made);
      segment = (ap (λ (t : Recording). t.version) made, ap (λ (t : Recording). t.start) made);
    }
