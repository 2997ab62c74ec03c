use Rattle.std.proofs.Common.{◌≡◌, List, All, ap, sym, subst}
use Rattle.std.specs.Prelude.{◌↔◌}
use Rattle.vs_types.specs.Config.{Layout}
use Rattle.nr_trace.specs.Recording.{Recording, IsEvent}
use Rattle.nr_trace.specs.Versions.{FitsFirst}
use Rattle.nr_trace.specs.declared.recordings.event.Event.{Event}
use Rattle.nr_trace.specs.declared.formats.version.Version.TheVariants.{V1, V2}
use Rattle.nr_record.specs.Events.{AreEventsOf}
use Rattle.nr_record.proofs.ending.finish.Goals as goal

pub of_run-requires-clause-events : goal.of_run-requires-clause-events
of_run-requires-clause-events c = (
  c.in_ok-events.ensures.count,
  subst (λ (layout : Layout). All (IsEvent V2 layout) c.in_ok-events.events.items) (sym c.requires.config) c.in_ok-events.ensures.fit,
)

pub returns : goal.returns
returns c =
    let trace = c.of_run.result in
    let made = c.of_run.ensures in
    let layout = ap (λ (t : Recording). t.layout) made.run in
    let events = ap (λ (t : Recording). t.events) made.run in
    record {
      recorded = subst (λ (es : List Event). AreEventsOf es c.args.pens.items) (sym events) c.in_ok-events.ensures.events;
      handed_in = (layout, ap (λ (t : Recording). t.log) made.run, ap (λ (t : Recording). t.dumps) made.run);
      of_trace = made.of_trace;
      version = subst (λ (es : List Event). (trace.version ≡ V1) ↔ FitsFirst trace.layout.depth es) (sym events)
          (subst (λ (l : Layout). (trace.version ≡ V1) ↔ FitsFirst l.depth c.in_ok-events.events.items) (sym layout) made.version);
    }
