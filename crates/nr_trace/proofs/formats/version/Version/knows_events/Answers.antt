use Rattle.std.proofs.Common.{subst, ◌∙◌}
use Rattle.std.proofs.lemmas.List.Elements.{All-more}
use Rattle.nr_trace.specs.Versions.{KnowsEvent}
use Rattle.nr_trace.proofs.formats.version.Version.knows_events.Goals as goal

pub loop-event-preserved : goal.loop-event-preserved
loop-event-preserved c =
    All-more (KnowsEvent c.args.self) c.args.events.now c.loop-event.event-index c.event-item.result c.loop-event-test.true c.loop-event.invariant
    (subst (KnowsEvent c.args.self) (c.event.ensures ∙ c.event-item.is) (c.knows_event.ensures.0 c.if-not-knows_event.false))
