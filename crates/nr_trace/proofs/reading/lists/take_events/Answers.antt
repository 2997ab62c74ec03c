use Rattle.std.proofs.Common.{◌/◌, List, length, rules, ap, subst, arith}
use Rattle.std.proofs.lemmas.List.{length-append}
use Rattle.vs_types.specs.Refusal.{IfRefused}
use Rattle.nr_trace.specs.FirstFault.{AtEvents, IsRefusedBy}
use Rattle.nr_trace.specs.inside.Reading.{AreRecorded, IsBadEvent}
use Rattle.nr_trace.specs.declared.recordings.event.Event.{Event}
use Rattle.nr_trace.proofs.Spelled.{front_of}
use Rattle.nr_trace.proofs.Taken.{as_many_events, events_in_range, events_taken, events_refused}
use Rattle.nr_trace.proofs.reading.lists.take_events.Goals as goal

pub returns-in_err-push_events : goal.returns-in_err-push_events
returns-in_err-push_events c =
    let parts = c.args.parts in
    let bad = subst (λ (l : List Event). IfRefused (IsBadEvent parts.version parts.layout (length l) c.args.run.now) c.in_err-push_events.field-0.0)
    c.make_room.ensures.same c.in_err-push_events.ensures in
    let refused : IfRefused (IsRefusedBy (AtEvents parts.version parts.layout (length parts.events.items) c.args.events) c.args.run.now)
    c.in_err-push_events.field-0.0 =
    events_refused parts.version parts.layout (length parts.events.items) c.args.events c.requires.run.count c.args.run.now c.in_err-push_events.field-0.0
    c.requires.run.few c.requires.run.all bad in
    search rules

pub at_events-requires-clause-in_range : goal.at_events-requires-clause-in_range
at_events-requires-clause-in_range c =
    let parts = c.args.parts in
    let are = subst (λ (l : List Event). AreRecorded parts.version parts.layout l c.args.run.now c.push_events.new.events.items) c.make_room.ensures.same
    c.in_ok-push_events.ensures in
    events_in_range parts c.push_events.new.events c.args.run.now c.requires.run.count c.requires.ready.0 are c.requires.run.all
    (omega (arith, c.requires.run.few, c.requires.ready.2))

pub at_events-requires-clause-few_events : goal.at_events-requires-clause-few_events
at_events-requires-clause-few_events c =
    let parts = c.args.parts in
    let are = subst (λ (l : List Event). AreRecorded parts.version parts.layout l c.args.run.now c.push_events.new.events.items) c.make_room.ensures.same
    c.in_ok-push_events.ensures in
    omega (
      arith,
      c.requires.run.few,
      c.requires.run.all,
      c.requires.ready.2,
      ap length are.added,
      length-append parts.events.items are.recorded,
      as_many_events parts.version parts.layout parts.events.items c.args.run.now c.push_events.new.events.items c.requires.run.count are c.requires.run.all,
    )

pub returns : goal.returns
returns c =
    let parts = c.args.parts in
    let are = subst (λ (l : List Event). AreRecorded parts.version parts.layout l c.args.run.now c.push_events.new.events.items) c.make_room.ensures.same
    c.in_ok-push_events.ensures in
    events_taken parts.form parts.version parts.layout (front_of parts (length parts.log.items)) c.args.events parts.log.items
    parts.events.items c.push_events.new.events.items parts.dumps.items
    c.args.run.now (length c.args.run.now / 24) c.at_events.result
    (omega (arith, c.requires.run.few, c.requires.run.all)) (omega (arith, c.requires.run.all)) c.requires.ready.3 are c.at_events.ensures
