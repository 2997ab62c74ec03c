use Rattle.std.proofs.Common.{◌/◌, ℕ, List, length, ap, subst, arith}
use Rattle.std.proofs.lemmas.List.{length-append}
use Rattle.nr_trace.specs.inside.Reading.{ArePlaced}
use Rattle.nr_trace.proofs.Spelled.{front_of}
use Rattle.nr_trace.proofs.Taken.{as_many_places, places_in_range, places_taken}
use Rattle.nr_trace.proofs.reading.lists.take_places.Goals as goal

pub at_log-requires-clause-in_range : goal.at_log-requires-clause-in_range
at_log-requires-clause-in_range c =
    let placed = subst (λ (l : List ℕ). ArePlaced l c.args.run.now c.push_places.new.log.items) c.make_room.ensures.same c.in_ok-push_places.ensures in
    places_in_range c.args.parts c.push_places.new.log c.args.run.now c.requires.run.count c.requires.ready.0 placed c.requires.run.all
    (omega (arith, c.requires.run.few, c.requires.ready.2))

pub at_log-requires-clause-few_places : goal.at_log-requires-clause-few_places
at_log-requires-clause-few_places c =
    let placed = subst (λ (l : List ℕ). ArePlaced l c.args.run.now c.push_places.new.log.items) c.make_room.ensures.same c.in_ok-push_places.ensures in
    omega (
      arith,
      c.requires.run.few,
      c.requires.run.all,
      c.requires.ready.2,
      ap length placed.added,
      length-append c.args.parts.log.items placed.calls,
      as_many_places c.args.parts.log.items c.args.run.now c.push_places.new.log.items c.requires.run.count placed c.requires.run.all,
    )

pub returns : goal.returns
returns c =
    let parts = c.args.parts in
    let placed = subst (λ (l : List ℕ). ArePlaced l c.args.run.now c.push_places.new.log.items) c.make_room.ensures.same c.in_ok-push_places.ensures in
    places_taken parts.form parts.version parts.layout (λ n. front_of parts n c.args.events) c.args.places c.args.events parts.log.items
    c.push_places.new.log.items parts.events.items parts.dumps.items
    c.args.run.now (length c.args.run.now / 4) c.at_log.result
    (omega (arith, c.requires.run.few, c.requires.run.all)) (omega (arith, c.requires.run.all)) c.requires.ready.4 c.requires.ready.5 placed c.at_log.ensures
