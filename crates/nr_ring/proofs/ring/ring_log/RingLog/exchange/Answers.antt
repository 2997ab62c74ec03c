use Rattle.std.proofs.Common.{rules, arith, sym, ◌∙◌}
use Rattle.nr_ring.proofs.Exchanges.{events_age, events_leave, events_rise, events_turn, exchange_tells}
use Rattle.nr_ring.proofs.Turns.{look_turns}
use Rattle.nr_ring.proofs.ring.ring_log.RingLog.exchange.Goals as goal

pub exchange_as-requires : goal.exchange_as-requires
exchange_as-requires g c =
    let depth = g.J.LogName.depth in
    let replicas = g.J.LogName.replicas in
    let passes = g.J.LogName.passes in
    let places = g.J.LogName.places in
    let ring = g.E.Happening.ring in
    let events = g.E.Happening.events in
    let pass = c.args.pass.now in
    let is = c.requires.known.2 in
    let own = c.requires.known.0 in
    let mine = c.requires.known.1 in
    let turns = events_turn depth replicas passes places own mine pass.number ring pass events is c.requires.ring c.requires.events in
    let rises = events_rise depth replicas passes places own mine ring pass events is c.requires.ring c.requires.events c.requires.some in
    let ages = events_age depth replicas passes places own mine ring pass events c.requires.some in
    let leaves = events_leave depth replicas passes places pass.number ring pass.view events pass.value c.requires.events in (
      search rules,
      (
        search rules,
        (
          c.requires.log ∙ sym c.self.view_is,
          (c.requires.code, ((omega (arith, rises, c.requires.code), ages), (turns, (c.requires.stored, (leaves, look_turns _ _ _ _ _ _))))),
        ),
      ),
    )

pub returns-clause-view : goal.returns-clause-view
returns-clause-view g c =
    (exchange_tells g.J.LogName.depth g.J.LogName.replicas g.J.LogName.passes g.J.LogName.places c.requires.known.0 c.requires.known.1
    g.E.Happening.ring c.args.pass.now
    c.exchange_as.new.pass g.E.Happening.events c.exchange_as.result c.requires.known.2 c.requires.ring c.requires.events c.exchange_as.ensures.same.2
    c.exchange_as.ensures.same.3 c.exchange_as.ensures.rule).1

pub returns-clause-known : goal.returns-clause-known
returns-clause-known g c = λ replica ring is.
    (exchange_tells g.J.LogName.depth g.J.LogName.replicas g.J.LogName.passes g.J.LogName.places replica ring g.E.Happening.ring c.args.pass.now
    c.exchange_as.new.pass g.E.Happening.events c.exchange_as.result is c.requires.ring c.requires.events c.exchange_as.ensures.same.2
    c.exchange_as.ensures.same.3 c.exchange_as.ensures.rule).0
