use Rattle.std.proofs.Common.{rules, ◌≡◌, ◌≤◌, List, Some, length, ap, sym, subst, ◌∙◌, arith}
use Rattle.std.specs.Prelude.{slice_index}
use Rattle.version_cell.specs.Passes.{CellPass}
use Rattle.nr_ring.specs.Calls.{HasLooked, HasMoved, with_events}
use Rattle.nr_ring.specs.LogHistory.{MayAdvance, log_after, tail}
use Rattle.nr_ring.specs.Words.{stored_after}
use Rattle.nr_ring.specs.declared.ring.log_event.LogEvent.{LogEvent}
use Rattle.nr_ring.specs.declared.cells.stored.Stored.{Stored}
use Rattle.nr_ring.specs.declared.ring.view.View.{View}
use Rattle.nr_ring.specs.inside.Batch.{AreStored}
use Rattle.nr_ring.specs.inside.Codes.{code_in}
use Rattle.nr_ring.specs.inside.Held.{LeadTo, Remembers}
use Rattle.nr_ring.proofs.Advances.{low_replica}
use Rattle.nr_ring.proofs.Exchanges.{advance_stored}
use Rattle.nr_ring.proofs.FirstWords.{head_is, head_small}
use Rattle.nr_ring.proofs.Leads.{advance_coded, advance_leads}
use Rattle.nr_ring.proofs.ring.ring_log.RingLog.try_take.Goals as goal

pub advanced_code-code-requires-clause-replica : goal.advanced_code-code-requires-clause-replica
advanced_code-code-requires-clause-replica g c = low_replica _ _ _ _ c.args.replica c.requires.known.0 c.args.pass.now c.requires.known.1

pub advanced_code-code-requires-clause-small : goal.advanced_code-code-requires-clause-small
advanced_code-code-requires-clause-small g c =
    let Is : CellPass View Stored → Type 0 =
    λ p. Remembers g.J.LogName.depth g.J.LogName.replicas g.J.LogName.passes g.J.LogName.places (Some c.args.replica) c.requires.known.0 p in
    let is = subst Is (sym c.read.ensures.same) c.requires.known.1 in
    let mine = c.requires.known.0 in
    let p = c.read.new.pass in
    let small = head_small _ _ _ _ (Some c.args.replica) mine p is c.head-head.result.now c.head-head.ensures in
    let head = head_is _ _ _ _ (Some c.args.replica) mine p is c.head-head.result.now c.head-head.ensures in
    let end = ap (λ (p : CellPass View Stored). tail (log_after g.J.LogName.replicas p.view.seen)) c.read.ensures.same in
    let tail_low = small.tails 0 (omega arith) in
    let low : c.args.to ≤ 16106127360 = omega (arith, tail_low, head.tail_is, end, c.requires.to) in
    (small, low, low, small.last)

pub exchange-requires : goal.exchange-requires
exchange-requires g c =
    let depth = g.J.LogName.depth in
    let replicas = g.J.LogName.replicas in
    let passes = g.J.LogName.passes in
    let places = g.J.LogName.places in
    let r = c.args.replica in
    let to = c.args.to in
    let ring = g.E.Happening.ring in
    let p = c.read.new.pass in
    let mine = c.requires.known.0 in
    let back = sym c.read.ensures.same in
    let Is : CellPass View Stored → Type 0 = λ p. Remembers depth replicas passes places (Some r) mine p in
    let May : CellPass View Stored → Type 0 = λ p. MayAdvance (log_after replicas p.view.seen) r to in
    let End : CellPass View Stored → Type 0 = λ p. to ≡ tail (log_after replicas p.view.seen) in
    let is = subst Is back c.requires.known.1 in
    let may = subst May back c.requires.may in
    let head = c.head-head.result.now in
    let code = c.advanced_code-code.result in
    let event = sym c.requires.event.0 in
    let end : to ≡ slice_index head 0 = subst End back c.requires.to
    ∙ sym (head_is depth replicas passes places (Some r) mine p is head c.head-head.ensures).tail_is in
    let coded = advance_coded depth replicas passes places r mine p is ring head to to code c.head-head.ensures may end c.advanced_code-code.ensures in
    let leads = advance_leads depth replicas passes places r mine p is to may in
    let stored = advance_stored depth replicas passes places (Some r) mine ring p r to is may in
    let Coded : List LogEvent → Type 0 = λ events. code ≡ code_in replicas (stored_after ring p.value events) in
    let Leads : List LogEvent → Type 0 = λ events. LeadTo depth replicas places p.view events in
    let Are : List LogEvent → Type 0 = λ events. AreStored replicas ring events p in (
      search rules,
      (
        ap (λ (p : CellPass View Stored). p.cell) c.read.ensures.same ∙ c.requires.log,
        (
          (Some r, mine, is),
          (
            omega (arith, ap (λ (es : List LogEvent). length es) c.requires.event.0),
            (c.requires.event.1, (subst Coded event coded, (subst Leads event leads, subst Are event stored))),
          ),
        ),
      ),
    )

pub returns-then-exchange-clause-view : goal.returns-then-exchange-clause-view
returns-then-exchange-clause-view g c =
    c.if-exchange.ensures.view ∙ ap (λ (p : CellPass View Stored). with_events p.view g.E.Happening.events) c.read.ensures.same

pub returns-then-exchange-clause-known : goal.returns-then-exchange-clause-known
returns-then-exchange-clause-known g c = λ ring is.
    let Is : CellPass View Stored → Type 0 = λ p. Remembers g.J.LogName.depth g.J.LogName.replicas g.J.LogName.passes g.J.LogName.places
    (Some c.args.replica) ring p in
    c.exchange.ensures.known (Some c.args.replica) ring (subst Is (sym c.read.ensures.same) is)

pub returns-clause-view : goal.returns-clause-view
returns-clause-view g c =
    let after = c.exchange.new.pass.view in
    let Moved : CellPass View Stored → Type 0 = λ p. HasLooked g.J.LogName.depth g.J.LogName.replicas p.view after × HasMoved p.view after in
    subst Moved c.read.ensures.same c.if-exchange.ensures.view

pub returns-clause-known : goal.returns-clause-known
returns-clause-known g c = λ ring is.
    let Is : CellPass View Stored → Type 0 = λ p. Remembers g.J.LogName.depth g.J.LogName.replicas g.J.LogName.passes g.J.LogName.places
    (Some c.args.replica) ring p in
    c.exchange.ensures.known (Some c.args.replica) ring (subst Is (sym c.read.ensures.same) is)
