use Rattle.std.proofs.Common.{rules, ◌≡◌, ◌+◌, ◌*◌, ℕ, List, Some, length, set, refl, ap, sym, subst, ◌∙◌, arith}
use Rattle.std.specs.Prelude.{slice_index}
use Rattle.nr_ring.specs.Words.{stored_after}
use Rattle.nr_ring.specs.declared.ring.log_event.LogEvent.{LogEvent}
use Rattle.nr_ring.specs.inside.Batch.{AreStored}
use Rattle.nr_ring.specs.inside.Codes.{code_in, code_of, locals_in}
use Rattle.nr_ring.specs.inside.Held.{LeadTo}
use Rattle.nr_ring.proofs.Advances.{low_replica}
use Rattle.nr_ring.proofs.Exchanges.{advance_stored}
use Rattle.nr_ring.proofs.FirstWords.{head_is, head_small}
use Rattle.nr_ring.proofs.Leads.{advance_coded, advance_leads}
use Rattle.nr_ring.proofs.ring.ring_log.RingLog.try_advance.Goals as goal

pub advanced_code-code-requires-clause-replica : goal.advanced_code-code-requires-clause-replica
advanced_code-code-requires-clause-replica g c = low_replica _ _ _ _ c.args.replica c.requires.known.0 c.args.pass.now c.requires.known.1

pub advanced_code-code-requires-clause-small : goal.advanced_code-code-requires-clause-small
advanced_code-code-requires-clause-small g c =
    let is = c.requires.known.1 in
    let mine = c.requires.known.0 in
    let p = c.args.pass.now in
    let small = head_small _ _ _ _ (Some c.args.replica) mine p is c.head-head.result.now c.head-head.ensures in
    let head = head_is _ _ _ _ (Some c.args.replica) mine p is c.head-head.result.now c.head-head.ensures in
    let tail = small.tails 0 (omega arith) in
    (small, tail, omega (arith, tail, head.tail_is, c.requires.may.written), small.last)

pub exchange-requires : goal.exchange-requires
exchange-requires g c =
    let depth = g.J.LogName.depth in
    let replicas = g.J.LogName.replicas in
    let passes = g.J.LogName.passes in
    let places = g.J.LogName.places in
    let r = c.args.replica in
    let ring = g.E.Happening.ring in
    let p = c.args.pass.now in
    let is = c.requires.known.1 in
    let mine = c.requires.known.0 in
    let head = c.head-head.result.now in
    let code = c.advanced_code-code.result in
    let event = sym c.requires.event.0 in
    let code_is : code ≡ code_of (slice_index head 0) (set (locals_in head) r c.args.to) (slice_index head 6) * 128 + slice_index head 7 =
    c.advanced_code-code.ensures in
    let coded = advance_coded depth replicas passes places r mine p is ring head c.args.to (slice_index head 0) code c.head-head.ensures
    c.requires.may refl code_is in
    let leads = advance_leads depth replicas passes places r mine p is c.args.to c.requires.may in
    let stored = advance_stored depth replicas passes places (Some r) mine ring p r c.args.to is c.requires.may in
    let Coded : List LogEvent → Type 0 = λ events. code ≡ code_in replicas (stored_after ring p.value events) in
    let Leads : List LogEvent → Type 0 = λ events. LeadTo depth replicas places p.view events in
    let Stored : List LogEvent → Type 0 = λ events. AreStored replicas ring events p in (
      search rules,
      (
        c.requires.log,
        (
          (Some r, mine, is),
          (
            omega (arith, ap (λ (es : List LogEvent). length es) c.requires.event.0),
            (c.requires.event.1, (subst Coded event coded, (subst Leads event leads, subst Stored event stored))),
          ),
        ),
      ),
    )

pub returns-clause-known : goal.returns-clause-known
returns-clause-known g c = λ ring is. c.exchange.ensures.known (Some c.args.replica) ring is
