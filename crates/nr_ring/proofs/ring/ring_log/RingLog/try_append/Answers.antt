use Rattle.std.proofs.Common.{rules, ◌≡◌, ◌+◌, ◌*◌, ℕ, List, [], ◌∷◌, length, refl, ap, sym, subst, ◌∙◌, arith}
use Rattle.std.specs.Prelude.{slice_index}
use Rattle.nr_ring.specs.LogHistory.{HasRoom, MayAppend, log_after, tail}
use Rattle.nr_ring.specs.Words.{last_ring, stored_after}
use Rattle.nr_ring.specs.declared.ring.log_event.LogEvent.{LogEvent}
use Rattle.nr_ring.specs.declared.ring.log_event.LogEvent.TheVariants.{Append}
use Rattle.nr_ring.specs.declared.cells.stored.Stored.{Stored}
use Rattle.nr_ring.specs.declared.ring.view.View.{View}
use Rattle.nr_ring.specs.inside.Batch.{AreStored, IsWritten}
use Rattle.nr_ring.specs.inside.Codes.{code_in, code_of, locals_in}
use Rattle.nr_ring.specs.inside.Held.{LeadTo, MadeOrMoved}
use Rattle.nr_ring.proofs.Exchanges.{append_stored}
use Rattle.nr_ring.proofs.FirstWords.{head_is, head_small}
use Rattle.nr_ring.proofs.Leads.{append_coded, append_leads}
use Rattle.nr_ring.proofs.Passes.{remembers_still}
use Rattle.nr_ring.proofs.ring.ring_log.RingLog.try_append.Goals as goal

pub overflow_add-tail : goal.overflow_add-tail
overflow_add-tail g c =
    let same = c.write.ensures.same in
    let is = remembers_still _ _ _ _ c.requires.known.0 c.args.ring c.args.pass.now c.write.new.pass c.requires.known.1 same.2 same.3 same.5
    (c.write.ensures.written.long ∙ sym c.requires.known.1.own_long) in
    let small = head_small _ _ _ _ c.requires.known.0 c.args.ring c.write.new.pass is c.head-head.result.now c.head-head.ensures in
    omega (arith, small.tails 0 (omega arith), c.requires.may.few)

pub appended_code-code-requires : goal.appended_code-code-requires
appended_code-code-requires g c =
    let same = c.write.ensures.same in
    let is = remembers_still _ _ _ _ c.requires.known.0 c.args.ring c.args.pass.now c.write.new.pass c.requires.known.1 same.2 same.3 same.5
    (c.write.ensures.written.long ∙ sym c.requires.known.1.own_long) in
    let small = head_small _ _ _ _ c.requires.known.0 c.args.ring c.write.new.pass is c.head-head.result.now c.head-head.ensures in
    let head = head_is _ _ _ _ c.requires.known.0 c.args.ring c.write.new.pass is c.head-head.result.now c.head-head.ensures in
    let end = ap (λ (v : View). tail (log_after g.J.LogName.replicas v.seen)) same.2 in
    record { small = (small, omega (arith, c.requires.may.room, head.tail_is, end), omega (arith, c.from.ensures, is.ring_below, is.few_rings)) }

pub exchange-requires : goal.exchange-requires
exchange-requires g c =
    let depth = g.J.LogName.depth in
    let replicas = g.J.LogName.replicas in
    let passes = g.J.LogName.passes in
    let places = g.J.LogName.places in
    let own = c.requires.known.0 in
    let ring = c.args.ring in
    let batch = c.args.batch.now in
    let q = c.write.new.pass in
    let head = c.head-head.result.now in
    let code = c.appended_code-code.result in
    let same = c.write.ensures.same in
    let is = remembers_still depth replicas passes places own ring c.args.pass.now q c.requires.known.1 same.2 same.3 same.5
    (c.write.ensures.written.long ∙ sym c.requires.known.1.own_long) in
    let May : View → Type 0 = λ v. MayAppend depth (log_after replicas v.seen) batch in
    let may = subst May (sym same.2) c.requires.may in
    let Fits : View → Type 0 = λ v. HasRoom places (log_after replicas v.seen) (length batch) in
    let room = subst Fits (sym same.2) c.requires.room in
    let Written : View × Stored → Type 0 = λ z. IsWritten ring (last_ring z.1) (tail (log_after replicas z.0.seen)) (length batch) batch q.own in
    let written = subst Written (λ i. (sym same.2 i, sym same.3 i)) c.write.ensures.written in
    let code_is : code ≡ code_of (slice_index head 0 + length batch) (locals_in head) (slice_index head 6) * 128 + ring =
    c.appended_code-code.ensures
    ∙ ap (λ (z : ℕ). code_of (slice_index head 0 + length batch) (locals_in head) (slice_index head 6) * 128 + z) c.from.ensures in
    let coded = append_coded depth replicas passes places own ring q is head batch (slice_index head 0 + length batch) code c.head-head.ensures
    may.some refl code_is in
    let leads = append_leads depth replicas passes places own ring q is batch may room in
    let stored = append_stored depth replicas passes places own ring q batch is written in
    let event : ◌≡◌ {A = ℕ × List LogEvent} (ring, Append batch ∷ []) (g.E.Happening.ring, g.E.Happening.events) =
    λ i. (sym c.requires.event.1 i, sym c.requires.event.0 i) in
    let Coded : ℕ × List LogEvent → Type 0 = λ z. code ≡ code_in replicas (stored_after z.0 q.value z.1) in
    let Leads : ℕ × List LogEvent → Type 0 = λ z. LeadTo depth replicas places q.view z.1 in
    let Are : ℕ × List LogEvent → Type 0 = λ z. AreStored replicas z.0 z.1 q in (
      search rules,
      (
        same.0 ∙ c.requires.log,
        (
          (own, ring, is),
          (
            omega (arith, ap (λ (es : List LogEvent). length es) c.requires.event.0),
            (omega (arith, c.requires.event.1, is.ring_below), (subst Coded event coded, (subst Leads event leads, subst Are event stored))),
          ),
        ),
      ),
    )

pub returns-clause-view : goal.returns-clause-view
returns-clause-view g c =
    let Tells : View → Type 0 = λ v. MadeOrMoved g.J.LogName.depth g.J.LogName.replicas g.E.Happening.events v c.exchange.new.pass.view c.exchange.result in
    subst Tells c.write.ensures.same.2 c.exchange.ensures.view

pub returns-clause-known : goal.returns-clause-known
returns-clause-known g c = λ replica is.
    let same = c.write.ensures.same in
    c.exchange.ensures.known replica c.args.ring
    (remembers_still _ _ _ _ replica c.args.ring c.args.pass.now c.write.new.pass is same.2 same.3 same.5 (c.write.ensures.written.long ∙ sym is.own_long))
