use Rattle.std.proofs.Common.{rules, ◌≡◌, ◌+◌, ◌*◌, ◌≤◌, ℕ, List, [], ◌∷◌, Some, length, set, refl, ap, sym, subst, ◌∙◌, arith}
use Rattle.std.specs.Prelude.{slice_index}
use Rattle.version_cell.specs.Passes.{CellPass}
use Rattle.nr_ring.specs.Calls.{HasLooked, HasMoved, with_events}
use Rattle.nr_ring.specs.LogHistory.{HasRoom, MayAppend, log_after, tail}
use Rattle.nr_ring.specs.Words.{last_ring, stored_after}
use Rattle.nr_ring.specs.declared.ring.log_event.LogEvent.{LogEvent}
use Rattle.nr_ring.specs.declared.ring.log_event.LogEvent.TheVariants.{Advance, Append}
use Rattle.nr_ring.specs.declared.cells.stored.Stored.{Stored}
use Rattle.nr_ring.specs.declared.ring.view.View.{View}
use Rattle.nr_ring.specs.inside.Batch.{AreStored, IsWritten}
use Rattle.nr_ring.specs.inside.Codes.{code_in, code_of, locals_in}
use Rattle.nr_ring.specs.inside.Held.{LeadTo, Remembers}
use Rattle.nr_ring.proofs.Advances.{low_replica}
use Rattle.nr_ring.proofs.Exchanges.{both_stored}
use Rattle.nr_ring.proofs.FirstWords.{head_is, head_small}
use Rattle.nr_ring.proofs.Leads.{both_coded, both_lead, can_take}
use Rattle.nr_ring.proofs.Passes.{remembers_still}
use Rattle.nr_ring.proofs.ring.ring_log.RingLog.try_append_and_take.Goals as goal

pub write-requires : goal.write-requires
write-requires g c =
    let back = sym c.read.ensures.same in
    let Is : CellPass View Stored → Type 0 = λ p.
    Remembers g.J.LogName.depth g.J.LogName.replicas g.J.LogName.passes g.J.LogName.places (Some c.args.replica) c.args.ring p in
    let May : CellPass View Stored → Type 0 = λ p. MayAppend g.J.LogName.depth (log_after g.J.LogName.replicas p.view.seen) c.args.batch.now in (
      search rules,
      (
        ap (λ (p : CellPass View Stored). p.cell) c.read.ensures.same ∙ c.requires.log,
        (
          (Some c.args.replica, subst Is back c.requires.known),
          (ap (λ (p : CellPass View Stored). p.fresh) c.read.ensures.same ∙ c.requires.fresh, subst May back c.requires.may),
        ),
      ),
    )

pub overflow_add-tail : goal.overflow_add-tail
overflow_add-tail g c =
    let back = sym c.read.ensures.same in
    let same = c.write.ensures.same in
    let Is : CellPass View Stored → Type 0 = λ p.
    Remembers g.J.LogName.depth g.J.LogName.replicas g.J.LogName.passes g.J.LogName.places (Some c.args.replica) c.args.ring p in
    let old = subst Is back c.requires.known in
    let is = remembers_still _ _ _ _ (Some c.args.replica) c.args.ring c.read.new.pass c.write.new.pass old same.2 same.3 same.5
    (c.write.ensures.written.long ∙ sym old.own_long) in
    let small = head_small _ _ _ _ (Some c.args.replica) c.args.ring c.write.new.pass is c.head-head.result.now c.head-head.ensures in
    omega (arith, small.tails 0 (omega arith), c.requires.may.few)

pub advanced_code-code-requires : goal.advanced_code-code-requires
advanced_code-code-requires g c =
    let back = sym c.read.ensures.same in
    let same = c.write.ensures.same in
    let Is : CellPass View Stored → Type 0 = λ p.
    Remembers g.J.LogName.depth g.J.LogName.replicas g.J.LogName.passes g.J.LogName.places (Some c.args.replica) c.args.ring p in
    let old = subst Is back c.requires.known in
    let is = remembers_still _ _ _ _ (Some c.args.replica) c.args.ring c.read.new.pass c.write.new.pass old same.2 same.3 same.5
    (c.write.ensures.written.long ∙ sym old.own_long) in
    let small = head_small _ _ _ _ (Some c.args.replica) c.args.ring c.write.new.pass is c.head-head.result.now c.head-head.ensures in
    let head = head_is _ _ _ _ (Some c.args.replica) c.args.ring c.write.new.pass is c.head-head.result.now c.head-head.ensures in
    let end = ap (λ (v : View). tail (log_after g.J.LogName.replicas v.seen)) (same.2 ∙ ap (λ (p : CellPass View Stored). p.view) c.read.ensures.same) in
    let low : slice_index c.head-head.result.now 0 + length c.args.batch.now ≤ 16106127360 = omega (arith, c.requires.may.room, head.tail_is, end) in
    record {
      replica = low_replica _ _ _ _ c.args.replica c.args.ring c.write.new.pass is;
      small = (small, low, low, omega (arith, c.from.ensures, is.ring_below, is.few_rings));
    }

pub exchange-requires : goal.exchange-requires
exchange-requires g c =
    let depth = g.J.LogName.depth in
    let replicas = g.J.LogName.replicas in
    let passes = g.J.LogName.passes in
    let places = g.J.LogName.places in
    let r = c.args.replica in
    let ring = c.args.ring in
    let batch = c.args.batch.now in
    let p = c.read.new.pass in
    let q = c.write.new.pass in
    let head = c.head-head.result.now in
    let code = c.advanced_code-code.result in
    let back = sym c.read.ensures.same in
    let same = c.write.ensures.same in
    let Is : CellPass View Stored → Type 0 = λ p. Remembers depth replicas passes places (Some r) ring p in
    let old = subst Is back c.requires.known in
    let is = remembers_still depth replicas passes places (Some r) ring p q old same.2 same.3 same.5 (c.write.ensures.written.long ∙ sym old.own_long) in
    let shown : q.view ≡ c.args.pass.now.view = same.2 ∙ ap (λ (p : CellPass View Stored). p.view) c.read.ensures.same in
    let May : View → Type 0 = λ v. MayAppend depth (log_after replicas v.seen) batch in
    let may = subst May (sym shown) c.requires.may in
    let Fits : View → Type 0 = λ v. HasRoom places (log_after replicas v.seen) (length batch) in
    let room = subst Fits (sym shown) c.requires.room in
    let Written : View × Stored → Type 0 = λ z. IsWritten ring (last_ring z.1) (tail (log_after replicas z.0.seen)) (length batch) batch q.own in
    let written = subst Written (λ i. (sym same.2 i, sym same.3 i)) c.write.ensures.written in
    let t = slice_index head 0 + length batch in
    let code_is : code ≡ code_of t (set (locals_in head) r t) (slice_index head 6) * 128 + ring =
    c.advanced_code-code.ensures ∙ ap (λ (z : ℕ). code_of t (set (locals_in head) r t) (slice_index head 6) * 128 + z) c.from.ensures in
    let coded = both_coded depth replicas passes places r ring q is head batch t code c.head-head.ensures may refl code_is in
    let leads = both_lead depth replicas passes places r ring q is batch may room in
    let to = tail (log_after replicas q.view.seen) + length batch in
    let can = can_take depth replicas passes places r ring q is batch may in
    let stored = both_stored depth replicas passes places (Some r) ring q batch r to is written can in
    let Both : View → List LogEvent = λ v. Append batch ∷ Advance r (tail (log_after replicas v.seen) + length batch) ∷ [] in
    let events = ap Both shown ∙ sym c.requires.event.0 in
    let event : ◌≡◌ {A = ℕ × List LogEvent} (ring, Both q.view) (g.E.Happening.ring, g.E.Happening.events) = λ i. (sym c.requires.event.1 i, events i) in
    let Coded : ℕ × List LogEvent → Type 0 = λ z. code ≡ code_in replicas (stored_after z.0 q.value z.1) in
    let Leads : ℕ × List LogEvent → Type 0 = λ z. LeadTo depth replicas places q.view z.1 in
    let Are : ℕ × List LogEvent → Type 0 = λ z. AreStored replicas z.0 z.1 q in (
      search rules,
      (
        same.0 ∙ ap (λ (p : CellPass View Stored). p.cell) c.read.ensures.same ∙ c.requires.log,
        (
          (Some r, ring, is),
          (
            omega (arith, ap (λ (es : List LogEvent). length es) c.requires.event.0),
            (omega (arith, c.requires.event.1, is.ring_below), (subst Coded event coded, (subst Leads event leads, subst Are event stored))),
          ),
        ),
      ),
    )

pub returns-then-exchange-clause-view : goal.returns-then-exchange-clause-view
returns-then-exchange-clause-view g c =
    let shown = c.write.ensures.same.2 ∙ ap (λ (p : CellPass View Stored). p.view) c.read.ensures.same in
    c.if-exchange.ensures.view ∙ ap (λ (v : View). with_events v g.E.Happening.events) shown

pub returns-then-exchange-clause-known : goal.returns-then-exchange-clause-known
returns-then-exchange-clause-known g c =
    let Is : CellPass View Stored → Type 0 = λ p.
    Remembers g.J.LogName.depth g.J.LogName.replicas g.J.LogName.passes g.J.LogName.places (Some c.args.replica) c.args.ring p in
    let same = c.write.ensures.same in
    let old = subst Is (sym c.read.ensures.same) c.requires.known in
    c.exchange.ensures.known (Some c.args.replica) c.args.ring
    (remembers_still _ _ _ _ (Some c.args.replica) c.args.ring c.read.new.pass c.write.new.pass old same.2 same.3 same.5
    (c.write.ensures.written.long ∙ sym old.own_long))

pub returns-clause-view : goal.returns-clause-view
returns-clause-view g c =
    let after = c.exchange.new.pass.view in
    let shown = c.write.ensures.same.2 ∙ ap (λ (p : CellPass View Stored). p.view) c.read.ensures.same in
    let Moved : View → Type 0 = λ v. HasLooked g.J.LogName.depth g.J.LogName.replicas v after × HasMoved v after in
    subst Moved shown c.if-exchange.ensures.view

pub returns-clause-known : goal.returns-clause-known
returns-clause-known g c =
    let Is : CellPass View Stored → Type 0 = λ p.
    Remembers g.J.LogName.depth g.J.LogName.replicas g.J.LogName.passes g.J.LogName.places (Some c.args.replica) c.args.ring p in
    let same = c.write.ensures.same in
    let old = subst Is (sym c.read.ensures.same) c.requires.known in
    c.exchange.ensures.known (Some c.args.replica) c.args.ring
    (remembers_still _ _ _ _ (Some c.args.replica) c.args.ring c.read.new.pass c.write.new.pass old same.2 same.3 same.5
    (c.write.ensures.written.long ∙ sym old.own_long))
