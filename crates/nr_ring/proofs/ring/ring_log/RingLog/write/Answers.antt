use Rattle.std.proofs.Common.{rules, ◌≡◌, ◌+◌, ◌-◌, ◌*◌, ◌^◌, ◌<◌, ◌≤◌, ℕ, zero, suc, List, Some, Fits, w64, length, set, refl, ap, sym, subst, ◌∙◌, arith}
use Rattle.std.specs.Prelude.{slice_index}
use Rattle.std.proofs.Math.ListN.{length-set}
use Rattle.std.proofs.lemmas.Option.{slice_get-get_or}
use Rattle.vs_types.specs.LogEntry.{IsLogEntry, log_words}
use Rattle.vs_types.specs.declared.log_entry.LogEntry.{LogEntry}
use Rattle.nr_ring.specs.LogHistory.{log_after, tail}
use Rattle.nr_ring.specs.Words.{Needs, link, last_ring, spot, stored_words}
use Rattle.nr_ring.specs.declared.cells.stored.Stored.{Stored}
use Rattle.nr_ring.specs.inside.Batch.{IsWritten}
use Rattle.nr_ring.proofs.Batches.{nothing_written, one_more_written, unneeded}
use Rattle.nr_ring.proofs.Fetches.{rest_low}
use Rattle.nr_ring.proofs.FirstWords.{before_low, head_is}
use Rattle.nr_ring.proofs.ring.ring_log.RingLog.write.Goals as goal

pub loop-entry-init : goal.loop-entry-init
loop-entry-init g c =
    let is = c.requires.known.1 in
    let head = head_is g.J.LogName.depth g.J.LogName.replicas g.J.LogName.passes g.J.LogName.places c.requires.known.0 c.args.ring c.args.pass.now is
    c.head-head.result.now
    c.head-head.ensures in
    record {
      cell = refl;
      number = refl;
      view = refl;
      value = refl;
      fresh = c.requires.fresh;
      from = refl;
      place = omega (arith, head.tail_is);
      before = head.last_is;
      written = nothing_written c.args.ring (last_ring c.args.pass.now.value) (tail (log_after g.J.LogName.replicas c.args.pass.now.view.seen)) c.args.batch.now
          c.args.pass.now.own is.own_long;
    }

-- the ring of the entry before one of a batch
linked_low : (before ring i passes : ℕ) → before < passes → ring < passes → link before ring i < passes
linked_low before ring zero passes low low' = low
linked_low before ring (suc i) passes low low' = low'

-- the two places of an entry are of the pass's ring
here : (from ring passes place at k : ℕ) (own : List ℕ) → from ≡ 32 * ring → length own ≡ 32 → ring < passes → at ≡ spot ring place + k → k < 2
    → (at < 32 * passes) × ((from ≤ at) × (at < from + length own))
here from ring passes place at k own from_is long low at_is two = (omega arith, (omega arith, omega arith))

pub store-requires : goal.store-requires
store-requires g c =
    let replicas = g.J.LogName.replicas in
    let is = c.requires.known.1 in
    let l = c.loop-entry.invariant in
    let end = tail (log_after replicas c.args.pass.now.view.seen) in
    let at : c.spot-at.result ≡ spot c.args.ring (end + c.loop-entry.entry-index) + 0 =
    c.spot-at.ensures ∙ ap (λ (r : ℕ). spot r c.loop-entry.place) c.from-own.ensures ∙ ap (λ (p : ℕ). spot c.args.ring p) l.place ∙ omega arith in
    let two : 0 < 2 = omega arith in
    let it = here c.loop-entry.pass.from c.args.ring g.J.LogName.passes (end + c.loop-entry.entry-index) c.spot-at.result 0 c.loop-entry.pass.own
    (l.from ∙ is.from_is) l.written.long is.ring_below at two in
    let Unneeded : Stored → Type 0 = λ value. (other : ℕ) → Needs replicas value c.spot-at.result other → ⊥ in
    let none = unneeded g.J.LogName.depth replicas g.J.LogName.passes g.J.LogName.places c.requires.known.0 c.args.ring c.args.pass.now c.args.batch.now
    c.loop-entry.entry-index 0 c.spot-at.result is c.requires.may c.loop-entry-test.true two at in (
      search rules,
      (
        search rules,
        (
          l.cell ∙ c.requires.log ∙ sym c.self.view_is,
          (omega (arith, it.0, c.self.invariant.1), (it.1, (l.fresh, subst Unneeded (sym l.value) none))),
        ),
      ),
    )

pub overflow_add-rest : goal.overflow_add-rest
overflow_add-rest g c =
    let replicas = g.J.LogName.replicas in
    let is = c.requires.known.1 in
    let l = c.loop-entry.invariant in
    let entry = c.entry-item.result in
    let fit = c.requires.may.entries c.loop-entry.entry-index entry c.loop-entry-test.true in
    let Fit : LogEntry → Type 0 = λ e. IsLogEntry g.J.LogName.depth e in
    let low = rest_low g.J.LogName.depth entry (subst Fit (sym c.entry-item.is) fit) in
    let before = linked_low (last_ring c.args.pass.now.value) c.args.ring c.loop-entry.entry-index g.J.LogName.passes
    (before_low g.J.LogName.depth replicas g.J.LogName.passes g.J.LogName.places c.requires.known.0 c.args.ring c.args.pass.now is
    (length c.args.pass.now.value.rings))
    is.ring_below in
    let rest : slice_index c.words.result 1 ≡ slice_index (log_words entry) 1 = ap (λ (ws : List ℕ). slice_index ws 1) c.words.ensures.spell in
    fits (slice_index c.words.result 1) c.loop-entry.before (omega (arith, low, rest)) (omega (arith, before, l.before, is.few_rings)) where
      fits : (rest before : ℕ) → rest < 2 ^ 56 → before < 128 → Fits w64 (rest + before * 72057594037927936)
      fits rest before low small = omega arith

pub store-requires-in-loop-entry : goal.store-requires-in-loop-entry
store-requires-in-loop-entry g c =
    let replicas = g.J.LogName.replicas in
    let is = c.requires.known.1 in
    let l = c.loop-entry.invariant in
    let first = c.store.ensures.same in
    let end = tail (log_after replicas c.args.pass.now.view.seen) in
    let at : c.spot-at.result + 1 ≡ spot c.args.ring (end + c.loop-entry.entry-index) + 1 =
    ap (λ (n : ℕ). n + 1) (c.spot-at.ensures ∙ ap (λ (r : ℕ). spot r c.loop-entry.place) c.from-own.ensures ∙ ap (λ (p : ℕ). spot c.args.ring p) l.place) in
    let two : 1 < 2 = omega arith in
    let it = here c.loop-entry.pass.from c.args.ring g.J.LogName.passes (end + c.loop-entry.entry-index) (c.spot-at.result + 1) 1 c.loop-entry.pass.own
    (l.from ∙ is.from_is) l.written.long is.ring_below at two in
    let Unneeded : Stored → Type 0 = λ value. (other : ℕ) → Needs replicas value (c.spot-at.result + 1) other → ⊥ in
    let none = unneeded g.J.LogName.depth replicas g.J.LogName.passes g.J.LogName.places c.requires.known.0 c.args.ring c.args.pass.now c.args.batch.now
    c.loop-entry.entry-index 1 (c.spot-at.result + 1) is c.requires.may c.loop-entry-test.true two at in
    let long : length c.store.new.pass.own ≡ length c.loop-entry.pass.own =
    ap (λ (ws : List ℕ). length ws) c.store.ensures.stored
    ∙ length-set c.loop-entry.pass.own (c.spot-at.result - c.loop-entry.pass.from) (slice_index c.words.result 0) in (
      search rules,
      (
        search rules,
        (
          first.0 ∙ l.cell ∙ c.requires.log ∙ sym c.self.view_is,
          (
            omega (arith, it.0, c.self.invariant.1),
            ((omega (arith, it.1.0, first.5), omega (arith, it.1.1, first.5, long)), (first.4, subst Unneeded (sym (first.3 ∙ l.value)) none)),
          ),
        ),
      ),
    )

pub loop-entry-preserved : goal.loop-entry-preserved
loop-entry-preserved g c =
    let replicas = g.J.LogName.replicas in
    let is = c.requires.known.1 in
    let l = c.loop-entry.invariant in
    let batch = c.args.batch.now in
    let n = c.loop-entry.entry-index in
    let entry = c.entry-item.result in
    let from = c.loop-entry.pass.from in
    let own = c.loop-entry.pass.own in
    let end = tail (log_after replicas c.args.pass.now.view.seen) in
    let last = last_ring c.args.pass.now.value in
    let first = c.store.ensures.same in
    let second = c.store-in-loop-entry.ensures.same in
    let there = slice_get-get_or batch n entry c.loop-entry-test.true ∙ ap Some (sym c.entry-item.is) in
    let at : c.spot-at.result ≡ spot c.args.ring (end + n) =
    c.spot-at.ensures ∙ ap (λ (r : ℕ). spot r c.loop-entry.place) c.from-own.ensures ∙ ap (λ (p : ℕ). spot c.args.ring p) l.place in
    let start : from ≡ 32 * c.args.ring = l.from ∙ is.from_is in
    let rest : slice_index c.words.result 1 + c.loop-entry.before * 72057594037927936 ≡ slice_index (stored_words entry (link last c.args.ring n)) 1 =
    ap (λ (ws : List ℕ). slice_index ws 1 + c.loop-entry.before * 2 ^ 56) c.words.ensures.spell
    ∙ ap (λ (b : ℕ). slice_index (log_words entry) 1 + b * 2 ^ 56) l.before in
    let written = one_more_written c.args.ring last end n (c.spot-at.result - from) (c.spot-at.result + 1 - from) (slice_index c.words.result 0)
    (slice_index c.words.result 1 + c.loop-entry.before * 72057594037927936) batch entry own l.written
    (omega (arith, c.loop-entry-test.true, c.requires.may.few)) there
    (omega (arith, at, start)) (omega (arith, at, start)) (ap (λ (ws : List ℕ). slice_index ws 0) c.words.ensures.spell) rest in
    let own_is : c.store-in-loop-entry.new.pass.own
    ≡ set (set own (c.spot-at.result - from) (slice_index c.words.result 0)) (c.spot-at.result + 1 - from)
    (slice_index c.words.result 1 + c.loop-entry.before * 72057594037927936) =
    c.store-in-loop-entry.ensures.stored
    ∙ ap (λ (ws : List ℕ). set ws (c.spot-at.result + 1 - c.store.new.pass.from) (slice_index c.words.result 1 + c.loop-entry.before * 72057594037927936))
    c.store.ensures.stored
    ∙ ap (λ (f : ℕ). set (set own (c.spot-at.result - from) (slice_index c.words.result 0)) (c.spot-at.result + 1 - f)
    (slice_index c.words.result 1 + c.loop-entry.before * 72057594037927936)) first.5 in
    let Written : List ℕ → Type 0 = λ ws. IsWritten c.args.ring last end (n + 1) batch ws in
    let one_more : n + 1 ≡ suc n = omega arith in
    record {
      cell = second.0 ∙ first.0 ∙ l.cell;
      number = second.1 ∙ first.1 ∙ l.number;
      view = second.2 ∙ first.2 ∙ l.view;
      value = second.3 ∙ first.3 ∙ l.value;
      fresh = second.4;
      from = second.5 ∙ first.5 ∙ l.from;
      place = omega (arith, l.place);
      before = c.from-own.ensures ∙ ap (λ (i : ℕ). link last c.args.ring i) (sym one_more);
      written = subst Written (sym own_is) written;
    }
