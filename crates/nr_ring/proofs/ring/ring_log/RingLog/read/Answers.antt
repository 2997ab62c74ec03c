use Rattle.std.proofs.Common.{rules, ◌≡◌, ◌+◌, ◌-◌, ◌*◌, ◌<◌, ◌≤◌, ℕ, suc, List, [], ◌∷◌, ◌++◌, Some, length, drop, reverse, refl, ap, sym, subst, ◌∙◌, arith}
use Rattle.std.specs.Prelude.{slice_get, slice_index}
use Rattle.std.proofs.lemmas.List.{length-drop, length-reverse, reverse-reverse}
use Rattle.std.proofs.Math.ListN.{drop_of_length-le}
use Rattle.version_cell.specs.Passes.{CellPass}
use Rattle.vs_types.specs.LogEntry.{IsLogEntry}
use Rattle.vs_types.specs.declared.addresses.depth.Depth.{Depth}
use Rattle.vs_types.specs.declared.log_entry.LogEntry.{LogEntry}
use Rattle.nr_ring.specs.LogHistory.{local_of, log_after}
use Rattle.nr_ring.specs.Words.{ring_before, spot, stored_words}
use Rattle.nr_ring.specs.declared.cells.stored.Stored.{Stored}
use Rattle.nr_ring.specs.declared.ring.view.View.{View}
use Rattle.nr_ring.specs.inside.Held.{Remembers}
use Rattle.nr_ring.proofs.Fetches.{CanCountOn, counted_on, history_entries, item_holds, one_more_read, refilled, tells}
use Rattle.nr_ring.proofs.FirstWords.{Tells, before_low, head_is, ring_low}
use Rattle.nr_ring.proofs.Histories.{as_many_locals, history_fits}
use Rattle.vs_types.proofs.Lists.{item_of}
use Rattle.nr_ring.proofs.ring.ring_log.RingLog.read.Goals as goal

pub loop-place-init : goal.loop-place-init
loop-place-init g c =
    let is = c.requires.known.1 in
    let pass = c.args.pass.now in
    let log = log_after g.J.LogName.replicas pass.view.seen in
    let head = head_is g.J.LogName.depth g.J.LogName.replicas g.J.LogName.passes g.J.LogName.places (Some c.args.replica) c.requires.known.0 pass is
    c.head-head.result.now
    c.head-head.ensures in
    let all : length log.entries ≤ slice_index c.head-head.result.now 0 = omega (arith, head.tail_is) in
    let fits = history_fits g.J.LogName.depth g.J.LogName.replicas pass.view.seen is.is_history in
    let low : c.args.replica < 4 = omega (arith, is.few, is.owned_below c.args.replica refl) in
    let from_is = ap (λ (n : ℕ). slice_index c.head-head.result.now (2 + n)) c.from.ensures in
    record {
      high = omega (arith, from_is, head.locals_are c.args.replica low, head.tail_is, fits.written c.args.replica);
      same = refl;
      ring = head.last_is ∙ ap (ring_before pass.value.rings) (is.each_ring ∙ sym head.tail_is);
      entries = c.requires.empty ∙ ap (λ (l : List LogEntry). reverse l) (sym (drop_of_length-le log.entries all));
    }

pub spot-at-requires : goal.spot-at-requires
spot-at-requires g c =
    let is = c.requires.known.1 in
    let low = before_low g.J.LogName.depth g.J.LogName.replicas g.J.LogName.passes g.J.LogName.places (Some c.args.replica) c.requires.known.0 c.args.pass.now
    is c.loop-place.place in
    omega (arith, c.loop-place.invariant.ring, low, is.few_rings)

-- the entry that is read next
record IsNext (depth : Depth) (replicas passes places : ℕ) (p : CellPass View Stored) (place at : ℕ) : Type 0 where
  entry : LogEntry
  there : slice_get (log_after replicas p.view.seen).entries place ≡ Some entry
  fit : IsLogEntry depth entry
  within : at + 1 < 32 * passes
  first : CanCountOn replicas at (slice_index (stored_words entry (ring_before p.value.rings place)) 0) p
  second : CanCountOn replicas (at + 1) (slice_index (stored_words entry (ring_before p.value.rings place)) 1) p

next : (depth : Depth) (replicas passes places r mine : ℕ) (p : CellPass View Stored) (head : List ℕ) (from place ring at : ℕ)
    → Remembers depth replicas passes places (Some r) mine p → Tells replicas p.value head → from ≡ slice_index head (2 + r) → from < place
    → place ≤ slice_index head 0 → ring ≡ ring_before p.value.rings place → at ≡ spot ring (place - 1) → IsNext depth replicas passes places p (place - 1) at
next depth replicas passes places r mine p head from place ring at is told from_is low high ring_is at_is =
    let log = log_after replicas p.view.seen in
    let before = place - 1 in
    let are = head_is depth replicas passes places (Some r) mine p is head told in
    let lt : before < length log.entries = omega (arith, are.tail_is) in
    let it = item_of log.entries before lt in
    let up : place ≡ suc before = omega arith in
    let its : ring ≡ slice_index p.value.rings before = ring_is ∙ ap (ring_before p.value.rings) up in
    let here : at ≡ spot (slice_index p.value.rings before) before = at_is ∙ ap (λ (n : ℕ). spot n before) its in
    let few : r < 4 = omega (arith, is.few, is.owned_below r refl) in
    let untaken : local_of log r ≤ before = omega (arith, are.locals_are r few, from_is) in
    let both = counted_on depth replicas passes places r mine p is before it.0 untaken it.1 in
    let word : ℕ → ℕ = λ k. slice_index (stored_words it.0 (ring_before p.value.rings before)) k in
    let small = ring_low depth replicas passes places (Some r) mine p is before in
    let none : spot (slice_index p.value.rings before) before + 0 ≡ at = omega (arith, here) in
    let one : spot (slice_index p.value.rings before) before + 1 ≡ at + 1 = omega (arith, here) in
    record {
      entry = it.0;
      there = it.1;
      fit = item_holds (IsLogEntry depth) log.entries before it.0 it.1 (history_entries depth replicas p.view.seen is.is_history);
      within = omega (arith, here, small);
      first = subst (λ (n : ℕ). CanCountOn replicas n (word 0) p) none (both 0 (omega arith));
      second = subst (λ (n : ℕ). CanCountOn replicas n (word 1) p) one (both 1 (omega arith));
    }

pub load-operation-requires : goal.load-operation-requires
load-operation-requires g c =
    let replicas = g.J.LogName.replicas in
    let is = c.requires.known.1 in
    let l = c.loop-place.invariant in
    let from_is = ap (λ (n : ℕ). slice_index c.head-head.result.now (2 + n)) c.from.ensures in
    let it = next g.J.LogName.depth replicas g.J.LogName.passes g.J.LogName.places c.args.replica c.requires.known.0 c.args.pass.now c.head-head.result.now
    (slice_index c.head-head.result.now (2 + c.from.result)) c.loop-place.place c.loop-place.ring c.spot-at.result is c.head-head.ensures from_is
    c.loop-place-test.true c.loop-place.auto.place l.ring c.spot-at.ensures in
    let Counts : CellPass View Stored → Type 0 = λ p. (word : ℕ) × CanCountOn replicas c.spot-at.result word p in
    let counts = subst Counts (sym l.same)
    (slice_index (stored_words it.entry (ring_before c.args.pass.now.value.rings (c.loop-place.place - 1))) 0, it.first) in (
      search rules,
      (
        search rules,
        (
          ap (λ (p : CellPass View Stored). p.cell) l.same ∙ c.requires.log ∙ sym c.self.view_is,
          (
            omega (arith, it.within, c.self.invariant.1),
            (ap (λ (p : CellPass View Stored). p.fresh) l.same ∙ c.requires.fresh, (counts.0, counts.1.0, counts.1.1)),
          ),
        ),
      ),
    )

pub load-rest-requires : goal.load-rest-requires
load-rest-requires g c =
    let replicas = g.J.LogName.replicas in
    let is = c.requires.known.1 in
    let l = c.loop-place.invariant in
    let from_is = ap (λ (n : ℕ). slice_index c.head-head.result.now (2 + n)) c.from.ensures in
    let it = next g.J.LogName.depth replicas g.J.LogName.passes g.J.LogName.places c.args.replica c.requires.known.0 c.args.pass.now c.head-head.result.now
    (slice_index c.head-head.result.now (2 + c.from.result)) c.loop-place.place c.loop-place.ring c.spot-at.result is c.head-head.ensures from_is
    c.loop-place-test.true c.loop-place.auto.place l.ring c.spot-at.ensures in
    let same = c.load-operation.ensures.same ∙ l.same in
    let Counts : CellPass View Stored → Type 0 = λ p. (word : ℕ) × CanCountOn replicas (c.spot-at.result + 1) word p in
    let counts = subst Counts (sym same)
    (slice_index (stored_words it.entry (ring_before c.args.pass.now.value.rings (c.loop-place.place - 1))) 1, it.second) in (
      search rules,
      (
        search rules,
        (
          ap (λ (p : CellPass View Stored). p.cell) same ∙ c.requires.log ∙ sym c.self.view_is,
          (
            omega (arith, it.within, c.self.invariant.1),
            (ap (λ (p : CellPass View Stored). p.fresh) same ∙ c.requires.fresh, (counts.0, counts.1.0, counts.1.1)),
          ),
        ),
      ),
    )

pub of-requires : goal.of-requires
of-requires g c =
    let depth = g.J.LogName.depth in
    let replicas = g.J.LogName.replicas in
    let is = c.requires.known.1 in
    let l = c.loop-place.invariant in
    let from_is = ap (λ (n : ℕ). slice_index c.head-head.result.now (2 + n)) c.from.ensures in
    let it = next depth replicas g.J.LogName.passes g.J.LogName.places c.args.replica c.requires.known.0 c.args.pass.now c.head-head.result.now
    (slice_index c.head-head.result.now (2 + c.from.result)) c.loop-place.place c.loop-place.ring c.spot-at.result is c.head-head.ensures from_is
    c.loop-place-test.true c.loop-place.auto.place l.ring c.spot-at.ensures in
    let before = ring_before c.args.pass.now.value.rings (c.loop-place.place - 1) in
    let First : CellPass View Stored → Type 0 = λ p. CanCountOn replicas c.spot-at.result (slice_index (stored_words it.entry before) 0) p in
    let Second : CellPass View Stored → Type 0 = λ p. CanCountOn replicas (c.spot-at.result + 1) (slice_index (stored_words it.entry before) 1) p in
    let one = subst First (sym l.same) it.first in
    let two = subst Second (sym (c.load-operation.ensures.same ∙ l.same)) it.second in
    let told = tells depth it.entry c.load-operation.result c.load-rest.result before it.fit
    (c.load-operation.ensures.loaded (slice_index (stored_words it.entry before) 0) one.0 one.1)
    (c.load-rest.ensures.loaded (slice_index (stored_words it.entry before) 1) two.0 two.1) in
    (depth, it.entry, told.spells)

-- as many entries as lie behind a place
read_long : (xs ys : List LogEntry) (place : ℕ) → ys ≡ reverse (drop place xs) → length ys ≡ length xs - place
read_long xs ys place is = ap (λ (l : List LogEntry). length l) is ∙ length-reverse (drop place xs) ∙ length-drop place xs

pub push-requires : goal.push-requires
push-requires g c =
    let depth = g.J.LogName.depth in
    let replicas = g.J.LogName.replicas in
    let is = c.requires.known.1 in
    let seen = c.args.pass.now.view.seen in
    let log = log_after replicas seen in
    let are = head_is depth replicas g.J.LogName.passes g.J.LogName.places (Some c.args.replica) c.requires.known.0 c.args.pass.now is c.head-head.result.now
    c.head-head.ensures in
    let fits = history_fits depth replicas seen is.is_history in
    let low : c.args.replica < 4 = omega (arith, is.few, is.owned_below c.args.replica refl) in
    let near = fits.kept_up c.args.replica (omega (arith, as_many_locals depth replicas seen is.is_history, is.owned_below c.args.replica refl)) in
    let long = read_long log.entries c.loop-place.entries.items c.loop-place.place c.loop-place.invariant.entries in
    let from_is = ap (λ (n : ℕ). slice_index c.head-head.result.now (2 + n)) c.from.ensures in
    (search rules, omega (arith, near, long, from_is, are.locals_are c.args.replica low, are.tail_is, c.loop-place-test.true))

pub loop-place-preserved : goal.loop-place-preserved
loop-place-preserved g c =
    let depth = g.J.LogName.depth in
    let replicas = g.J.LogName.replicas in
    let is = c.requires.known.1 in
    let l = c.loop-place.invariant in
    let log = log_after replicas c.args.pass.now.view.seen in
    let from_is = ap (λ (n : ℕ). slice_index c.head-head.result.now (2 + n)) c.from.ensures in
    let it = next depth replicas g.J.LogName.passes g.J.LogName.places c.args.replica c.requires.known.0 c.args.pass.now c.head-head.result.now
    (slice_index c.head-head.result.now (2 + c.from.result)) c.loop-place.place c.loop-place.ring c.spot-at.result is c.head-head.ensures from_is
    c.loop-place-test.true c.loop-place.auto.place l.ring c.spot-at.ensures in
    let before = ring_before c.args.pass.now.value.rings (c.loop-place.place - 1) in
    let First : CellPass View Stored → Type 0 = λ p. CanCountOn replicas c.spot-at.result (slice_index (stored_words it.entry before) 0) p in
    let Second : CellPass View Stored → Type 0 = λ p. CanCountOn replicas (c.spot-at.result + 1) (slice_index (stored_words it.entry before) 1) p in
    let one = subst First (sym l.same) it.first in
    let two = subst Second (sym (c.load-operation.ensures.same ∙ l.same)) it.second in
    let told = tells depth it.entry c.load-operation.result c.load-rest.result before it.fit
    (c.load-operation.ensures.loaded (slice_index (stored_words it.entry before) 0) one.0 one.1)
    (c.load-rest.ensures.loaded (slice_index (stored_words it.entry before) 1) two.0 two.1) in
    let entry_is : c.of.result ≡ it.entry = c.of.ensures depth it.entry told.spells in
    let up : c.loop-place.place ≡ c.loop-place.place - 1 + 1 = omega (arith, c.loop-place-test.true) in
    record {
      high = omega (arith, c.loop-place-test.true);
      same = c.load-rest.ensures.same ∙ c.load-operation.ensures.same ∙ l.same;
      ring = told.links;
      entries = c.push.ensures.items
          ∙ ap (λ (es : List LogEntry). es ++ c.of.result ∷ []) (l.entries ∙ ap (λ (n : ℕ). reverse (drop n log.entries)) up)
          ∙ ap (λ (e : LogEntry). reverse (drop (c.loop-place.place - 1 + 1) log.entries) ++ e ∷ []) entry_is
          ∙ one_more_read log.entries (c.loop-place.place - 1) it.entry it.there;
    }

pub returns-clause-read : goal.returns-clause-read
returns-clause-read g c =
    let depth = g.J.LogName.depth in
    let replicas = g.J.LogName.replicas in
    let is = c.requires.known.1 in
    let log = log_after replicas c.args.pass.now.view.seen in
    let are = head_is depth replicas g.J.LogName.passes g.J.LogName.places (Some c.args.replica) c.requires.known.0 c.args.pass.now is c.head-head.result.now
    c.head-head.ensures in
    let low : c.args.replica < 4 = omega (arith, is.few, is.owned_below c.args.replica refl) in
    let from_is = ap (λ (n : ℕ). slice_index c.head-head.result.now (2 + n)) c.from.ensures in
    let end : c.loop-place.place ≡ local_of log c.args.replica =
    omega (arith, from_is, are.locals_are c.args.replica low, c.loop-place-test.false, c.loop-place.invariant.high) in
    let long : length c.reverse.new.self ≡ length c.loop-place.entries.items =
    c.reverse.ensures.len ∙ ap (λ (es : List LogEntry). length es) c.as_mut_slice.ensures.value in
    refilled c.loop-place.entries.items c.reverse.new.self long
    ∙ c.reverse.ensures.after
    ∙ ap (λ (es : List LogEntry). reverse es) (c.as_mut_slice.ensures.value ∙ c.loop-place.invariant.entries)
    ∙ reverse-reverse (drop c.loop-place.place log.entries)
    ∙ ap (λ (n : ℕ). drop n log.entries) end
