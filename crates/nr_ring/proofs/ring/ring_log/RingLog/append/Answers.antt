use Rattle.std.proofs.Common.{◌≡◌, ℕ, List, length, le_trans, rules, refl, ap, sym, subst, ◌∙◌}
use Rattle.std.proofs.lemmas.Result.{err_from_is_err_and}
use Rattle.vs_types.specs.declared.log_entry.LogEntry.{LogEntry}
use Rattle.nr_ring.specs.Calls.{HasLooked, with_event}
use Rattle.nr_ring.specs.LogHistory.{HasRoom, MayAppend, log_after}
use Rattle.nr_ring.specs.Pass.{Known}
use Rattle.nr_ring.specs.Words.{last_ring}
use Rattle.nr_ring.specs.declared.ring.log_event.LogEvent.TheVariants.{Append}
use Rattle.nr_ring.specs.declared.ring.view.View.{View}
use Rattle.nr_ring.specs.inside.Batch.{Explains}
use Rattle.nr_ring.proofs.FirstWords.{head_is, head_small}
use Rattle.nr_ring.proofs.Appends.{barred, looked_twice, moved_later, reason}
use Rattle.nr_ring.proofs.ring.ring_log.RingLog.append.Goals as goal

pub find_room-requires : goal.find_room-requires
find_room-requires g c = (
  search rules,
  (
    ap (λ (k : Known). k.log) c.pass.view_is ∙ c.requires.log,
    ((c.pass.inside.replica, c.pass.inside.ring, c.pass.invariant), c.requires.count.1),
  ),
)

pub invariant_of-pass : goal.invariant_of-pass
invariant_of-pass g c = c.find_room.ensures.known c.pass.inside.replica c.pass.inside.ring c.pass.invariant

pub returns-in_err-place-clause-refused : goal.returns-in_err-place-clause-refused
returns-in_err-place-clause-refused g c =
    let p = c.find_room.new.pass in
    let Looked : View → Type 0 = λ v. HasLooked g.J.LogName.depth g.J.LogName.replicas v p.view in
    let looked = subst Looked (ap (λ (k : Known). k.view) c.pass.view_is) c.find_room.ensures.looked in
    let e = err_from_is_err_and c.from_residual.result c.from_residual.ensures.1 in
    rw (e.1, e.2) (
      looked,
      barred g.J.LogName.places (log_after g.J.LogName.replicas p.view.seen) _ c.args.pass.now.view p.view c.in_err-place.field-0.0
          c.in_err-place.ensures.room,
    )

pub try_append-requires : goal.try_append-requires
try_append-requires g c =
    let replicas = g.J.LogName.replicas in
    let p = c.find_room.new.pass in
    let is = c.find_room.ensures.known c.pass.inside.replica c.pass.inside.ring c.pass.invariant in
    let log = log_after replicas p.view.seen in
    let room = c.in_ok-place.ensures.room in
    let may : MayAppend g.J.LogName.depth log c.args.batch.now =
    record {
      some = c.requires.count.0;
      few = c.requires.count.1;
      entries = c.requires.entries;
      room = le_trans room.0 c.find_room.ensures.most;
      kept_up = room.1;
    } in
    let packed = subst (MayAppend g.J.LogName.depth log) (sym (c.pack_all.ensures)) may in
    let Fits : List LogEntry → Type 0 = λ batch. HasRoom g.J.LogName.places log (length batch) in
    let within = subst Fits (sym (c.pack_all.ensures)) room.0 in (
      search rules,
      (
        c.find_room.ensures.log ∙ ap (λ (k : Known). k.log) c.pass.view_is ∙ c.requires.log,
        ((c.pass.inside.replica, is), (c.find_room.ensures.fresh, ((refl, refl), (packed, within)))),
      ),
    )

pub invariant_of-pass-then-try_append : goal.invariant_of-pass-then-try_append
invariant_of-pass-then-try_append g c =
    c.try_append.ensures.known c.pass.inside.replica (c.find_room.ensures.known c.pass.inside.replica c.pass.inside.ring c.pass.invariant)

pub returns-then-try_append-clause-appended : goal.returns-then-try_append-clause-appended
returns-then-try_append-clause-appended g c =
    let depth = g.J.LogName.depth in
    let replicas = g.J.LogName.replicas in
    let p = c.find_room.new.pass in
    let Looked : View → Type 0 = λ v. HasLooked depth replicas v p.view in
    let Appended : List LogEntry → Type 0 = λ batch. c.try_append.new.pass.view ≡ with_event p.view (Append batch) in
    record {
      seen_before = p.view;
      looked = subst Looked (ap (λ (k : Known). k.view) c.pass.view_is) c.find_room.ensures.looked;
      appended = subst Appended (c.pack_all.ensures) c.if-try_append.ensures.view;
      place_is = c.in_ok-place.ensures.place;
    }

pub returns-then-try_append-clause-history : goal.returns-then-try_append-clause-history
returns-then-try_append-clause-history g c =
    (c.try_append.ensures.known c.pass.inside.replica (c.find_room.ensures.known c.pass.inside.replica c.pass.inside.ring c.pass.invariant)).is_history

pub why_not-requires : goal.why_not-requires
why_not-requires g c =
    let is = c.try_append.ensures.known c.pass.inside.replica (c.find_room.ensures.known c.pass.inside.replica c.pass.inside.ring c.pass.invariant) in
    (head_small _ _ _ _ c.pass.inside.replica c.pass.inside.ring c.try_append.new.pass is c.head.result.now c.head.ensures, c.requires.count.1)

pub invariant_of-pass-2 : goal.invariant_of-pass-2
invariant_of-pass-2 g c =
    c.try_append.ensures.known c.pass.inside.replica (c.find_room.ensures.known c.pass.inside.replica c.pass.inside.ring c.pass.invariant)

pub returns-clause-refused : goal.returns-clause-refused
returns-clause-refused g c =
    let depth = g.J.LogName.depth in
    let replicas = g.J.LogName.replicas in
    let old = c.args.pass.now.view in
    let q = c.try_append.new.pass in
    let is = c.try_append.ensures.known c.pass.inside.replica (c.find_room.ensures.known c.pass.inside.replica c.pass.inside.ring c.pass.invariant) in
    let log = log_after replicas q.view.seen in
    let head = head_is _ _ _ _ c.pass.inside.replica c.pass.inside.ring q is c.head.result.now c.head.ensures in
    let Looked : View → Type 0 = λ v. HasLooked depth replicas v c.find_room.new.pass.view in
    let first = subst Looked (ap (λ (k : Known). k.view) c.pass.view_is) c.find_room.ensures.looked in
    let second = c.if-try_append.ensures.view in
    let Why : ℕ → Type 0 = λ places. Explains places log (length c.args.batch.now) c.why_not.result in (
      looked_twice depth replicas old c.find_room.new.pass.view q.view first second.0,
      reason g.J.LogName.places log _ old q.view c.why_not.result (subst Why c.self.invariant.2 (c.why_not.ensures log (last_ring q.value) head))
          (moved_later depth replicas old c.find_room.new.pass.view q.view first second.1),
    )
