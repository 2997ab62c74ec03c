use Rattle.std.proofs.Common.{rules, ◌≡◌, ◌+◌, ◌≤◌, ℕ, Some, length, refl, ap, subst, sym, ◌∙◌, arith}
use Rattle.std.specs.Prelude.{slice_index}
use Rattle.std.proofs.Math.ListN.{drop_of_length-le}
use Rattle.nr_ring.specs.Calls.{HasLooked, HasTaken, MayTake}
use Rattle.nr_ring.specs.Entries.{to_take}
use Rattle.nr_ring.specs.LogHistory.{local_of, log_after, tail}
use Rattle.nr_ring.specs.Pass.{Known}
use Rattle.nr_ring.specs.declared.ring.view.View.{View}
use Rattle.nr_ring.proofs.Advances.{low_replica, may_advance, owner_remembers, same_replica, taken_now, taken_there}
use Rattle.nr_ring.proofs.Appends.{looked_twice, moved_later}
use Rattle.nr_ring.proofs.FirstWords.{head_is}
use Rattle.nr_ring.proofs.Histories.{history_fits}
use Rattle.nr_ring.proofs.OwnTails.{ahead_still}
use Rattle.nr_ring.proofs.ring.ring_log.RingLog.take.Goals as goal

pub invariant_of-pass : goal.invariant_of-pass
invariant_of-pass g c = c.refresh.ensures.known c.pass.inside.replica c.pass.inside.ring c.pass.invariant

pub returns-then-head-from-clause-taken : goal.returns-then-head-from-clause-taken
returns-then-head-from-clause-taken g c =
    let depth = g.J.LogName.depth in
    let replicas = g.J.LogName.replicas in
    let passes = g.J.LogName.passes in
    let places = g.J.LogName.places in
    let r = c.in-Some.replica in
    let ring = c.pass.inside.ring in
    let p = c.refresh.new.pass in
    let log = log_after replicas p.view.seen in
    let is = owner_remembers depth replicas passes places c.pass.inside.replica (Some r) ring p
    (c.refresh.ensures.known c.pass.inside.replica ring c.pass.invariant) c.in-Some.is in
    let head = head_is depth replicas passes places (Some r) ring p is c.head-head.result.now c.head-head.ensures in
    let low = low_replica depth replicas passes places r ring p is in
    let Looked : View → Type 0 = λ v. HasLooked depth replicas v p.view in
    let looked = subst Looked (ap (λ (k : Known). k.view) c.pass.view_is) c.refresh.ensures.looked in
    let at : local_of log r ≡ tail log =
    sym (head.locals_are r low) ∙ sym (ap (λ n. slice_index c.head-head.result.now (2 + n)) c.from.ensures) ∙ c.if-head-from.true ∙ head.tail_is in
    record {
      between = p.view;
      looked = looked;
      taken = taken_there depth replicas passes places r ring p is (tail log) at;
      entries_are = λ replica owns.
          let same : replica ≡ r = same_replica p.view.owns replica r (looked.owns ∙ owns) is.owns in
          let low : length log.entries ≤ local_of log replica = omega (arith, ap (λ q. local_of log q) same, at) in
          c.requires.empty ∙ sym (drop_of_length-le log.entries low);
      history = looked.is_history;
    }

pub try_take-requires : goal.try_take-requires
try_take-requires g c =
    let depth = g.J.LogName.depth in
    let replicas = g.J.LogName.replicas in
    let passes = g.J.LogName.passes in
    let places = g.J.LogName.places in
    let r = c.in-Some.replica in
    let ring = c.pass.inside.ring in
    let p = c.refresh.new.pass in
    let log = log_after replicas p.view.seen in
    let to = slice_index c.head-head.result.now 0 in
    let is = owner_remembers depth replicas passes places c.pass.inside.replica (Some r) ring p
    (c.refresh.ensures.known c.pass.inside.replica ring c.pass.invariant) c.in-Some.is in
    let head = head_is depth replicas passes places (Some r) ring p is c.head-head.result.now c.head-head.ensures in
    let low = low_replica depth replicas passes places r ring p is in
    let local : slice_index c.head-head.result.now (2 + c.from.result) ≡ local_of log r =
    ap (λ n. slice_index c.head-head.result.now (2 + n)) c.from.ensures ∙ head.locals_are r low in
    let fits = history_fits depth replicas p.view.seen is.is_history in
    let take : MayTake replicas p.view to =
    record { replica = r; owns = is.owns; above = omega (arith, fits.written r, head.tail_is); written = omega (arith, head.tail_is) } in
    let may = may_advance depth replicas passes places r ring p is to take (λ e. c.if-head-from.false (local ∙ e)) in (
      search rules,
      (
        c.refresh.ensures.log ∙ ap (λ (k : Known). k.log) c.pass.view_is ∙ c.requires.log,
        ((ring, is), (c.refresh.ensures.fresh, (head.tail_is, ((refl, omega (arith, is.ring_below)), (may, c.requires.empty))))),
      ),
    )

pub invariant_of-pass-then-try_take : goal.invariant_of-pass-then-try_take
invariant_of-pass-then-try_take g c =
    let r = c.in-Some.replica in
    let ring = c.pass.inside.ring in
    let p = c.refresh.new.pass in
    let is = owner_remembers _ _ _ _ c.pass.inside.replica (Some r) ring p (c.refresh.ensures.known c.pass.inside.replica ring c.pass.invariant) c.in-Some.is in
    owner_remembers _ _ _ _ (Some r) c.pass.inside.replica ring c.try_take.new.pass (c.try_take.ensures.known ring is) (sym c.in-Some.is)

pub returns-then-try_take-clause-taken : goal.returns-then-try_take-clause-taken
returns-then-try_take-clause-taken g c =
    let depth = g.J.LogName.depth in
    let replicas = g.J.LogName.replicas in
    let passes = g.J.LogName.passes in
    let places = g.J.LogName.places in
    let r = c.in-Some.replica in
    let ring = c.pass.inside.ring in
    let p = c.refresh.new.pass in
    let w = c.try_take.new.pass.view in
    let log = log_after replicas p.view.seen in
    let to = slice_index c.head-head.result.now 0 in
    let is = owner_remembers depth replicas passes places c.pass.inside.replica (Some r) ring p
    (c.refresh.ensures.known c.pass.inside.replica ring c.pass.invariant) c.in-Some.is in
    let head = head_is depth replicas passes places (Some r) ring p is c.head-head.result.now c.head-head.ensures in
    let low = low_replica depth replicas passes places r ring p is in
    let local : slice_index c.head-head.result.now (2 + c.from.result) ≡ local_of log r =
    ap (λ n. slice_index c.head-head.result.now (2 + n)) c.from.ensures ∙ head.locals_are r low in
    let other : local_of log r ≡ to → ⊥ = λ e. c.if-head-from.false (local ∙ e) in
    let Looked : View → Type 0 = λ v. HasLooked depth replicas v p.view in
    let looked = subst Looked (ap (λ (k : Known). k.view) c.pass.view_is) c.refresh.ensures.looked in
    let To : ℕ → Type 0 = λ to. HasTaken replicas p.view to w in
    record {
      between = p.view;
      looked = looked;
      taken = subst To head.tail_is (taken_now depth replicas passes places r ring p is w to other c.if-try_take.ensures.view);
      entries_are = λ replica owns.
          c.try_take.ensures.taken c.if-try_take.true
          ∙ ap (λ q. to_take log q) (sym (same_replica p.view.owns replica r (looked.owns ∙ owns) is.owns));
      history = (c.try_take.ensures.known ring is).is_history;
    }

pub returns-then-try_take-clause-history : goal.returns-then-try_take-clause-history
returns-then-try_take-clause-history g c =
    let r = c.in-Some.replica in
    let ring = c.pass.inside.ring in
    let is = owner_remembers _ _ _ _ c.pass.inside.replica (Some r) ring c.refresh.new.pass
    (c.refresh.ensures.known c.pass.inside.replica ring c.pass.invariant) c.in-Some.is in
    (c.try_take.ensures.known ring is).is_history

pub invariant_of-pass-2 : goal.invariant_of-pass-2
invariant_of-pass-2 g c =
    let r = c.in-Some.replica in
    let ring = c.pass.inside.ring in
    let p = c.refresh.new.pass in
    let is = owner_remembers _ _ _ _ c.pass.inside.replica (Some r) ring p (c.refresh.ensures.known c.pass.inside.replica ring c.pass.invariant) c.in-Some.is in
    owner_remembers _ _ _ _ (Some r) c.pass.inside.replica ring c.try_take.new.pass (c.try_take.ensures.known ring is) (sym c.in-Some.is)

pub returns-clause-moved : goal.returns-clause-moved
returns-clause-moved g c =
    let depth = g.J.LogName.depth in
    let replicas = g.J.LogName.replicas in
    let passes = g.J.LogName.passes in
    let places = g.J.LogName.places in
    let r = c.in-Some.replica in
    let ring = c.pass.inside.ring in
    let p = c.refresh.new.pass in
    let after = c.try_take.new.pass.view in
    let old = c.args.pass.now.view in
    let log = log_after replicas p.view.seen in
    let is = owner_remembers depth replicas passes places c.pass.inside.replica (Some r) ring p
    (c.refresh.ensures.known c.pass.inside.replica ring c.pass.invariant) c.in-Some.is in
    let head = head_is depth replicas passes places (Some r) ring p is c.head-head.result.now c.head-head.ensures in
    let low = low_replica depth replicas passes places r ring p is in
    let local : slice_index c.head-head.result.now (2 + c.from.result) ≡ local_of log r =
    ap (λ n. slice_index c.head-head.result.now (2 + n)) c.from.ensures ∙ head.locals_are r low in
    let fits = history_fits depth replicas p.view.seen is.is_history in
    let other : local_of log r ≡ tail log → ⊥ = λ e. c.if-head-from.false (local ∙ e ∙ sym head.tail_is) in
    let Looked : View → Type 0 = λ v. HasLooked depth replicas v p.view in
    let first = subst Looked (ap (λ (k : Known). k.view) c.pass.view_is) c.refresh.ensures.looked in
    let second = c.if-try_take.ensures.view in (
      looked_twice depth replicas old p.view after first second.0,
      moved_later depth replicas old p.view after first second.1,
      ahead_still depth replicas r p.view after second.0 is.owns (omega (arith, fits.written r, other)),
    )
