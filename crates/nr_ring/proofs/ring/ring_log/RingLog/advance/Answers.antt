use Rattle.std.proofs.Common.{rules, ◌≡◌, ◌+◌, Some, refl, ap, subst, ◌∙◌, sym, arith}
use Rattle.std.specs.Prelude.{slice_index}
use Rattle.nr_ring.specs.Calls.{HasLooked, HasMoved, HasTaken, LiesAhead, MayTake}
use Rattle.nr_ring.specs.LogHistory.{local_of, log_after}
use Rattle.nr_ring.specs.Pass.{Known}
use Rattle.nr_ring.specs.declared.ring.view.View.{View}
use Rattle.nr_ring.proofs.Advances.{lies_ahead, low_replica, may_advance, owner_remembers, taken_now, taken_there}
use Rattle.nr_ring.proofs.FirstWords.{head_is}
use Rattle.nr_ring.proofs.ring.ring_log.RingLog.advance.Goals as goal

pub returns-then-head-local-clause-taken : goal.returns-then-head-local-clause-taken
returns-then-head-local-clause-taken g c =
    let depth = g.J.LogName.depth in
    let replicas = g.J.LogName.replicas in
    let passes = g.J.LogName.passes in
    let places = g.J.LogName.places in
    let r = c.in-Some.replica in
    let ring = c.pass.inside.ring in
    let p = c.pass.inside.inner in
    let is = owner_remembers depth replicas passes places c.pass.inside.replica (Some r) ring p c.pass.invariant c.in-Some.is in
    let head = head_is depth replicas passes places (Some r) ring p is c.head.result.now c.head.ensures in
    let at : local_of (log_after replicas p.view.seen) r ≡ c.args.to =
    sym (head.locals_are r (low_replica depth replicas passes places r ring p is)) ∙ sym (ap (λ n. slice_index c.head.result.now (2 + n)) c.from-local.ensures)
    ∙ c.if-head-local.true in
    let Taken : View → Type 0 = λ v. HasTaken replicas v c.args.to v in
    subst Taken (ap (λ (k : Known). k.view) c.pass.view_is) (taken_there depth replicas passes places r ring p is c.args.to at)

pub try_advance-requires : goal.try_advance-requires
try_advance-requires g c =
    let depth = g.J.LogName.depth in
    let replicas = g.J.LogName.replicas in
    let passes = g.J.LogName.passes in
    let places = g.J.LogName.places in
    let r = c.in-Some.replica in
    let ring = c.pass.inside.ring in
    let p = c.pass.inside.inner in
    let is = owner_remembers depth replicas passes places c.pass.inside.replica (Some r) ring p c.pass.invariant c.in-Some.is in
    let head = head_is depth replicas passes places (Some r) ring p is c.head.result.now c.head.ensures in
    let other : local_of (log_after replicas p.view.seen) r ≡ c.args.to → ⊥ =
    λ e. c.if-head-local.false (ap (λ n. slice_index c.head.result.now (2 + n)) c.from-local.ensures
    ∙ head.locals_are r (low_replica depth replicas passes places r ring p is) ∙ e) in
    let May : View → Type 0 = λ v. MayTake replicas v c.args.to in
    let may = subst May (sym (ap (λ (k : Known). k.view) c.pass.view_is)) c.requires.to in (
      search rules,
      (
        ap (λ (k : Known). k.log) c.pass.view_is ∙ c.requires.log,
        ((ring, is), ((refl, omega (arith, is.ring_below)), may_advance depth replicas passes places r ring p is c.args.to may other)),
      ),
    )

pub invariant_of-pass : goal.invariant_of-pass
invariant_of-pass g c =
    let r = c.in-Some.replica in
    let ring = c.pass.inside.ring in
    owner_remembers _ _ _ _ (Some r) c.pass.inside.replica ring c.try_advance.new.pass
    (c.try_advance.ensures.known ring (owner_remembers _ _ _ _ c.pass.inside.replica (Some r) ring c.pass.inside.inner c.pass.invariant c.in-Some.is))
    (sym c.in-Some.is)

pub returns-then-try_advance-clause-taken : goal.returns-then-try_advance-clause-taken
returns-then-try_advance-clause-taken g c =
    let depth = g.J.LogName.depth in
    let replicas = g.J.LogName.replicas in
    let passes = g.J.LogName.passes in
    let places = g.J.LogName.places in
    let r = c.in-Some.replica in
    let ring = c.pass.inside.ring in
    let p = c.pass.inside.inner in
    let is = owner_remembers depth replicas passes places c.pass.inside.replica (Some r) ring p c.pass.invariant c.in-Some.is in
    let head = head_is depth replicas passes places (Some r) ring p is c.head.result.now c.head.ensures in
    let other : local_of (log_after replicas p.view.seen) r ≡ c.args.to → ⊥ =
    λ e. c.if-head-local.false (ap (λ n. slice_index c.head.result.now (2 + n)) c.from-local.ensures
    ∙ head.locals_are r (low_replica depth replicas passes places r ring p is) ∙ e) in
    let Taken : View → Type 0 = λ v. HasTaken replicas v c.args.to c.try_advance.new.pass.view in
    subst Taken (ap (λ (k : Known). k.view) c.pass.view_is)
    (taken_now depth replicas passes places r ring p is c.try_advance.new.pass.view c.args.to other c.if-try_advance.ensures.view)

pub returns-then-try_advance-clause-history : goal.returns-then-try_advance-clause-history
returns-then-try_advance-clause-history g c =
    let r = c.in-Some.replica in
    let ring = c.pass.inside.ring in
    (c.try_advance.ensures.known ring (owner_remembers _ _ _ _ c.pass.inside.replica (Some r) ring c.pass.inside.inner c.pass.invariant
    c.in-Some.is)).is_history

pub invariant_of-pass-2 : goal.invariant_of-pass-2
invariant_of-pass-2 g c =
    let r = c.in-Some.replica in
    let ring = c.pass.inside.ring in
    owner_remembers _ _ _ _ (Some r) c.pass.inside.replica ring c.try_advance.new.pass
    (c.try_advance.ensures.known ring (owner_remembers _ _ _ _ c.pass.inside.replica (Some r) ring c.pass.inside.inner c.pass.invariant c.in-Some.is))
    (sym c.in-Some.is)

pub returns-clause-moved : goal.returns-clause-moved
returns-clause-moved g c =
    let depth = g.J.LogName.depth in
    let replicas = g.J.LogName.replicas in
    let passes = g.J.LogName.passes in
    let places = g.J.LogName.places in
    let r = c.in-Some.replica in
    let ring = c.pass.inside.ring in
    let p = c.pass.inside.inner in
    let after = c.try_advance.new.pass.view in
    let is = owner_remembers depth replicas passes places c.pass.inside.replica (Some r) ring p c.pass.invariant c.in-Some.is in
    let head = head_is depth replicas passes places (Some r) ring p is c.head.result.now c.head.ensures in
    let other : local_of (log_after replicas p.view.seen) r ≡ c.args.to → ⊥ =
    λ e. c.if-head-local.false (ap (λ n. slice_index c.head.result.now (2 + n)) c.from-local.ensures
    ∙ head.locals_are r (low_replica depth replicas passes places r ring p is) ∙ e) in
    let May : View → Type 0 = λ v. MayTake replicas v c.args.to in
    let may = subst May (sym (ap (λ (k : Known). k.view) c.pass.view_is)) c.requires.to in
    let can = may_advance depth replicas passes places r ring p is c.args.to may other in
    let Moved : View → Type 0 = λ v. HasLooked depth replicas v after × HasMoved v after × LiesAhead replicas v c.args.to in
    let moved = c.if-try_advance.ensures.view in
    subst Moved (ap (λ (k : Known). k.view) c.pass.view_is) (moved.0, moved.1, lies_ahead depth replicas passes places r ring p is c.args.to can.some)
