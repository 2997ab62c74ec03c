use Rattle.std.proofs.Common.{rules, refl, ℕ, List, All, ap, length, subst}
use Rattle.nr_ring.specs.Calls.{copy_of}
use Rattle.nr_ring.specs.Pass.{Known}
use Rattle.nr_ring.specs.View.{HasSeenAdvances, StartsWith}
use Rattle.nr_ring.proofs.Further.{meeting_recalls}
use Rattle.nr_ring.proofs.Joins.{join_merges}
use Rattle.nr_ring.proofs.Splits.{copy_forks}
use Rattle.nr_ring.proofs.Meets.{met, met_remembers}
use Rattle.nr_ring.proofs.Passes.{remembers_still}
use Rattle.nr_ring.proofs.ring.ring_log.RingLog.meet.Goals as goal

pub meet_as-requires : goal.meet_as-requires
meet_as-requires g c =
    let copy = copy_of c.pass.inside.inner.view in (
      search rules,
      (
        search rules,
        (
          search rules,
          (
            copy_forks _ _ _ _ _ _,
            (
              (λ part. join_merges _ _ _ _ _ _ _ copy refl),
              λ value further. meeting_recalls _ _ _ _ _ _ _ _ _ c.told.inside.inner c.pass.inside.inner copy value c.told.invariant c.pass.invariant
                  refl further,
            ),
          ),
        ),
      ),
    )

pub invariant_of-told : goal.invariant_of-told
invariant_of-told g c =
    let same = c.meet_as.ensures.same in
    met_remembers _ _ _ _ _ _ c.told.inside.inner c.meet_as.new.told (copy_of c.pass.inside.inner.view) c.told.invariant refl same.2 same.3
    c.meet_as.ensures.rule

pub invariant_of-pass : goal.invariant_of-pass
invariant_of-pass g c =
    let now = c.meet_as.ensures.pass in
    remembers_still _ _ _ _ _ _ c.pass.inside.inner c.meet_as.new.pass c.pass.invariant now.3 now.2 now.4
    (ap (λ (l : List ℕ). length l) now.5)

pub returns-clause-met : goal.returns-clause-met
returns-clause-met g c =
    let seen = c.meet_as.new.told.view.seen in
    let both = met g.J.LogName.depth g.J.LogName.replicas c.told.inside.inner.view (copy_of c.pass.inside.inner.view) c.meet_as.new.told.view
    c.meet_as.ensures.rule.looked in (
      subst (λ (k : Known). StartsWith seen k.view.seen) c.pass.view_is both.0,
      subst (λ (k : Known). StartsWith seen k.view.seen) c.told.view_is both.1,
    )

pub returns-clause-advances : goal.returns-clause-advances
returns-clause-advances g c =
    let seen = c.meet_as.new.told.view.seen in
    subst (λ (p : Known). All (λ replica. HasSeenAdvances replica seen p.view.seen) p.view.owns) c.told.view_is c.meet_as.ensures.rule.looked.advances
