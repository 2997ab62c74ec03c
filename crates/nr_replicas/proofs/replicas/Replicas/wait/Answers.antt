use Rattle.std.proofs.Common.{◌∙◌, ap, sym, subst}
use Rattle.nr_ring.specs.Pass.{Known}
use Rattle.nr_replicas.specs.Replicas.{HasHeard}
use Rattle.nr_replicas.proofs.Hearing.{heard_twice}
use Rattle.nr_replicas.proofs.replicas.Replicas.wait.Goals as goal
use Rattle.nr_replicas.proofs.replicas.Replicas.wait.Goals.{in-Poll+in-None, in-Combine+in-None-Appended, in-Combine+in-None-Full, in-CatchUp}

pub returns-in_default-Stopped-clause-heard : goal.returns-in_default-Stopped-clause-heard
returns-in_default-Stopped-clause-heard g c =
    heard_twice c.loop-taken.invariant.1 c.combine-combined.ensures.heard

pub returns-in-Some-poll-clause-heard : goal.returns-in-Some-poll-clause-heard
returns-in-Some-poll-clause-heard g c =
    heard_twice c.loop-taken.invariant.1 c.combine-combined.ensures.heard

pub returns-in-None-poll-clause-heard : goal.returns-in-None-poll-clause-heard
returns-in-None-poll-clause-heard g c =
    heard_twice c.loop-taken.invariant.1 c.combine-combined.ensures.heard

pub returns-in-Some-default-clause-heard : goal.returns-in-Some-default-clause-heard
returns-in-Some-default-clause-heard g c =
    heard_twice c.loop-taken.invariant.1 c.combine-combined.ensures.heard

pub returns-in-Some-default-2-clause-heard : goal.returns-in-Some-default-2-clause-heard
returns-in-Some-default-2-clause-heard g c =
    heard_twice c.loop-taken.invariant.1 c.combine-combined.ensures.heard

pub loop-taken-preserved : goal.loop-taken-preserved
loop-taken-preserved g c =
    let is = c.loop-taken.invariant in
    let Heard : Known → Type 0 = λ k. HasHeard g.J.LogName.depth g.J.LogName.replicas c.args.pass.now.view k.view in
    elim c.match-turn.branch [
      | in-Poll+in-None w ↦ (ap (λ (k : Known). k.log) w.pass-is ∙ is.0, subst Heard (sym w.pass-is) is.1, w.own-is ∙ is.2)
      | in-Combine+in-None-Appended w ↦ (
        ap (λ (k : Known). k.log) w.pass-is ∙ w.combine-combined.ensures.log ∙ is.0,
        subst Heard (sym w.pass-is) (heard_twice is.1 w.combine-combined.ensures.heard),
        w.own-is ∙ w.in-None-Appended.is-0,
      )
      | in-Combine+in-None-Full w ↦ (
        ap (λ (k : Known). k.log) w.pass-is ∙ w.combine-combined.ensures.log ∙ is.0,
        subst Heard (sym w.pass-is) (heard_twice is.1 w.combine-combined.ensures.heard),
        w.own-is ∙ w.in-None-Full.is-0,
      )
      | in-CatchUp w ↦ (ap (λ (k : Known). k.log) w.pass-is ∙ is.0, subst Heard (sym w.pass-is) is.1, w.own-is ∙ is.2)
    ]
