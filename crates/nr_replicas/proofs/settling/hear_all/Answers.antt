use Rattle.std.proofs.Common.{◌≡◌, ◌<◌, ◌≤◌, List, All, length, take, get_or, slice_set, ap, sym, subst, ◌∙◌, arith}
use Rattle.std.proofs.lemmas.List.{set-get_or, take_all}
use Rattle.std.proofs.lemmas.List.Elements.{All-push}
use Rattle.nr_ring.specs.Calls.{HasLooked, copy_of, joint_view}
use Rattle.nr_ring.specs.Pass.{Known}
use Rattle.nr_ring.specs.View.{StartsWith}
use Rattle.nr_node.proofs.Lists.{take_to_one_more}
use Rattle.nr_replicas.proofs.Hearing.{heard_twice}
use Rattle.nr_replicas.proofs.Logs.{told_heard}
use Rattle.nr_replicas.proofs.Settled.{all_begin_later}
use Rattle.nr_replicas.proofs.settling.hear_all.Goals as goal

pub loop-i-preserved : goal.loop-i-preserved
loop-i-preserved g c =
    let depth = g.J.LogName.depth in
    let replicas = g.J.LogName.replicas in
    let is = c.loop-i.invariant in
    let i = c.loop-i.i in
    let was = c.args.passes.now in
    let found = c.index-passes-i.result in
    let pass = get_or c.loop-i.passes i found in
    let before = c.loop-i.first.view in
    let after = c.meet.new.told.view in
    let Found : List Known → Type 0 = λ l. found ≡ get_or l i found in
    let Here : Known → Type 0 = λ p. p ≡ get_or was i p in
    let here : pass ≡ get_or was i pass = subst Here c.index-passes-i.is (subst Found is.0 c.index-passes-i.is) in
    let within : i < length was = omega (arith, c.loop-i-test.true, ap (λ (l : List Known). length l) is.0) in
    let Begins : Known → Type 0 = λ p. StartsWith after.seen p.view.seen in
    let looked : HasLooked depth replicas (joint_view before (copy_of pass.view)) after = c.meet.ensures.looked in
    let knows : StartsWith after.seen pass.view.seen = c.meet.ensures.met.0 in
    let goes_on : StartsWith after.seen before.seen = c.meet.ensures.met.1 in (
      ap (λ (p : Known). slice_set c.loop-i.passes i p) c.meet.ensures.pass ∙ set-get_or c.loop-i.passes i found ∙ is.0,
      c.meet.ensures.log ∙ is.1,
      heard_twice is.2 (told_heard depth replicas before pass.view after looked),
      subst (All Begins) (sym (take_to_one_more was i pass within here))
          (All-push Begins (take i was) pass (all_begin_later before.seen after.seen (take i was) goes_on is.3) knows),
    )

pub returns-clause-begins : goal.returns-clause-begins
returns-clause-begins g c =
    let is = c.loop-i.invariant in
    let was = c.args.passes.now in
    let all : length was ≤ c.loop-i.i = omega (arith, c.loop-i-test.false, ap (λ (l : List Known). length l) is.0) in
    let Begins : Known → Type 0 = λ p. StartsWith c.loop-i.first.view.seen p.view.seen in
    subst (All Begins) (take_all c.loop-i.i was all) is.3
