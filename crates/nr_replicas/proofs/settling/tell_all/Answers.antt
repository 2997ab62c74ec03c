use Rattle.std.proofs.Common.{◌≡◌, ◌<◌, ◌≤◌, All, length, take, get_or, sym, subst, ◌∙◌, arith}
use Rattle.std.proofs.Math.Seq.{map-set_same}
use Rattle.std.proofs.lemmas.List.{get_or-set_other, length-set, take_all}
use Rattle.std.proofs.lemmas.List.Elements.{All-push, All-set}
use Rattle.nr_ring.specs.Pass.{Known}
use Rattle.nr_ring.specs.View.{StartsWith}
use Rattle.nr_node.proofs.Lists.{take_to_one_more}
use Rattle.nr_replicas.specs.inside.Settling.{HasSeenOwnAdvances}
use Rattle.nr_replicas.proofs.Settled.{own_between}
use Rattle.nr_replicas.proofs.settling.tell_all.Goals as goal

pub loop-i-preserved : goal.loop-i-preserved
loop-i-preserved g c =
    let is = c.loop-i.invariant in
    let i = c.loop-i.i in
    let was = c.args.others.now in
    let now = c.loop-i.others in
    let found = c.index-others-i.result in
    let other = get_or now i found in
    let told = c.meet.new.told in
    let history = c.args.first.now.view.seen in
    let Of : Known → Type 0 = λ pass. pass.log ≡ c.args.log.now in
    let Begins : Known → Type 0 = λ pass. StartsWith history pass.view.seen in
    let Own : Known → Type 0 = HasSeenOwnAdvances history in
    let within : i < length was = omega (arith, c.loop-i-test.true, is.1) in
    let Here : Known → Type 0 = λ p. other ≡ get_or was i p in
    let same : other ≡ get_or was i other = subst Here c.index-others-i.is (is.4 i found (omega arith)) in
    let owned : told.view.owns ≡ other.view.owns = c.meet.ensures.looked.owns in
    let further : StartsWith told.view.seen history = subst (λ (p : Known). StartsWith told.view.seen p.view.seen) is.0 c.meet.ensures.met.0 in
    let begins : Begins other = subst Begins (sym same) (c.requires.begins i other within) in
    let own : Own other = own_between history other told.view begins further c.meet.ensures.advances in (
      c.meet.ensures.pass ∙ is.0,
      length-set now i told ∙ is.1,
      All-set Of now i told (c.meet.ensures.log ∙ is.2 i found (omega (arith, within, is.1))) is.2,
      map-set_same (λ (p : Known). p.view.owns) now i told found owned ∙ is.3,
      λ k d le. get_or-set_other now i k told d (λ e. absurd (omega (arith, le, e))) ∙ is.4 k d (omega (arith, le)),
      subst (All Own) (sym (take_to_one_more was i other within same)) (All-push Own (take i was) other is.5 own),
    )

pub returns-clause-taken : goal.returns-clause-taken
returns-clause-taken g c =
    let is = c.loop-i.invariant in
    let was = c.args.others.now in
    let all : length was ≤ c.loop-i.i = omega (arith, c.loop-i-test.false, is.1) in
    subst (All (HasSeenOwnAdvances c.args.first.now.view.seen)) (take_all c.loop-i.i was all) is.5
