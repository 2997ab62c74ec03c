use Rattle.std.proofs.Common.{◌≡◌, ℕ, ◌+◌, ◌<◌, ◌≤◌, List, [], ◌∷◌, ◌++◌, All, length, take, get_or, slice_set, ap, sym, subst, ◌∙◌, arith}
use Rattle.std.specs.List.{AllZip}
use Rattle.std.proofs.lemmas.List.{get_or-set_other, get_or-set_same, length-set, take_all, take-set}
use Rattle.std.proofs.lemmas.List.Elements.{All-set, AllZip-push}
use Rattle.nr_ring.specs.Calls.{HasLooked, copy_of, joint_view}
use Rattle.nr_ring.specs.Pass.{Known}
use Rattle.nr_ring.specs.View.{StartsWith}
use Rattle.nr_node.proofs.Lists.{take_to_one_more}
use Rattle.nr_replicas.specs.inside.Settling.{WasTold}
use Rattle.nr_replicas.proofs.Logs.{told_heard}
use Rattle.nr_replicas.proofs.cutting.tell_each.Goals as goal

pub meet-requires : goal.meet-requires
meet-requires g c =
    let is = c.loop-i.invariant in
    record {
      log = (
        ap (λ (p : Known). p.log) is.0 ∙ c.requires.log.0,
        is.2 c.loop-i.i c.index-others-i.result (omega (arith, c.loop-i-test.true, is.1)),
      );
    }

pub loop-i-preserved : goal.loop-i-preserved
loop-i-preserved g c =
    let depth = g.J.LogName.depth in
    let replicas = g.J.LogName.replicas in
    let is = c.loop-i.invariant in
    let i = c.loop-i.i in
    let was = c.args.others.now in
    let now = c.loop-i.others in
    let found = c.index-others-i.result in
    let other = get_or now i found in
    let told = c.meet.new.told in
    let first = c.loop-i.first in
    let history = c.args.first.now.view.seen in
    let Of : Known → Type 0 = λ pass. pass.log ≡ c.args.log.now in
    let Told : Known → Known → Type 0 = WasTold depth replicas history in
    let within : i < length was = omega (arith, c.loop-i-test.true, is.1) in
    let within_now : i < length now = omega (arith, within, is.1) in
    let Here : Known → Type 0 = λ p. other ≡ get_or was i p in
    let same : other ≡ get_or was i other = subst Here c.index-others-i.is (is.3 i found (omega arith)) in
    let looked : HasLooked depth replicas (joint_view other.view (copy_of first.view)) told.view = c.meet.ensures.looked in
    let further : StartsWith told.view.seen history = subst (λ (p : Known). StartsWith told.view.seen p.view.seen) is.0 c.meet.ensures.met.0 in
    let one : Told other told = (told_heard depth replicas other.view first.view told.view looked, further) in
    let written : take (i + 1) (slice_set now i told) ≡ take i now ++ told ∷ [] =
    take_to_one_more (slice_set now i told) i told (omega (arith, within_now, length-set now i told)) (sym (get_or-set_same now i told told within_now))
    ∙ ap (λ (l : List Known). l ++ told ∷ []) (take-set now i told) in
    let Old : List Known → Type 0 = λ l. AllZip Told l (take i now ++ told ∷ []) in
    let New : List Known → Type 0 = λ l. AllZip Told (take (i + 1) was) l in (
      c.meet.ensures.pass ∙ is.0,
      length-set now i told ∙ is.1,
      All-set Of now i told (c.meet.ensures.log ∙ is.2 i found within_now) is.2,
      λ k d le. get_or-set_other now i k told d (λ e. absurd (omega (arith, le, e))) ∙ is.3 k d (omega (arith, le)),
      subst New (sym written)
          (subst Old (sym (take_to_one_more was i other within same)) (AllZip-push Told (take i was) (take i now) other told is.4 one)),
    )

pub returns-clause-told : goal.returns-clause-told
returns-clause-told g c =
    let is = c.loop-i.invariant in
    let was = c.args.others.now in
    let now = c.loop-i.others in
    let Told : Known → Known → Type 0 = WasTold g.J.LogName.depth g.J.LogName.replicas c.args.first.now.view.seen in
    let all : length was ≤ c.loop-i.i = omega (arith, c.loop-i-test.false, is.1) in
    let Old : List Known → Type 0 = λ l. AllZip Told l now in
    let New : List Known → Type 0 = λ l. AllZip Told (take c.loop-i.i was) l in
    subst Old (take_all c.loop-i.i was all) (subst New (take_all c.loop-i.i now (omega (arith, all, is.1))) is.4)
