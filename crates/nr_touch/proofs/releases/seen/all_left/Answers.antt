use Rattle.std.proofs.Common.{◌++◌, List, map, take, ap, sym, ◌∙◌, arith}
use Rattle.std.proofs.lemmas.List.{map-append, take_all}
use Rattle.nr_touch.specs.inside.Levels.{left_in}
use Rattle.nr_touch.specs.inside.Reached.{seen_left}
use Rattle.nr_touch.specs.declared.changes.history.History.{History}
use Rattle.nr_touch.proofs.cuts.Levels.{left_with}
use Rattle.nr_touch.proofs.releases.seen.all_left.Goals as goal

pub loop-level-init : goal.loop-level-init
loop-level-init c = c.new-seen.ensures.items

pub loop-level-preserved : goal.loop-level-preserved
loop-level-preserved c =
    let levels = c.args.levels.now in
    let index = c.loop-level.level-index in
    let more = c.deref-in-loop-level.ensures.value ∙ c.in_ok-more.ensures ∙ ap (map seen_left) c.deref.ensures.value in
    c.in_ok-seen.ensures ∙ (λ i. c.loop-level.invariant i ++ more i)
    ∙ sym (map-append seen_left (left_in (take index levels)) c.level-item.result.changes.items)
    ∙ ap (map seen_left) (sym (left_with levels index c.level-item.result c.loop-level-test.true c.level-item.is))

pub returns : goal.returns
returns c =
    c.loop-level.invariant
    ∙ ap (λ (xs : List History). map seen_left (left_in xs)) (take_all c.loop-level.level-index c.args.levels.now (omega (arith, c.loop-level-test.false)))
