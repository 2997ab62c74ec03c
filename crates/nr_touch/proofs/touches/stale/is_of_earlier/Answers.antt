use Rattle.std.proofs.Common.{take, arith}
use Rattle.std.proofs.lemmas.Bool.{false≢true}
use Rattle.std.proofs.lemmas.List.{take_all}
use Rattle.vs_types.proofs.Lists.{not_in_nil}
use Rattle.nr_touch.specs.inside.Levels.{left_in}
use Rattle.nr_touch.proofs.cuts.Levels.{left_with, level_at}
use Rattle.nr_touch.proofs.touches.stale.is_of_earlier.Goals as goal

pub loop-level-init : goal.loop-level-init
loop-level-init c = (λ t. absurd (false≢true t), λ (page, at, answered). absurd (not_in_nil at.change at.has))

pub is_answered_with-found-requires-clause-columns : goal.is_answered_with-found-requires-clause-columns
is_answered_with-found-requires-clause-columns c =
    let level = c.level-item.result in
    c.requires.each c.loop-level.level-index level (level_at c.args.earlier.now c.loop-level.level-index level c.loop-level-test.true c.level-item.is)

pub loop-level-preserved : goal.loop-level-preserved
loop-level-preserved c =
    let levels = c.args.earlier.now in
    let index = c.loop-level.level-index in
    let level = c.level-item.result in
    let less = c.loop-level-test.true in
    rw (left_with levels index level less c.level-item.is)
    (c.is_answered_with-found.ensures (left_in (take index levels)) (c.requires.rise index level (level_at levels index level less c.level-item.is))
    c.loop-level.invariant)

pub returns : goal.returns
returns c =
    rw (take_all c.loop-level.level-index c.args.earlier.now (omega (arith, c.loop-level-test.false))) at c.loop-level.invariant
