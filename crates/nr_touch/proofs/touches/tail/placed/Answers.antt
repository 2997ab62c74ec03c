use Rattle.std.proofs.Common.{◌+◌, ◌<◌, ◌^◌, arith}
use Rattle.std.proofs.lemmas.List.{take_all}
use Rattle.std.proofs.lemmas.List.Elements.{Contains-get_or}
use Rattle.nr_touch.proofs.cuts.Placed.{none_placed, one_placed, places_rise}
use Rattle.nr_touch.proofs.touches.tail.placed.Goals as goal

pub loop-index-init : goal.loop-index-init
loop-index-init c = none_placed c.args.start c.args.changes.now c.new-placed.result.items c.new-placed.ensures.items

pub placed_at-requires : goal.placed_at-requires
placed_at-requires c = c.requires.each _ (Contains-get_or c.args.changes.now c.loop-index.index _ c.loop-index-test.true)

pub loop-index-preserved : goal.loop-index-preserved
loop-index-preserved c =
    let changes = c.args.changes.now in
    let start = c.args.start in
    let index = c.loop-index.index in
    let less = c.loop-index-test.true in
    let few : start + index + 1 < 2 ^ 32 = let most = c.requires.few in omega (arith, most, less) in
    rw (c.in_ok-push.ensures.items, c.placed_at.ensures)
    (one_placed start changes c.loop-index.placed.items index _ less (c.requires.each _ (Contains-get_or changes index _ less)) few c.loop-index.invariant)

pub returns-clause-each : goal.returns-clause-each
returns-clause-each c =
    rw (take_all c.loop-index.index c.args.changes.now (let over = c.loop-index-test.false in omega (arith, over))) at c.loop-index.invariant.are

pub returns-clause-by_place : goal.returns-clause-by_place
returns-clause-by_place c = places_rise c.args.start _ c.loop-index.placed.items c.loop-index.invariant.are

pub returns-clause-numbered : goal.returns-clause-numbered
returns-clause-numbered c = c.loop-index.invariant.numbered
