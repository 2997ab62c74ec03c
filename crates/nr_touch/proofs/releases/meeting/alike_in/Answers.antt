use Rattle.std.proofs.Common.{List, take, sym, subst, arith}
use Rattle.std.proofs.lemmas.List.{take_all}
use Rattle.vs_types.proofs.Lists.{not_in_nil}
use Rattle.nr_touch.specs.inside.Alike.{AreAlikeTo}
use Rattle.nr_touch.specs.inside.Levels.{left_in}
use Rattle.nr_touch.specs.declared.changes.change.PlacedChange.{PlacedChange}
use Rattle.nr_touch.specs.declared.changes.history.History.{History}
use Rattle.nr_touch.proofs.cuts.Levels.{alike_more, left_with, level_at}
use Rattle.nr_touch.proofs.releases.meeting.alike_in.Goals as goal

pub loop-level-init : goal.loop-level-init
loop-level-init c = record { up = let room = c.requires.in_range in omega (arith, room); alike = λ b low high change has. absurd (not_in_nil change has) }

pub alike_until-requires-clause-columns : goal.alike_until-requires-clause-columns
alike_until-requires-clause-columns c =
    let level = c.level-item.result in
    c.requires.ladder.each c.loop-level.level-index level
    (level_at c.args.levels.now c.loop-level.level-index level c.loop-level-test.true c.level-item.is)

pub loop-level-preserved : goal.loop-level-preserved
loop-level-preserved c =
    let levels = c.args.levels.now in
    let index = c.loop-level.level-index in
    let level = c.level-item.result in
    subst (λ (xs : List PlacedChange). AreAlikeTo xs c.args.address c.min-last.result)
    (sym (left_with levels index level c.loop-level-test.true c.level-item.is))
    (alike_more (left_in (take index levels)) level.changes.items c.args.address c.loop-level.last c.alike_until.result c.min-last.result
    c.loop-level.invariant c.alike_until.ensures c.min-last.ensures)

pub returns : goal.returns
returns c =
    subst (λ (xs : List History). AreAlikeTo (left_in xs) c.args.address c.loop-level.last)
    (take_all c.loop-level.level-index c.args.levels.now (omega (arith, c.loop-level-test.false))) c.loop-level.invariant
