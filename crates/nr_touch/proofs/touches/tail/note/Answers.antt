use Rattle.std.proofs.Common.{sym, ◌∙◌}
use Rattle.nr_touch.proofs.cuts.Thinned.{none_noted, one_noted}
use Rattle.nr_touch.proofs.touches.tail.note.Goals as goal

pub returns-then-ends_itself : goal.returns-then-ends_itself
returns-then-ends_itself c = λ changes noted.
    none_noted changes c.args.left.now c.args.numbers.now (sym c.ends_itself.ensures ∙ c.if-ends_itself.true) noted

pub returns : goal.returns
returns c = λ changes noted.
    one_noted changes c.args.left.now c.args.numbers.now c.insert.new.self c.number_left.result c.number_left.ensures c.in_ok-insert.ensures.updates noted
