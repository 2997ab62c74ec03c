use Rattle.std.proofs.Common.{subst, sym, ◌∙◌}
use Rattle.nr_machine.specs.inside.Told.{IsTold}
use Rattle.nr_machine.proofs.Heads.{told_append, told_other}
use Rattle.nr_machine.proofs.node.Node.swap.Goals as goal

pub returns-then-head-packed : goal.returns-then-head-packed
returns-then-head-packed c = subst (λ n. IsTold c.args.self.now c.args.head n) (sym c.append.ensures)
    (told_append c.args.self.now c.args.head c.requires.sound c.requires.phase (c.if-head-packed.true ∙ c.packed.ensures))

pub returns-else-head-packed : goal.returns-else-head-packed
returns-else-head-packed c = let e = c.see.ensures in
    told_other c.args.self.now c.see.new.self c.args.head c.requires.phase (λ is. c.if-head-packed.false (is ∙ sym c.packed.ensures))
    (record { sound = e.sound; learned = e.learned; fits = e.fits; names = e.names; same = e.same; batch = e.batch; spent = e.spent })
