use Rattle.std.proofs.Common.{◌≤◌, subst, sym}
use Rattle.nr_machine.specs.inside.Told.{IsTold}
use Rattle.nr_machine.proofs.Loaded.{told_entry, told_stray}
use Rattle.nr_machine.proofs.node.Node.load_second.Goals as goal

pub returns-then-link-self : goal.returns-then-link-self
returns-then-link-self c =
    subst (λ p. IsTold c.args.self.now c.args.value (record c.args.self.now { phase = p })) (sym c.number-self.ensures)
    (told_stray c.args.self.now c.args.value c.requires.sound c.requires.phase c.if-link-self.true)

pub returns : goal.returns
returns c =
    let kept = c.keep.ensures in
    let room = subst (λ n. n.got_count ≤ 16) kept.rest kept.few.1 in
    subst (λ n. IsTold c.args.self.now c.args.value n) (sym kept.rest)
    (told_entry c.args.self.now c.args.value c.keep.new.self.got c.requires.sound c.requires.phase c.if-link-self.false room kept.got)
