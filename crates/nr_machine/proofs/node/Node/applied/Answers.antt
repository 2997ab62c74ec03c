use Rattle.std.proofs.Common.{ap, sym, ◌∙◌}
use Rattle.nr_machine.specs.Actor.{update_at}
use Rattle.nr_machine.specs.Machine.{actor_of, asked_in}
use Rattle.nr_machine.proofs.node.Node.applied.Goals as goal
use Rattle.nr_machine.proofs.node.Node.applied.Goals.{in-Applies, in_default}

pub returns-clause-others : goal.returns-clause-others
returns-clause-others c = elim c.match-matches.branch [
  | in-Applies w ↦ λ never. absurd (never (update_at (actor_of c.args.self.now).got 0)
      (ap (λ p. asked_in p c.args.self.now) (sym c.of.ensures ∙ w.in-Applies.is)))
  | in_default w ↦ let one = c.if-not-matches.false in let two = w.matches-is in absurd (cc)
]
