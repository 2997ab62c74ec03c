use Rattle.std.proofs.Common.{sym, ◌∙◌, arith}
use Rattle.std.proofs.lemmas.Bool.Decides.{nat_tests}
use Rattle.nr_machine.proofs.Refusals.{no_refusal}
use Rattle.nr_machine.proofs.node.Node.test.Goals as goal
use Rattle.nr_machine.proofs.node.Node.test.Goals.{in-Rest, in_default}

pub returns : goal.returns
returns c = elim c.match-matches.branch [
  | in-Rest w ↦ no_refusal c.args.self.now c.args.updates.now (sym c.of.ensures ∙ w.in-Rest.is)
      (λ none. let one = c.is_empty.ensures in let two = c.if-is_empty.false in grind (arith, nat_tests, one, two, none))
      c.if-updates-gt-RING.false (sym c.are_small.ensures ∙ c.if-not-are_small.false)
  | in_default w ↦ let one = c.if-not-matches.false in let two = w.matches-is in absurd (cc)
]
