use Rattle.std.proofs.Common.{◌+◌, arith, subst, sym}
use Rattle.nr_machine.specs.declared.phase.Phase.TheVariants as phases
use Rattle.nr_machine.specs.Fields.{number_of}
use Rattle.nr_machine.specs.inside.Told.{IsTold}
use Rattle.nr_machine.proofs.Loaded.{told_lagging, told_last, told_next}
use Rattle.nr_machine.proofs.node.Node.scan.Goals as goal

pub returns-then-value-need : goal.returns-then-value-need
returns-then-value-need c = let node = c.args.self.now in
    let need = c.need.ensures in
    let behind = c.if-value-need.true in
    subst (λ p. IsTold node c.args.value (record node { asked = node.next + 1; least = c.least_with-self.result; phase = p }))
    (sym c.number-self.ensures)
    (subst (λ l. IsTold node c.args.value (record node { asked = node.next + 1; least = l; phase = number_of phases.Lags }))
    (sym c.least_with-self.ensures)
    (told_lagging node c.args.value c.requires.sound c.requires.phase (omega (arith, need, behind))))

pub returns-then-self : goal.returns-then-self
returns-then-self c = let node = c.args.self.now in
    let need = c.need.ensures in
    let most = c.if-value-need.false in
    subst (λ p. IsTold node c.args.value (record node { asked = node.next + 1; least = c.least_with-self.result; phase = p }))
    (sym c.number-self-then-self.ensures)
    (subst (λ l. IsTold node c.args.value (record node { asked = node.next + 1; least = l; phase = number_of phases.StoresFirst }))
    (sym c.least_with-self.ensures)
    (told_last node c.args.value c.requires.sound c.requires.phase (omega (arith, need, most)) c.if-self.true))

pub returns-else-self : goal.returns-else-self
returns-else-self c = let node = c.args.self.now in
    let need = c.need.ensures in
    let most = c.if-value-need.false in
    subst (λ p. IsTold node c.args.value
    (record node { asked = node.next + 1; least = c.least_with-self.result; next = node.next + 1; phase = p }))
    (sym c.number-self-else-self.ensures)
    (subst (λ l. IsTold node c.args.value
    (record node { asked = node.next + 1; least = l; next = node.next + 1; phase = number_of phases.Scans }))
    (sym c.least_with-self.ensures)
    (told_next node c.args.value c.requires.sound c.requires.phase (omega (arith, need, most)) c.if-self.false))
