use Rattle.vs_types.proofs.Computing.{at_both, answers_compute, look_computes}
use Rattle.vs_types.specs.Examples.{other_rights}
use Rattle.vs_types.specs.declared.addresses.depth.Depth.TheVariants.{Four, Five}
use Rattle.vs_types.proofs.examples.protect_changes_rights.Goals as goal

pub returns-clause-answers : goal.returns-clause-answers
returns-clause-answers c = at_both _
    (answers_compute Four 4096 other_rights)
    (answers_compute Five 4096 other_rights)

pub returns-clause-changed : goal.returns-clause-changed
returns-clause-changed c = at_both _
    (look_computes Four 4096 other_rights 0x1000)
    (look_computes Five 4096 other_rights 0x1000)
