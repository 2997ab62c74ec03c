use Rattle.vs_types.proofs.Computing.{at_both, answers_compute, look_computes}
use Rattle.vs_types.specs.Examples.{last_page}
use Rattle.vs_types.specs.declared.addresses.depth.Depth.TheVariants.{Four, Five}
use Rattle.vs_types.proofs.examples.last_page_of_the_address_space.Goals as goal

pub returns-clause-answers : goal.returns-clause-answers
returns-clause-answers c = at_both _
    (answers_compute Four 4096 last_page)
    (answers_compute Five 4096 last_page)

pub returns-clause-last_address : goal.returns-clause-last_address
returns-clause-last_address c = at_both _
    (look_computes Four 4096 last_page 0xFFFFFFFFFFFFFFFF)
    (look_computes Five 4096 last_page 0xFFFFFFFFFFFFFFFF)
