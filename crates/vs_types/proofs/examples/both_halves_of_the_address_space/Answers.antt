use Rattle.vs_types.proofs.Computing.{answers_compute, tables_compute, look_computes}
use Rattle.vs_types.specs.Examples.{both_halves}
use Rattle.vs_types.specs.declared.addresses.depth.Depth.TheVariants.{Four}
use Rattle.vs_types.proofs.examples.both_halves_of_the_address_space.Goals as goal

pub returns-clause-answers : goal.returns-clause-answers
returns-clause-answers c = answers_compute Four 4096 both_halves

pub returns-clause-tables : goal.returns-clause-tables
returns-clause-tables c = tables_compute Four 4096 both_halves

pub returns-clause-last_low_address : goal.returns-clause-last_low_address
returns-clause-last_low_address c = look_computes Four 4096 both_halves 0x7FFFFFFFFFFF
