use Rattle.std.specs.Prelude.{[], ◌∷◌}
use Rattle.vs_types.specs.declared.addresses.page.Size.TheVariants.{G1}
use Rattle.vs_types.proofs.Computing.{answers_compute, tables_compute}
use Rattle.vs_types.specs.Examples.{map_all, past_three_tables}
use Rattle.vs_types.specs.declared.addresses.depth.Depth.TheVariants.{Four}
use Rattle.vs_types.proofs.examples.full_names_its_need.Goals as goal

pub returns-clause-answers : goal.returns-clause-answers
returns-clause-answers c = answers_compute Four 3 past_three_tables

pub returns-clause-tables : goal.returns-clause-tables
returns-clause-tables c = tables_compute Four 3 past_three_tables

pub returns-clause-without_tables : goal.returns-clause-without_tables
returns-clause-without_tables c = answers_compute Four 0 (map_all 0 G1 0 ∷ [])
