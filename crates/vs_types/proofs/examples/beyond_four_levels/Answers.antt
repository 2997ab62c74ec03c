use Rattle.std.specs.Prelude.{[], ◌∷◌, take}
use Rattle.vs_types.proofs.Computing.{answers_compute, tables_compute, look_computes}
use Rattle.vs_types.specs.Examples.{beyond_four_levels, map_all, one_gigabyte}
use Rattle.vs_types.specs.declared.addresses.depth.Depth.TheVariants.{Five}
use Rattle.vs_types.specs.declared.addresses.page.Size.TheVariants.{K4}
use Rattle.vs_types.proofs.examples.beyond_four_levels.Goals as goal

pub returns-clause-answers : goal.returns-clause-answers
returns-clause-answers c = answers_compute Five 4096 beyond_four_levels

pub returns-clause-with_one : goal.returns-clause-with_one
returns-clause-with_one c = tables_compute Five 4096 (take 1 beyond_four_levels)

pub returns-clause-with_two : goal.returns-clause-with_two
returns-clause-with_two c = tables_compute Five 4096 (take 2 beyond_four_levels)

pub returns-clause-with_three : goal.returns-clause-with_three
returns-clause-with_three c = tables_compute Five 4096 beyond_four_levels

pub returns-clause-first_high_address : goal.returns-clause-first_high_address
returns-clause-first_high_address c = look_computes Five 4096 beyond_four_levels 0xFF00000000000000

pub returns-clause-full : goal.returns-clause-full
returns-clause-full c = answers_compute Five 4 (map_all 0 K4 0x1000 ∷ [])

pub returns-clause-gigabyte : goal.returns-clause-gigabyte
returns-clause-gigabyte c = tables_compute Five 4096 (take 1 one_gigabyte)
