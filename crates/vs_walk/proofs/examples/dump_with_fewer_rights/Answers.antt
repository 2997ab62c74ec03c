use Rattle.std.proofs.Common.{refl}
use Rattle.vs_walk.specs.Walk.{all_rights}
use Rattle.vs_walk.specs.Examples.{write_and_exec}
use Rattle.vs_walk.proofs.ExamplesOfTables.{page_walk}
use Rattle.vs_walk.proofs.examples.dump_with_fewer_rights.Goals as goal

pub returns : goal.returns
returns c = page_walk 0x4003 0x1007 0x400000 0x1000 write_and_exec all_rights refl refl refl refl refl refl
