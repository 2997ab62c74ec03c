use Rattle.std.proofs.Common.{refl}
use Rattle.vs_walk.specs.Walk.{all_rights}
use Rattle.vs_walk.proofs.ExamplesOfTables.{page_walk}
use Rattle.vs_walk.proofs.examples.ignored_bits_are_ignored.Goals as goal

pub returns : goal.returns
returns c = page_walk 0x4007 0x7FF0000000001FFF 0x400123 0x1000 all_rights all_rights refl refl refl refl refl refl
