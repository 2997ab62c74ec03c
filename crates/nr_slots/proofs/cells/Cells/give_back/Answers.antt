use Rattle.std.proofs.Common.{rules}
use Rattle.nr_slots.proofs.Keeps.{gives_back}
use Rattle.nr_slots.proofs.cells.Cells.give_back.Goals as goal

pub store-requires : goal.store-requires
store-requires g c = (search rules, search rules, gives_back _ _ _ _ _ _ _ (search rules) c.requires.out)
