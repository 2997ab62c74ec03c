use Rattle.std.proofs.Common.{rules}
use Rattle.nr_slots.proofs.Keeps.{claims}
use Rattle.nr_slots.proofs.cells.Cells.claim.Goals as goal

pub compare_exchange-found-requires : goal.compare_exchange-found-requires
compare_exchange-found-requires g c = (search rules, search rules, claims _ _ _ _ _ _ _ (search rules) c.requires.word)
