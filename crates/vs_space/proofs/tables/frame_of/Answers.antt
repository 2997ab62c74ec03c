use Rattle.vs_space.proofs.Numbered.{named}
use Rattle.vs_space.proofs.tables.frame_of.Goals as goal

pub in_use-requires : goal.in_use-requires
in_use-requires g c = named _ _ c.args.number c.requires
