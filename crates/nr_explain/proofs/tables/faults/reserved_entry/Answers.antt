use Rattle.vs_walk.proofs.LawsOfTraversals.{reserved_met}
use Rattle.nr_explain.proofs.Ways.{way_to_reserved}
use Rattle.nr_explain.proofs.tables.faults.reserved_entry.Goals as goal

pub way_to_reserved-requires : goal.way_to_reserved-requires
way_to_reserved-requires c =
    let image = c.args.image.now in
    let (steps, (level, leads, reserved)) = way_to_reserved c.args.depth image.frames image.root c.args.frame c.args.index
    (reserved_met c.args.depth image.frames image.root c.args.frame c.args.index c.requires) in
    (steps, level, leads, reserved)

pub returns-clause-is : goal.returns-clause-is
returns-clause-is c = (c.in_ok-path.ensures.leads, c.in_ok-path.ensures.reserved, c.in_ok-path.ensures.bit)
