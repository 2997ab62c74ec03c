use Rattle.vs_walk.proofs.LawsOfTraversals.{missing_reached}
use Rattle.nr_explain.proofs.Ways.{way_to_frame}
use Rattle.nr_explain.proofs.tables.faults.missing_table.Goals as goal

pub way_to_frame-requires : goal.way_to_frame-requires
way_to_frame-requires c =
    let image = c.args.image.now in
    way_to_frame c.args.depth image.frames image.root c.args.frame (missing_reached c.args.depth image.frames image.root c.args.frame c.requires).0

pub returns-clause-is : goal.returns-clause-is
returns-clause-is c =
    let image = c.args.image.now in
    ((missing_reached c.args.depth image.frames image.root c.args.frame c.requires).1, c.in_ok-path.ensures)
