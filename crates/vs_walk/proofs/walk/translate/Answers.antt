use Rattle.std.proofs.Common.{ap, ◌∙◌}
use Rattle.vs_types.specs.Depth.{levels}
use Rattle.vs_types.specs.Entry.{all_rights}
use Rattle.vs_walk.specs.InFormat.{walk_of}
use Rattle.vs_walk.proofs.InFormat.{same_walk}
use Rattle.vs_walk.proofs.walk.translate.Goals as goal

pub returns-in-NotMapped : goal.returns-in-NotMapped
returns-in-NotMapped g c =
    ap walk_of c.in-NotMapped.ensures ∙ same_walk c.args.depth (g.F.Frames.memory c.args.frames.now) (levels c.args.depth) c.args.root all_rights c.args.address

pub returns-in-Reserved : goal.returns-in-Reserved
returns-in-Reserved g c =
    ap walk_of c.in-Reserved.ensures ∙ same_walk c.args.depth (g.F.Frames.memory c.args.frames.now) (levels c.args.depth) c.args.root all_rights c.args.address

pub returns-in-Missing : goal.returns-in-Missing
returns-in-Missing g c =
    ap walk_of c.in-Missing.ensures ∙ same_walk c.args.depth (g.F.Frames.memory c.args.frames.now) (levels c.args.depth) c.args.root all_rights c.args.address

pub returns-in-Mapped : goal.returns-in-Mapped
returns-in-Mapped g c =
    ap walk_of c.in-Mapped.ensures ∙ same_walk c.args.depth (g.F.Frames.memory c.args.frames.now) (levels c.args.depth) c.args.root all_rights c.args.address
