use Rattle.std.proofs.Common.{refl, ap, ◌∙◌}
use Rattle.vs_types.specs.Depth.{levels}
use Rattle.nrvs_plan_c.proofs.Shown.{begun_down}
use Rattle.nrvs_plan_c.proofs.begin.start.Goals as goal

pub returns-clause-begun : goal.returns-clause-begun
returns-clause-begun c =
    begun_down _ c.requires.phase c.requires.good refl refl c.all_allowed.ensures (c.levels-level.ensures ∙ ap levels c.depth_in.ensures)
    c.first_stop-stop.ensures.most c.first_stop-stop.ensures.all

pub returns-clause-level : goal.returns-clause-level
returns-clause-level c = c.levels-level.ensures ∙ ap levels c.depth_in.ensures
