use Rattle.std.proofs.Common.{sym, ap, ◌∙◌}
use Rattle.vs_types.specs.Entry.{meaning}
use Rattle.vs_plan.proofs.Asking.{absent_right, reserved_right}
use Rattle.vs_plan.proofs.plans.planner.Planner.plan_absent.Goals as goal

pub returns-in-Reserved : goal.returns-in-Reserved
returns-in-Reserved c =
    reserved_right c.requires.end (ap (meaning c.args.self.now.level) (sym c.new.ensures) ∙ sym c.read.ensures ∙ c.in-Reserved.is) _

pub returns-in_default : goal.returns-in_default
returns-in_default c = absent_right c.requires.end c.requires.no_map c.requires.none _ c.nothing-in_default.ensures
