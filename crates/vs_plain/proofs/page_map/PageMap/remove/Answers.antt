use Rattle.std.proofs.Common.{Some, ap, ◌∙◌}
use Rattle.vs_plain.proofs.Listed.{cut_listed, got_listed}
use Rattle.vs_plain.proofs.page_map.PageMap.remove.Goals as goal

pub returns-in_err-mapping-clause-was : goal.returns-in_err-mapping-clause-was
returns-in_err-mapping-clause-was c =
    rw (← c.self.view_is) (c.from_residual.ensures
    ∙ got_listed c.self.inside.by_base.entries c.args.base _ c.self.invariant c.in_err-mapping.ensures.value)

pub returns-in_err-mapping-clause-removed : goal.returns-in_err-mapping-clause-removed
returns-in_err-mapping-clause-removed c =
    rw (← c.self.view_is) (cut_listed c.self.inside.by_base.entries _ c.args.base c.self.invariant c.remove.ensures.ordered c.remove.ensures.updates.0)

pub returns-clause-was : goal.returns-clause-was
returns-clause-was c =
    rw (← c.self.view_is) (ap Some c.page_from.ensures
    ∙ got_listed c.self.inside.by_base.entries c.args.base _ c.self.invariant c.in_ok-mapping.ensures.value)

pub returns-clause-removed : goal.returns-clause-removed
returns-clause-removed c =
    rw (← c.self.view_is) (cut_listed c.self.inside.by_base.entries _ c.args.base c.self.invariant c.remove.ensures.ordered c.remove.ensures.updates.0)
