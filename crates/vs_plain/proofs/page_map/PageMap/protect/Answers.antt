use Rattle.std.proofs.Common.{Some, sym, ap, ◌∙◌, rules}
use Rattle.std.specs.FinMap as finite
use Rattle.vs_types.specs.declared.addresses.page.Page.{Page}
use Rattle.vs_plain.specs.inside.Listed.{listed_space}
use Rattle.vs_plain.proofs.Listed.{put_listed, got_listed}
use Rattle.vs_plain.proofs.page_map.PageMap.protect.Goals as goal

pub returns-in_err-mapping-clause-was : goal.returns-in_err-mapping-clause-was
returns-in_err-mapping-clause-was c =
    rw (← c.self.view_is) (c.from_residual.ensures
    ∙ got_listed c.self.inside.by_base.entries c.args.base _ c.self.invariant c.in_err-mapping.ensures.value)

pub returns-clause-was : goal.returns-clause-was
returns-clause-was c =
    rw (← c.self.view_is) (ap Some c.page_from-was.ensures
    ∙ got_listed c.self.inside.by_base.entries c.args.base _ c.self.invariant c.in_ok-mapping.ensures.value)

pub returns-clause-changed : goal.returns-clause-changed
returns-clause-changed c =
    let es = c.self.inside.by_base.entries in
    let w = c.get_mut.follows.holds (record c.in_ok-mapping.mapping.now { rights = c.args.rights }) in
    rw (← c.self.view_is) (put_listed es _ c.args.base _ c.self.invariant w.4 (w.3 (search rules)).0
    ∙ ap (λ (page : Page). finite.insert (listed_space es) c.args.base (record page { rights = c.args.rights })) (sym c.page_from-was.ensures))
