use Rattle.std.proofs.Common.{[], ◌∷◌, sym, subst}
use Rattle.vs_space.specs.Table.{PageTable, IsTableStep}
use Rattle.vs_space.proofs.Relent.{relent_step}
use Rattle.nrvs_c.specs.Table.{lent_table}
use Rattle.nrvs_c.proofs.InRange.{usable}
use Rattle.nrvs_c.proofs.change.apply_in.Goals as goal

pub returns-clause-step : goal.returns-clause-step
returns-clause-step c =
    let opened = subst (λ (t : PageTable). IsTableStep t c.args.op c.apply-answer.result c.apply-answer.new.self) c.open-space.ensures c.apply-answer.ensures in
    let names = c.args.words.ghost_name ∷ c.args.marks.ghost_name ∷ [] in
    relent_step [] (subst (IsTableStep (lent_table names c.args.table c.args.words.now c.args.marks.now) c.args.op c.apply-answer.result)
    (sym c.close-words.ensures.same) opened)

pub returns-clause-usable : goal.returns-clause-usable
returns-clause-usable c = let closed = c.close-words.ensures in usable _ _ _ closed.open _ closed.made closed.levels closed.frames
