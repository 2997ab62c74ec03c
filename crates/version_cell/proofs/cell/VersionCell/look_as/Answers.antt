use Rattle.std.proofs.Common.{rules, sym, subst}
use Rattle.crossbeam_utils.specs.Register.{Turns}
use Rattle.version_cell.specs.Passes.{CellPass}
use Rattle.version_cell.proofs.Keeps.{looks}
use Rattle.version_cell.proofs.cell.VersionCell.look_as.Goals as goal

pub load-found-requires : goal.load-found-requires
load-found-requires g c =
    let Look : CellPass g.row.V.Denot g.row.X.Denot → Type 0 = λ k. Turns g.P.CellRule.holds k.number k.view (λ x. x) g.M.CellOutcome.then in
    (search rules, search rules, looks _ _ _ _ _ _ _ g.M.CellOutcome.then _ _ _ (subst Look (sym c.pass.view_is) c.requires.rule))
