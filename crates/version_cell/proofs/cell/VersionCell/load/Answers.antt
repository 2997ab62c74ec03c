use Rattle.std.proofs.Common.{rules, ◌≡◌, true, sym, subst}
use Rattle.version_cell.specs.Passes.{CellPass}
use Rattle.version_cell.proofs.Keeps.{loads}
use Rattle.version_cell.proofs.cell.VersionCell.load.Goals as goal

pub load-requires : goal.load-requires
load-requires g c =
    let Fresh : CellPass g.row.V.Denot g.row.X.Denot → Type 0 = λ k. k.fresh ≡ true in
    (search rules, search rules, loads _ _ _ _ _ _ _ _ _ _ c.args.place (subst Fresh (sym c.pass.view_is) c.requires.fresh))
