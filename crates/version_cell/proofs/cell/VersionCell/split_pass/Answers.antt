use Rattle.std.proofs.Common.{rules, ◌≤◌, length, sym, subst}
use Rattle.crossbeam_utils.specs.Register.{Forks}
use Rattle.version_cell.specs.Passes.{CellPass}
use Rattle.version_cell.proofs.Keeps.{splits}
use Rattle.version_cell.proofs.cell.VersionCell.split_pass.Goals as goal

pub split_seat-seat-requires : goal.split_seat-seat-requires
split_seat-seat-requires g c =
    let Cut : CellPass g.row.V.Denot g.row.X.Denot → Type 0 = λ k. Forks g.P.CellRule.holds k.number k.view (g.S.Split.left k.view) (g.S.Split.right k.view) in
    let Few : CellPass g.row.V.Denot g.row.X.Denot → Type 0 = λ k. g.row.W ≤ length k.own in (
      search rules,
      search rules,
      splits _ _ _ _ _ _ _ _ g.row.W _ _ _ (subst Few (sym c.pass.view_is) c.requires.words) (subst Cut (sym c.pass.view_is) c.requires.rule),
    )
