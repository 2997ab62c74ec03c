use Rattle.std.proofs.Common.{rules, ◌≡◌, ℕ, true, sym, subst}
use Rattle.version_cell.specs.Passes.{CellPass}
use Rattle.version_cell.specs.Words.{IsOwn}
use Rattle.version_cell.proofs.Keeps.{puts}
use Rattle.version_cell.proofs.cell.VersionCell.store.Goals as goal

pub store-requires : goal.store-requires
store-requires g c =
    let Fresh : CellPass g.row.V.Denot g.row.X.Denot → Type 0 = λ k. k.fresh ≡ true in
    let Own : CellPass g.row.V.Denot g.row.X.Denot → Type 0 = λ k. IsOwn k.from k.own c.args.place in
    let Free : CellPass g.row.V.Denot g.row.X.Denot → Type 0 = λ k. (other : ℕ) → g.P.CellRule.needs k.value c.args.place other → ⊥ in (
      search rules,
      search rules,
      puts _ _ _ _ _ _ _ _ _ _ c.args.place c.args.word (subst Own (sym c.pass.view_is) c.requires.own) (subst Fresh (sym c.pass.view_is) c.requires.fresh)
          (subst Free (sym c.pass.view_is) c.requires.unneeded),
    )
