use Rattle.std.proofs.Common.{rules, ◌≡◌, ◌<◌, ℕ, ◌⊎◌, sym, subst}
use Rattle.crossbeam_utils.specs.Register.{Turns, TurnsAt}
use Rattle.version_cell.specs.Passes.{CellPass}
use Rattle.version_cell.specs.Words.{Leaves, LiesIn}
use Rattle.version_cell.proofs.Keeps.{swaps}
use Rattle.version_cell.proofs.cell.VersionCell.exchange_as.Goals as goal

pub compare_exchange-found-requires : goal.compare_exchange-found-requires
compare_exchange-found-requires g c =
    let K = CellPass g.row.V.Denot g.row.X.Denot in
    let P = g.P.CellRule in
    let next = g.E.CellChange.next in
    let same = sym c.pass.view_is in (
      search rules,
      search rules,
      swaps _ _ _ _ _ _ _ next g.E.CellChange.then g.M.CellOutcome.then _ _ _ _ c.args.code
          c.pass.invariant.0
          (subst (λ (k : K). c.args.code ≡ P.code (next k.value)) same c.requires.code)
          (subst (λ (k : K). P.code k.value < c.args.code) same c.requires.rises.0)
          (subst (λ (k : K). P.age k.value < P.age (next k.value)) same c.requires.rises.1)
          (subst (λ (k : K). TurnsAt P.holds k.number k.view k.value (next k.value) g.E.CellChange.then) same c.requires.rule)
          (subst (λ (k : K). (place word : ℕ) → P.needs (next k.value) place word
          → P.needs k.value place word ⊎ LiesIn k.from k.own place word) same c.requires.needs)
          (subst (λ (k : K). Leaves P.holds P.needs P.lasts k.number k.view k.value (next k.value)) same c.requires.leaves)
          (subst (λ (k : K). Turns P.holds k.number k.view (λ x. x) g.M.CellOutcome.then) same c.requires.look),
    )
