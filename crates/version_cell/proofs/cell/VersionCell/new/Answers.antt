use Rattle.std.proofs.Common.{rules, ◌≡◌, ◌∙◌, ◌+◌, ℕ, List, [], length, replicate, drop, set, sym, subst, arith}
use Rattle.version_cell.specs.inside.Versions.{Versioned, beginning}
use Rattle.atomic_table.specs.Table.{opening}
use Rattle.version_cell.proofs.Keeps.{opens}
use Rattle.version_cell.proofs.Starts.{new_words}
use Rattle.version_cell.proofs.cell.VersionCell.new.Goals as goal

pub of_words-requires : goal.of_words-requires
of_words-requires g c =
    let n : ℕ = c.args.words in
    let zeros : c.resize.new.self.items ≡ replicate (32 + n) 0 = search rules in
    let new = new_words c.args.code n c.resize.new.self.items zeros in
    let long = new.long in
    subst (λ (ws : List ℕ). Versioned (length (set c.resize.new.self.items 16 c.args.code)) g.P.CellRule.holds g.P.CellRule.start g.P.CellRule.code
    g.P.CellRule.age g.P.CellRule.needs g.P.CellRule.lasts
    (opening ws [] (beginning g.P.CellRule.start g.P.CellRule.first (drop 32 (set c.resize.new.self.items 16 c.args.code)))))
    (sym c.as_slice.ensures.value)
    (opens g.P.CellRule.holds g.P.CellRule.start g.P.CellRule.code g.P.CellRule.age g.P.CellRule.needs g.P.CellRule.lasts
    (set c.resize.new.self.items 16 c.args.code)
    g.P.CellRule.first (omega (arith, long)) (new.coded ∙ c.requires.code) c.requires.needs c.requires.rule)

pub returns : goal.returns
returns g c =
    let n : ℕ = c.args.words in
    let zeros : c.resize.new.self.items ≡ replicate (32 + n) 0 = search rules in
    let new = new_words c.args.code n c.resize.new.self.items zeros in
    let long = new.long in
    (search rules, search rules, search rules, search rules, search rules, search rules)
