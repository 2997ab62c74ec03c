use Rattle.std.proofs.Common.{◌≡◌, ap, ◌∙◌, arith}
use Rattle.vs_types.specs.Depth.{levels}
use Rattle.nrvs_c.proofs.exports.nrvs_table_new.Goals.{in-4, in-5}
use Rattle.nrvs_c.proofs.exports.nrvs_table_new.Goals as goal

pub returns-clause-levels : goal.returns-clause-levels
returns-clause-levels c = λ _. c.make.ensures.levels ∙ (elim c.match-levels.branch as (λ _. levels c.match-levels.depth ≡ c.args.levels) [
  | in-4 w ↦ omega (arith, ap levels w.depth-is, w.in-4)
  | in-5 w ↦ omega (arith, ap levels w.depth-is, w.in-5)
])
