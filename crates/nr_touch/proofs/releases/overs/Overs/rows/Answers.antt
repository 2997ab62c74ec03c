use Rattle.std.proofs.Common.{ℕ, subst, arith}
use Rattle.nr_touch.specs.inside.Overs.{AreOver}
use Rattle.nr_touch.proofs.OverRows.{over_again}
use Rattle.nr_touch.proofs.releases.overs.Overs.rows.Goals as goal

pub returns-in_default : goal.returns-in_default
returns-in_default c = λ joined b changed known k stay low less. absurd (omega (arith, less))

pub returns-then-release-over : goal.returns-then-release-over
returns-then-release-over c = λ joined b changed known k stay low less. absurd (omega (arith, less))

pub returns : goal.returns
returns c = λ joined b changed known.
    let over = c.in-Some.over in
    let is = c.in-Some.ensures in
    over_again b changed c.args.release.now c.args.block over.release
    (record { size = is.memory.size; phys = is.memory.phys; made = omega (arith, c.if-release-over.false) }) over.rows
    (subst (λ (block : ℕ). AreOver b changed over.release block 0 over.rows) is.of_block (known is.key over is.has))
