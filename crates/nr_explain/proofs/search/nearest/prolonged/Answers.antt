use Rattle.std.proofs.Common.{arith}
use Rattle.nr_explain.proofs.NearestStretches.{prolonged_apart, prolonged_next}
use Rattle.nr_explain.proofs.search.nearest.prolonged.Goals as goal

pub returns-then-from : goal.returns-then-from
returns-then-from c =
    prolonged_next c.in-Some.stretch c.args.entries c.args.last c.in-Some.is (omega (arith, c.if-from.true, c.from.ensures, c.from-in-Some.ensures))

pub returns-else-from : goal.returns-else-from
returns-else-from c =
    prolonged_apart c.in-Some.stretch c.args.entries c.args.last c.in-Some.is
    (λ next. c.if-from.false (omega (arith, next, c.from.ensures, c.from-in-Some.ensures)))
