use Rattle.std.proofs.Common.{ap, arith, sym}
use Rattle.nr_explain.specs.inside.Nearest.{begun}
use Rattle.nr_explain.proofs.NearestStretches.{begun_apart, begun_next}
use Rattle.nr_explain.proofs.search.nearest.begun.Goals as goal

pub returns-in-None : goal.returns-in-None
returns-in-None c = ap (λ o. begun o c.args.entries) (sym c.in-None.is)

pub returns-then-from : goal.returns-then-from
returns-then-from c =
    begun_next c.in-Some.stretch c.args.entries c.args.first c.in-Some.is (omega (arith, c.if-from.true, c.from.ensures, c.from-in-Some.ensures))

pub returns-else-from : goal.returns-else-from
returns-else-from c =
    begun_apart c.in-Some.stretch c.args.entries c.args.first c.in-Some.is
    (λ next. c.if-from.false (omega (arith, next, c.from.ensures, c.from-in-Some.ensures)))
