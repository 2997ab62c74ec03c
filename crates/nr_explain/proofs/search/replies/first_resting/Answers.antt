use Rattle.std.proofs.Common.{sym, subst}
use Rattle.nr_explain.specs.inside.Searches.{RestsNowhere}
use Rattle.nr_explain.proofs.search.replies.first_resting.Goals as goal

pub returns-in-Some : goal.returns-in-Some
returns-in-Some c = (
  c.in-Some.ensures.0,
  subst (RestsNowhere c.args.trace.now c.args.replica c.args.applied) (sym c.in-Some.ensures.1) c.loop-index.invariant,
)
