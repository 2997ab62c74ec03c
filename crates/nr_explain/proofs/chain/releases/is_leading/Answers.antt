use Rattle.std.proofs.Common.{arith}
use Rattle.std.proofs.lemmas.Bool.{false≢true}
use Rattle.nr_explain.proofs.chain.releases.is_leading.Goals as goal

pub returns-then-entries-first : goal.returns-then-entries-first
returns-then-entries-first c = (
  λ t. absurd (false≢true t),
  λ both. absurd (let low = both.0 in omega (arith, low, c.if-entries-first.true)),
)

pub returns : goal.returns
returns c = (
  λ t. (omega (arith, c.if-entries-first.false), c.leads_into.ensures.0 t),
  λ both. c.leads_into.ensures.1 both.1,
)
