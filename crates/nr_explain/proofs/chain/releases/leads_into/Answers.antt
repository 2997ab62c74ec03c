use Rattle.std.proofs.Common.{sym, subst}
use Rattle.std.proofs.lemmas.Bool.{false≢true}
use Rattle.vs_types.specs.declared.requests.answer.Answer.{Answer}
use Rattle.nr_explain.specs.ChainFacts.{LeadsInto}
use Rattle.nr_explain.proofs.LeadingMoments.{leads_not}
use Rattle.nr_explain.proofs.chain.releases.leads_into.Goals as goal

pub returns-in-Mapped : goal.returns-in-Mapped
returns-in-Mapped c = (
  λ t. subst (λ (look : Answer). LeadsInto c.args.given look) (sym c.in-Mapped.is) (c.is_in.ensures.0 t),
  λ leads. c.is_in.ensures.1 (subst (λ (look : Answer). LeadsInto c.args.given look) c.in-Mapped.is leads),
)

pub returns-in_default : goal.returns-in_default
returns-in_default c = (
  λ t. absurd (false≢true t),
  λ leads. absurd (leads_not c.args.given c.args.look c.in_default.not-Mapped leads),
)
