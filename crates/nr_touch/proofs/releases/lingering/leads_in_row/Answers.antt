use Rattle.std.proofs.Common.{sym, subst}
use Rattle.std.proofs.lemmas.Option.{get_or_from_slice_get}
use Rattle.vs_types.specs.declared.addresses.page.Page.{Page}
use Rattle.nr_touch.specs.inside.Reached.{LeadsSo}
use Rattle.nr_touch.proofs.releases.lingering.leads_in_row.Goals as goal

pub returns-clause-sound : goal.returns-clause-sound
returns-clause-sound c = λ b t. (_, c.leads_there.ensures.sound b t)

pub returns-clause-whole : goal.returns-clause-whole
returns-clause-whole c = λ b page at leads. c.leads_there.ensures.whole b
    (subst (λ (q : Page). LeadsSo b c.args.release.now q) (sym (get_or_from_slice_get c.args.pages.now c.args.number page _ at)) leads)
