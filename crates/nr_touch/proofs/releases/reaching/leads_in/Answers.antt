use Rattle.std.proofs.Common.{inl, inr, sym, ◌∙◌, subst}
use Rattle.std.proofs.lemmas.Bool.{false≢true}
use Rattle.vs_types.specs.declared.addresses.page.Page.{Page}
use Rattle.nr_touch.specs.inside.Blocks.{IsBlockOf}
use Rattle.nr_touch.specs.inside.Reached.{LeadsBy}
use Rattle.nr_touch.proofs.releases.reaching.leads_in.Goals as goal

pub returns-then-leads_in_pages-clause-sound : goal.returns-then-leads_in_pages-clause-sound
returns-then-leads_in_pages-clause-sound c = λ b t. c.leads_in_pages.ensures.sound b c.if-leads_in_pages.true

pub returns-then-by_left-clause-sound : goal.returns-then-by_left-clause-sound
returns-then-by_left-clause-sound c = λ b t. c.in_ok-by_left.ensures.sound b c.if-by_left.true

pub returns-clause-whole : goal.returns-clause-whole
returns-clause-whole c = λ b page known listed from of. elim from [
  | inl quiet ↦ absurd (false≢true (sym c.if-leads_in_pages.false ∙ c.leads_in_pages.ensures.whole b page quiet.0 quiet.1 of quiet.2))
  | inr other ↦ elim other [
    | inl it ↦ c.in_ok-by_changes.ensures.whole b it.stay known it.has (subst (λ (q : Page). IsBlockOf q c.args.block) (sym it.same) of) it.from it.until
        (subst (λ (q : Page). LeadsBy b c.args.release.now q it.stay.place) (sym it.same) it.leads)
    | inr there ↦ absurd (false≢true (sym c.if-by_left.false ∙ c.in_ok-by_left.ensures.whole b page there.0 listed there.1 of))
  ]
]

pub returns-clause-known : goal.returns-clause-known
returns-clause-known c = λ b known. c.in_ok-by_changes.ensures.known b known

pub returns-clause-listed : goal.returns-clause-listed
returns-clause-listed c = λ b listed. c.in_ok-by_left.ensures.listed b listed
