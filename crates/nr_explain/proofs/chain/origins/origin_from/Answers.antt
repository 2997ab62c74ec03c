use Rattle.std.proofs.Common.{Option, sym, ap, ◌∙◌}
use Rattle.std.proofs.lemmas.Bool.{iff_false}
use Rattle.vs_types.specs.Step.{look}
use Rattle.vs_types.proofs.Spaces.{look_of_nothing}
use Rattle.vs_plain.specs.Plain.{BoundedSpace}
use Rattle.nr_explain.specs.ChainFacts.{first_of}
use Rattle.nr_explain.proofs.OriginsShown.{space_in_it}
use Rattle.nr_explain.proofs.chain.origins.origin_from.Goals as goal

pub returns-then-is_same : goal.returns-then-is_same
returns-then-is_same c =
    (c.in-Some.space.space, ap space_in_it c.in-Some.is, sym c.resolve-look.ensures ∙ c.is_same.ensures.0 c.if-is_same.true ∙ c.resolve.ensures)

pub returns-then-is_same-2 : goal.returns-then-is_same-2
returns-then-is_same-2 c =
    (ap space_in_it c.in-None.is, sym c.resolve-look.ensures ∙ c.is_same-in-None.ensures.0 c.if-is_same-2.true ∙ sym (look_of_nothing c.args.address))

pub returns-else-is_same-2 : goal.returns-else-is_same-2
returns-else-is_same-2 c = λ same.
    iff_false c.is_same-in-None.ensures c.if-is_same-2.false
    (c.resolve-look.ensures ∙ same ∙ ap (λ (o : Option BoundedSpace). look (first_of (space_in_it o)) c.args.address) c.in-None.is
    ∙ look_of_nothing c.args.address)
