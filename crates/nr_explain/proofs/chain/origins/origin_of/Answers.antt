use Rattle.std.proofs.Common.{Option, refl, sym, subst}
use Rattle.nr_explain.specs.ChainFacts.{IsOrigin}
use Rattle.nr_explain.specs.inside.Reading.{all_states, began_seen}
use Rattle.nr_explain.specs.declared.chain.progress.Progress.{Progress}
use Rattle.nr_explain.proofs.OriginsShown.{begun_start}
use Rattle.nr_explain.proofs.chain.origins.origin_of.Goals as goal

pub returns-in-Some : goal.returns-in-Some
returns-in-Some c =
    subst (λ (l : Option Progress). IsOrigin (began_seen (all_states l) c.args.segment.now) c.args.first.now.space c.args.address c.origin_from.result)
    (sym c.in-Some.is) c.origin_from.ensures

pub returns-in-Some-start : goal.returns-in-Some-start
returns-in-Some-start c = (
  c.args.first.now.space,
  begun_start c.args.last.now c.args.segment.now c.in-Some-start.field-0.now c.args.first.now.space c.in-None.is (sym c.in-Some-start.ensures.reads) c.requires,
  refl,
)
