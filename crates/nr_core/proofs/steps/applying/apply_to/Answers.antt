use Rattle.std.proofs.Common.{refl, sym, subst, ◌∙◌}
use Rattle.std.specs.Prelude.{All}
use Rattle.vs_types.specs.Operation.{IsAction}
use Rattle.nr_core.specs.declared.states.stage.Collected.{Collected}
use Rattle.nr_core.proofs.Lists.{noted_good}
use Rattle.nr_core.proofs.steps.applying.apply_to.Goals as goal

pub returns-clause-seen : goal.returns-clause-seen
returns-clause-seen c state good = rw (c.note.ensures, c.apply-answer.ensures.answer, c.apply-answer.ensures.space, good.depth, good.limit) refl

pub returns-clause-each : goal.returns-clause-each
returns-clause-each c layout good = record {
  depth = c.apply-answer.ensures.depth ∙ good.depth;
  limit = c.apply-answer.ensures.limit ∙ good.limit;
  batch = subst (λ items. All (λ (u : Collected). IsAction layout.depth u.entry.op) items) (sym c.note.ensures) (noted_good layout.depth _ _ good.batch);
}
