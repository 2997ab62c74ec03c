use Rattle.std.proofs.Common.{◌==◌, not, refl, sym, subst}
use Rattle.std.specs.Prelude.{All}
use Rattle.std.proofs.lemmas.List.Elements.{All-filter}
use Rattle.vs_types.specs.Operation.{IsAction}
use Rattle.nr_core.specs.declared.states.stage.Collected.{Collected}
use Rattle.nr_core.proofs.steps.applying.take_from.Goals as goal

pub returns-clause-seen : goal.returns-clause-seen
returns-clause-seen c = rw (c.is_placed-stored.ensures, c.deref.ensures.value, c.keep_others.ensures) refl

pub returns-clause-each : goal.returns-clause-each
returns-clause-each c layout good = record {
  depth = good.depth;
  limit = good.limit;
  batch = subst (λ items. All (λ (u : Collected). IsAction layout.depth u.entry.op) items) (sym c.keep_others.ensures)
      (All-filter (λ (u : Collected). not (u.thread == c.args.thread)) (λ (u : Collected). IsAction layout.depth u.entry.op) _ good.batch);
}
