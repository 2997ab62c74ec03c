use Rattle.std.proofs.Common.{◌≤◌, sym, subst}
use Rattle.vs_types.specs.declared.limits.TheConstants.{TABLES}
use Rattle.vs_space.specs.Table.{PageTable}
use Rattle.nr_core.specs.inside.OneSpace.{is_the_space}
use Rattle.nr_core.proofs.states.table.Table.apply.Goals as goal

pub invariant_of-self : goal.invariant_of-self
invariant_of-self c = record {
  of = (_, (c.apply.ensures.steps c.args.self.now.of.0 c.args.self.now.of.1).1);
  few = subst (λ (pages : PageTable). pages.limit ≤ TABLES) (sym c.apply.ensures.same) c.args.self.now.few;
}

pub returns-clause-space : goal.returns-clause-space
returns-clause-space c = is_the_space _ c.self-1.given.0 _ (c.apply.ensures.steps c.args.self.now.of.0 c.args.self.now.of.1).1
