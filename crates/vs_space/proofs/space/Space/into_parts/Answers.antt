use Rattle.std.proofs.Common.{[], sym, subst}
use Rattle.vs_space.specs.Held.{Held}
use Rattle.vs_space.specs.Invariant.{IsPageTable, table_in_store}
use Rattle.vs_space.proofs.Relent.{relent}
use Rattle.vs_space.proofs.space.Space.into_parts.Goals as goal

pub returns-clause-keeps : goal.returns-clause-keeps
returns-clause-keeps g c = record {
  table =
      relent [] (subst (λ (h : Held). IsPageTable (table_in_store c.self.inside.depth h c.self.inside.root)) (sym c.into_store.ensures.same)
      c.self.invariant.0);
  in_range = record { from_base = c.into_store.ensures.numbers.from_base; below = c.into_store.ensures.numbers.below };
  whole = c.into_store.ensures.whole;
  counted = c.into_store.ensures.counted;
}
