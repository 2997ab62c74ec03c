use Rattle.std.proofs.Common.{sym, subst}
use Rattle.vs_space.specs.Held.{Held}
use Rattle.vs_space.specs.Invariant.{IsPageTable, table_in_store}
use Rattle.vs_space.proofs.Relent.{relent}
use Rattle.vs_space.proofs.space.Space.from_parts.Goals as goal

pub invariant_of-result : goal.invariant_of-result
invariant_of-result g c = (
  subst (λ (h : Held). IsPageTable (table_in_store c.args.parts.depth h c.args.parts.root)) (sym c.from_store.ensures.same)
      (relent (g.S.FrameStore.place c.args.parts.store).lenders c.requires.table),
  c.from_store.ensures.numbers,
)
