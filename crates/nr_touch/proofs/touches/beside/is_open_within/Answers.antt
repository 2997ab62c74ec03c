use Rattle.std.proofs.Common.{IsTrue}
use Rattle.std.proofs.lemmas.Bool.Decides.{not_from_Decides}
use Rattle.vs_types.specs.declared.addresses.page.Size.TheVariants.{K4, M2, G1}
use Rattle.nr_touch.proofs.Tests.{yes}
use Rattle.nr_touch.proofs.TouchesBeside.{none_of_sizes, open_of_size}
use Rattle.nr_touch.proofs.touches.beside.is_open_within.Goals as goal

pub returns-then-meets : goal.returns-then-meets
returns-then-meets c = λ changes numbered are.
    yes (open_of_size changes numbered c.args.address c.args.first c.args.last c.args.updates.now K4 _ are c.number_at.ensures
    (c.meets.ensures.meets.0 c.if-meets.true))

pub returns-then-meets-2 : goal.returns-then-meets-2
returns-then-meets-2 c = λ changes numbered are.
    yes (open_of_size changes numbered c.args.address c.args.first c.args.last c.args.updates.now M2 _ are c.number_at-2.ensures
    (c.meets-2.ensures.meets.0 c.if-meets-2.true))

pub returns : goal.returns
returns c = λ changes numbered are. (
  λ t. open_of_size changes numbered c.args.address c.args.first c.args.last c.args.updates.now G1 _ are c.number_at-3.ensures (c.meets-3.ensures.meets.0 t),
  none_of_sizes changes numbered c.args.address c.args.first c.args.last c.args.updates.now c.number_at.result c.number_at-2.result c.number_at-3.result are
      c.number_at.ensures c.number_at-2.ensures c.number_at-3.ensures (IsTrue c.meets-3.result)
      (λ met. absurd (not_from_Decides _ c.meets.ensures.meets c.if-meets.false met))
      (λ met. absurd (not_from_Decides _ c.meets-2.ensures.meets c.if-meets-2.false met)) c.meets-3.ensures.meets.1,
)
