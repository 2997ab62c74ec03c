use Rattle.std.proofs.Common.{IsTrue}
use Rattle.std.proofs.lemmas.Bool.Decides.{not_from_Decides}
use Rattle.vs_types.specs.declared.addresses.page.Size.TheVariants.{K4, M2, G1}
use Rattle.nr_touch.proofs.Looked.{in_sizes, of_size}
use Rattle.nr_touch.proofs.Tests.{yes}
use Rattle.nr_touch.proofs.touches.between.is_answered_between.Goals as goal

pub returns-then-is_answered_in : goal.returns-then-is_answered_in
returns-then-is_answered_in c =
    yes (of_size c.args.history.now c.requires c.args.touch.now c.args.first c.args.last K4 (c.is_answered_in.ensures.0 c.if-is_answered_in.true))

pub returns-then-is_answered_in-2 : goal.returns-then-is_answered_in-2
returns-then-is_answered_in-2 c =
    yes (of_size c.args.history.now c.requires c.args.touch.now c.args.first c.args.last M2 (c.is_answered_in-2.ensures.0 c.if-is_answered_in-2.true))

pub returns : goal.returns
returns c = (
  λ t. of_size c.args.history.now c.requires c.args.touch.now c.args.first c.args.last G1 (c.is_answered_in-3.ensures.0 t),
  in_sizes c.args.history.now c.requires c.args.touch.now c.args.first c.args.last (IsTrue c.is_answered_in-3.result)
      (λ small. absurd (not_from_Decides _ c.is_answered_in.ensures c.if-is_answered_in.false small))
      (λ large. absurd (not_from_Decides _ c.is_answered_in-2.ensures c.if-is_answered_in-2.false large)) c.is_answered_in-3.ensures.1,
)
