use Rattle.std.proofs.Common.{ap, ◌∙◌}
use Rattle.std.specs.FinMap as finite
use Rattle.vs_space.specs.Held.{Held, numbered}
use Rattle.vs_space.proofs.Numbered.{held, stored, numbers_stored, words_at, numbers_removed, whole-remove, numbered-remove}
use Rattle.vs_arena.specs.Store.{zeros}
use Rattle.vs_space.proofs.Writes.{used_some}
use Rattle.vs_space.proofs.Counts.{counted_remove}
use Rattle.vs_space.proofs.tables.Tables.give.Goals as goal

pub invariant_of-self : goal.invariant_of-self
invariant_of-self g c = (
  rw c.give_zeroed.ensures.removed (whole-remove _ _ c.self.invariant.0),
  numbers_stored _ c.give_zeroed.ensures.same_place
      (ap (numbered (g.S.FrameStore.place c.self.inside.store).base) c.give_zeroed.ensures.removed ∙ numbered-remove _ _ _)
      (numbers_removed c.self.invariant.1 _),
  rw (c.give_zeroed.ensures.removed, c.give_zeroed.ensures.removed_note) (counted_remove c.self.invariant.2 c.frame_of-frame.result),
)

pub returns-clause-numbers : goal.returns-clause-numbers
returns-clause-numbers g c =
    numbers_stored _ c.give_zeroed.ensures.same_place
    (ap (numbered (g.S.FrameStore.place c.self.inside.store).base) c.give_zeroed.ensures.removed ∙ numbered-remove _ _ _)
    (numbers_removed c.self.invariant.1 _)

pub returns-clause-removed : goal.returns-clause-removed
returns-clause-removed g c =
    stored _ c.give_zeroed.ensures.same_place
    (ap (numbered (g.S.FrameStore.place c.self.inside.store).base) c.give_zeroed.ensures.removed ∙ numbered-remove _ _ _
    ∙ ap (finite.remove _) c.frame_of-frame.ensures.numbered)
    ∙ ap (λ (h : Held). held h.lenders h.base h.limit (finite.remove h.memory c.args.number)) c.self.view_is

pub frame_of-frame-requires : goal.frame_of-frame-requires
frame_of-frame-requires g c = used_some _ c.args.number zeros (ap (λ (h : Held). finite.get h.memory c.args.number) c.self.view_is ∙ c.requires)

pub give_zeroed-requires-clause-zeroed : goal.give_zeroed-requires-clause-zeroed
give_zeroed-requires-clause-zeroed g c = words_at _ _ c.args.number _ zeros c.frame_of-frame.ensures.numbered c.frame_of-frame.ensures.in_use
    (ap (λ (h : Held). finite.get h.memory c.args.number) c.self.view_is ∙ c.requires)
