use Rattle.std.proofs.Common.{Some, sym, ap, subst, ◌∙◌}
use Rattle.std.specs.Prelude.{IsSome}
use Rattle.std.specs.FinMap as finite
use Rattle.vs_space.specs.Held.{Held, numbered, word_at, with_word}
use Rattle.vs_space.proofs.Numbered.{held, stored, numbers_stored, numbers_written, whole-set, word_numbered, with_word_numbered}
use Rattle.vs_space.proofs.Counts.{counted_over}
use Rattle.vs_space.proofs.tables.Tables.write.Goals as goal

pub invariant_of-self : goal.invariant_of-self
invariant_of-self g c = (
  rw c.set.ensures.written (whole-set _ _ c.args.index c.args.word c.frame_of-frame.ensures.in_use c.self.invariant.0),
  numbers_stored _ c.set.ensures.same_place
      (ap (numbered (g.S.FrameStore.place c.self.inside.store).base) c.set.ensures.written
      ∙ with_word_numbered _ _ c.args.number _ c.args.index c.args.word c.frame_of-frame.ensures.numbered c.frame_of-frame.ensures.in_use)
      (numbers_written c.self.invariant.1 c.args.number c.args.index c.args.word
      (subst (λ (h : Held). IsSome (finite.get h.memory c.args.number)) (sym c.self.view_is) c.requires.in_use)),
  rw (c.set.ensures.written, c.set.ensures.same_notes) (counted_over c.self.invariant.2 c.frame_of-frame.result c.frame_of-frame.ensures.in_use
      c.self.invariant.0 c.args.index c.requires.in_frame c.args.word
      (λ none. c.requires.present (ap (λ (h : Held). word_at h.memory c.args.number c.args.index) (sym c.self.view_is)
      ∙ word_numbered _ _ c.args.number _ c.args.index c.frame_of-frame.ensures.numbered c.frame_of-frame.ensures.in_use ∙ ap Some none))
      c.requires.some),
)

pub returns-clause-written : goal.returns-clause-written
returns-clause-written g c =
    stored _ c.set.ensures.same_place
    (ap (numbered (g.S.FrameStore.place c.self.inside.store).base) c.set.ensures.written
    ∙ with_word_numbered _ _ c.args.number _ c.args.index c.args.word c.frame_of-frame.ensures.numbered c.frame_of-frame.ensures.in_use)
    ∙ ap (λ (h : Held). held h.lenders h.base h.limit (with_word h.memory c.args.number c.args.index c.args.word)) c.self.view_is

pub returns-clause-numbers : goal.returns-clause-numbers
returns-clause-numbers g c =
    numbers_stored _ c.set.ensures.same_place
    (ap (numbered (g.S.FrameStore.place c.self.inside.store).base) c.set.ensures.written
    ∙ with_word_numbered _ _ c.args.number _ c.args.index c.args.word c.frame_of-frame.ensures.numbered c.frame_of-frame.ensures.in_use)
    (numbers_written c.self.invariant.1 c.args.number c.args.index c.args.word
    (subst (λ (h : Held). IsSome (finite.get h.memory c.args.number)) (sym c.self.view_is) c.requires.in_use))
