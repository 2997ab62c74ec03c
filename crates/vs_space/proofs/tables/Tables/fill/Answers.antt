use Rattle.std.proofs.Common.{◌+◌, sym, ap, subst, ◌∙◌, arith}
use Rattle.std.specs.Prelude.{IsSome, slice_set}
use Rattle.std.specs.FinMap as finite
use Rattle.vs_arena.specs.Store.{Store, words_of}
use Rattle.vs_walk.specs.Memory.{AreWhole}
use Rattle.vs_space.specs.Held.{Held, numbered, word_at, with_word}
use Rattle.vs_space.proofs.Numbered.{held, stored, numbers_stored, numbers_written, whole-set, whole_numbered, word_is, with_word_numbered}
use Rattle.vs_space.proofs.Counts.{note_few, counted_more}
use Rattle.vs_space.proofs.tables.Tables.fill.Goals as goal

pub overflow_add-count : goal.overflow_add-count
overflow_add-count g c = omega (
  arith,
  c.note-count.ensures,
  note_few c.self.invariant.2 c.frame_of-frame.result c.frame_of-frame.ensures.in_use c.self.invariant.0,
)

pub set-requires-clause-in_use : goal.set-requires-clause-in_use
set-requires-clause-in_use g c = rw c.set_note.ensures.same_frames c.frame_of-frame.ensures.in_use

pub invariant_of-self : goal.invariant_of-self
invariant_of-self g c =
    let written = c.set.ensures.written
    ∙ ap (λ (s : Store). finite.insert s c.frame_of-frame.result (slice_set (words_of s c.frame_of-frame.result) c.args.index c.args.word))
    c.set_note.ensures.same_frames in (
      rw written (whole-set _ _ c.args.index c.args.word c.frame_of-frame.ensures.in_use c.self.invariant.0),
      numbers_stored _ (c.set.ensures.same_place ∙ c.set_note.ensures.same_place)
          (ap (numbered (g.S.FrameStore.place c.self.inside.store).base) written
          ∙ with_word_numbered _ _ c.args.number _ c.args.index c.args.word c.frame_of-frame.ensures.numbered c.frame_of-frame.ensures.in_use)
          (numbers_written c.self.invariant.1 c.args.number c.args.index c.args.word
          (subst (λ (h : Held). IsSome (finite.get h.memory c.args.number)) (sym c.self.view_is) c.requires.in_use)),
      rw (written, c.set.ensures.same_notes, c.set_note.ensures.written)
          (counted_more c.self.invariant.2 c.frame_of-frame.result c.frame_of-frame.ensures.in_use c.self.invariant.0
          c.args.index c.requires.in_frame c.args.word _
          (word_is _ _ c.args.number _ c.args.index 0 c.frame_of-frame.ensures.numbered c.frame_of-frame.ensures.in_use
          (ap (λ (h : Held). word_at h.memory c.args.number c.args.index) c.self.view_is ∙ c.requires.absent)) c.requires.some
          (ap (λ n. n + 1) c.note-count.ensures)),
    )

pub returns-clause-written : goal.returns-clause-written
returns-clause-written g c =
    let written = c.set.ensures.written
    ∙ ap (λ (s : Store). finite.insert s c.frame_of-frame.result (slice_set (words_of s c.frame_of-frame.result) c.args.index c.args.word))
    c.set_note.ensures.same_frames in
    stored _ (c.set.ensures.same_place ∙ c.set_note.ensures.same_place)
    (ap (numbered (g.S.FrameStore.place c.self.inside.store).base) written
    ∙ with_word_numbered _ _ c.args.number _ c.args.index c.args.word c.frame_of-frame.ensures.numbered c.frame_of-frame.ensures.in_use)
    ∙ ap (λ (h : Held). held h.lenders h.base h.limit (with_word h.memory c.args.number c.args.index c.args.word)) c.self.view_is

pub returns-clause-whole : goal.returns-clause-whole
returns-clause-whole g c = subst (λ (h : Held). AreWhole h.memory) c.self.view_is (whole_numbered _ _ c.self.invariant.0)

pub returns-clause-numbers : goal.returns-clause-numbers
returns-clause-numbers g c =
    let written = c.set.ensures.written
    ∙ ap (λ (s : Store). finite.insert s c.frame_of-frame.result (slice_set (words_of s c.frame_of-frame.result) c.args.index c.args.word))
    c.set_note.ensures.same_frames in
    numbers_stored _ (c.set.ensures.same_place ∙ c.set_note.ensures.same_place)
    (ap (numbered (g.S.FrameStore.place c.self.inside.store).base) written
    ∙ with_word_numbered _ _ c.args.number _ c.args.index c.args.word c.frame_of-frame.ensures.numbered c.frame_of-frame.ensures.in_use)
    (numbers_written c.self.invariant.1 c.args.number c.args.index c.args.word
    (subst (λ (h : Held). IsSome (finite.get h.memory c.args.number)) (sym c.self.view_is) c.requires.in_use))
