use Rattle.std.proofs.Common.{take, sym, ap, ◌∙◌, arith}
use Rattle.vs_arena.specs.Store.{note_of}
use Rattle.vs_arena.specs.Lent.{LentFrames}
use Rattle.vs_arena.specs.Marked.{marked_notes}
use Rattle.vs_arena.specs.LentMarks.{uses_of_first, notes_of_first}
use Rattle.vs_arena.proofs.Marked.{note_of-marked}
use Rattle.vs_arena.proofs.MarkedFrames.{marked_here}
use Rattle.vs_arena.proofs.LentArenas.{was_taken, taken_marks, note_at}
use Rattle.vs_arena.proofs.lent_arena.LentArenaFrameStore.note.Goals as goal

pub bounds-self-inside-index : goal.bounds-self-inside-index
bounds-self-inside-index c =
    let here = marked_here (uses_of_first c.self.inside.taken c.self.inside.marks.now) (take c.self.inside.taken c.self.inside.words.now)
    (ap (λ (a : LentFrames). a.frames) c.self.view_is) c.requires c.index.ensures.reads in
    omega (arith, was_taken c.self.invariant here, taken_marks c.self.invariant)

pub returns : goal.returns
returns c =
    let here = marked_here (uses_of_first c.self.inside.taken c.self.inside.marks.now) (take c.self.inside.taken c.self.inside.words.now)
    (ap (λ (a : LentFrames). a.frames) c.self.view_is) c.requires c.index.ensures.reads in
    let marks = uses_of_first c.self.inside.taken c.self.inside.marks.now in
    let kept = notes_of_first c.self.inside.taken c.self.inside.marks.now in
    sym (note_at c.self.invariant here)
    ∙ sym (note_of-marked marks kept c.index.result here.mark)
    ∙ ap (λ i. note_of (marked_notes marks kept) i) c.index.ensures.reads
    ∙ ap (λ (a : LentFrames). note_of a.notes c.args.frame) c.self.view_is
