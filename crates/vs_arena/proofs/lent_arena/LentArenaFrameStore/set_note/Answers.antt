use Rattle.std.proofs.Common.{take, set, ap, ◌∙◌, arith}
use Rattle.std.specs.FinMap as finite
use Rattle.vs_arena.specs.Lent.{LentFrames}
use Rattle.vs_arena.specs.Marked.{marked_frames, marked_notes}
use Rattle.vs_arena.specs.LentMarks.{uses_of_first, notes_of_first}
use Rattle.vs_arena.proofs.Marked.{marked-write}
use Rattle.vs_arena.proofs.MarkedFrames.{marked_here}
use Rattle.vs_arena.proofs.LentArenas.{was_taken, taken_marks, noted_mark, uses-noted, notes-noted, IsLentArena-note}
use Rattle.vs_arena.proofs.lent_arena.LentArenaFrameStore.set_note.Goals as goal

pub bounds-self-inside-index : goal.bounds-self-inside-index
bounds-self-inside-index c =
    let here = marked_here (uses_of_first c.self.inside.taken c.self.inside.marks.now) (take c.self.inside.taken c.self.inside.words.now)
    (ap (λ (a : LentFrames). a.frames) c.self.view_is) c.requires c.index.ensures.reads in
    omega (arith, was_taken c.self.invariant here, taken_marks c.self.invariant)

pub invariant_of-self : goal.invariant_of-self
invariant_of-self c = IsLentArena-note c.self.invariant c.index.result c.args.note

pub returns-clause-written : goal.returns-clause-written
returns-clause-written c =
    let here = marked_here (uses_of_first c.self.inside.taken c.self.inside.marks.now) (take c.self.inside.taken c.self.inside.words.now)
    (ap (λ (a : LentFrames). a.frames) c.self.view_is) c.requires c.index.ensures.reads in
    let marks = uses_of_first c.self.inside.taken c.self.inside.marks.now in
    let kept = notes_of_first c.self.inside.taken c.self.inside.marks.now in
    let noted = set c.self.inside.marks.now c.index.result (noted_mark c.self.inside.marks.now c.index.result c.args.note) in
    ap (λ n. marked_notes (uses_of_first c.self.inside.taken noted) n) (notes-noted c.self.invariant c.index.result c.args.note)
    ∙ ap (λ u. marked_notes u (set kept c.index.result c.args.note)) (uses-noted c.self.invariant c.index.result c.args.note)
    ∙ marked-write 0 marks kept c.index.result c.args.note here.mark (omega (arith, here.in_marks, c.self.invariant.arena.notes_for_each))
    ∙ ap (λ i. finite.insert (marked_notes marks kept) i c.args.note) c.index.ensures.reads
    ∙ ap (λ (a : LentFrames). finite.insert a.notes c.args.frame c.args.note) c.self.view_is

pub returns-clause-same_frames : goal.returns-clause-same_frames
returns-clause-same_frames c =
    ap (λ u. marked_frames u (take c.self.inside.taken c.self.inside.words.now)) (uses-noted c.self.invariant c.index.result c.args.note)
    ∙ ap (λ (a : LentFrames). a.frames) c.self.view_is
