use Rattle.std.proofs.Common.{◌≡◌, take, sym, ap, subst, ◌∙◌, arith}
use Rattle.std.specs.FinMap as finite
use Rattle.vs_arena.specs.Store.{words_of, zeros}
use Rattle.vs_arena.specs.Lent.{LentFrames}
use Rattle.vs_arena.specs.Marked.{marked_frames, marked_notes}
use Rattle.vs_arena.specs.LentMarks.{uses_of_first, notes_of_first}
use Rattle.vs_arena.proofs.Marked.{marked-unmark}
use Rattle.vs_arena.proofs.MarkedFrames.{marked_here, marked_frames-unmark}
use Rattle.vs_arena.proofs.LentArenas.{was_taken, taken_marks, uses-given, notes-given, given_marks, IsLentArena-give}
use Rattle.vs_arena.proofs.lent_arena.LentArenaFrameStore.give_zeroed.Goals as goal

pub bounds-self-inside-index : goal.bounds-self-inside-index
bounds-self-inside-index c =
    let here = marked_here (uses_of_first c.self.inside.taken c.self.inside.marks.now) (take c.self.inside.taken c.self.inside.words.now)
    (ap (λ (a : LentFrames). a.frames) c.self.view_is) c.requires.in_use c.index-index.ensures.reads in
    omega (arith, was_taken c.self.invariant here, taken_marks c.self.invariant)

pub invariant_of-self : goal.invariant_of-self
invariant_of-self c =
    let here = marked_here (uses_of_first c.self.inside.taken c.self.inside.marks.now) (take c.self.inside.taken c.self.inside.words.now)
    (ap (λ (a : LentFrames). a.frames) c.self.view_is) c.requires.in_use c.index-index.ensures.reads in
    let zeroed = subst (λ (a : LentFrames). words_of a.frames c.args.frame ≡ zeros) (sym c.self.view_is) c.requires.zeroed in
    let own =
    sym here.own ∙ ap (λ i. words_of (marked_frames (uses_of_first c.self.inside.taken c.self.inside.marks.now)
    (take c.self.inside.taken c.self.inside.words.now)) i) c.index-index.ensures.reads ∙ zeroed in
    IsLentArena-give c.self.invariant c.index-index.result here own

pub returns-clause-removed : goal.returns-clause-removed
returns-clause-removed c =
    let here = marked_here (uses_of_first c.self.inside.taken c.self.inside.marks.now) (take c.self.inside.taken c.self.inside.words.now)
    (ap (λ (a : LentFrames). a.frames) c.self.view_is) c.requires.in_use c.index-index.ensures.reads in
    let marks = uses_of_first c.self.inside.taken c.self.inside.marks.now in
    let words = take c.self.inside.taken c.self.inside.words.now in
    ap (λ u. marked_frames u words) (uses-given c.self.invariant c.index-index.result)
    ∙ marked_frames-unmark marks words c.index-index.result here.in_marks
    ∙ ap (λ i. finite.remove (marked_frames marks words) i) c.index-index.ensures.reads
    ∙ ap (λ (a : LentFrames). finite.remove a.frames c.args.frame) c.self.view_is

pub returns-clause-removed_note : goal.returns-clause-removed_note
returns-clause-removed_note c =
    let here = marked_here (uses_of_first c.self.inside.taken c.self.inside.marks.now) (take c.self.inside.taken c.self.inside.words.now)
    (ap (λ (a : LentFrames). a.frames) c.self.view_is) c.requires.in_use c.index-index.ensures.reads in
    let marks = uses_of_first c.self.inside.taken c.self.inside.marks.now in
    let kept = notes_of_first c.self.inside.taken c.self.inside.marks.now in
    ap (λ n. marked_notes (uses_of_first c.self.inside.taken (given_marks c.self.invariant c.index-index.result)) n)
    (notes-given c.self.invariant c.index-index.result)
    ∙ ap (λ u. marked_notes u kept) (uses-given c.self.invariant c.index-index.result)
    ∙ marked-unmark 0 marks kept c.index-index.result here.in_marks
    ∙ ap (λ i. finite.remove (marked_notes marks kept) i) c.index-index.ensures.reads
    ∙ ap (λ (a : LentFrames). finite.remove a.notes c.args.frame) c.self.view_is
