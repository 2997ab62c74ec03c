use Rattle.std.proofs.Common.{take, sym, ap, ◌∙◌}
use Rattle.vs_arena.specs.Store.{words_of}
use Rattle.vs_arena.specs.Lent.{LentFrames}
use Rattle.vs_arena.specs.LentMarks.{uses_of_first}
use Rattle.vs_arena.proofs.LentArenas.{was_lent, words_at}
use Rattle.vs_arena.proofs.MarkedFrames.{marked_here}
use Rattle.vs_arena.specs.Marked.{marked_frames}
use Rattle.vs_arena.proofs.lent_arena.LentArenaFrameStore.frame.Goals as goal

pub bounds-words-index : goal.bounds-words-index
bounds-words-index c =
    let here = marked_here (uses_of_first c.self.inside.taken c.self.inside.marks.now) (take c.self.inside.taken c.self.inside.words.now)
    (ap (λ (a : LentFrames). a.frames) c.self.view_is) c.requires c.index.ensures.reads in
    was_lent c.self.invariant here

pub returns : goal.returns
returns c =
    let here = marked_here (uses_of_first c.self.inside.taken c.self.inside.marks.now) (take c.self.inside.taken c.self.inside.words.now)
    (ap (λ (a : LentFrames). a.frames) c.self.view_is) c.requires c.index.ensures.reads in
    sym (words_at c.self.invariant here)
    ∙ sym here.own
    ∙ ap (λ i. words_of (marked_frames (uses_of_first c.self.inside.taken c.self.inside.marks.now) (take c.self.inside.taken c.self.inside.words.now)) i)
    c.index.ensures.reads
    ∙ ap (λ (a : LentFrames). words_of a.frames c.args.frame) c.self.view_is
