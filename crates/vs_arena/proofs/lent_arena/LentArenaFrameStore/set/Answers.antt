use Rattle.std.proofs.Common.{get_or, take, set, [], sym, ap, ◌∙◌, arith}
use Rattle.std.specs.FinMap as finite
use Rattle.vs_arena.specs.Store.{words_of}
use Rattle.vs_types.specs.Frame.{IsFrame}
use Rattle.vs_arena.specs.Lent.{LentFrames}
use Rattle.vs_arena.specs.Marked.{marked_frames}
use Rattle.vs_arena.specs.LentMarks.{uses_of_first}
use Rattle.vs_arena.proofs.MarkedFrames.{marked_here, in_words, IsFrame-set, marked_frames-write}
use Rattle.vs_arena.proofs.LentArenas.{take-set, was_lent, words_at, IsLentArena-write}
use Rattle.vs_arena.proofs.lent_arena.LentArenaFrameStore.set.Goals as goal

pub bounds-self-inside-index : goal.bounds-self-inside-index
bounds-self-inside-index c =
    let here = marked_here (uses_of_first c.self.inside.taken c.self.inside.marks.now) (take c.self.inside.taken c.self.inside.words.now)
    (ap (λ (a : LentFrames). a.frames) c.self.view_is) c.requires.in_use c.index.ensures.reads in
    was_lent c.self.invariant here

pub invariant_of-self : goal.invariant_of-self
invariant_of-self c =
    let here = marked_here (uses_of_first c.self.inside.taken c.self.inside.marks.now) (take c.self.inside.taken c.self.inside.words.now)
    (ap (λ (a : LentFrames). a.frames) c.self.view_is) c.requires.in_use c.index.ensures.reads in
    let whole : IsFrame (get_or c.self.inside.words.now c.index.result []) =
    rw (← words_at c.self.invariant here)
    (c.self.invariant.arena.whole_frames c.index.result [] (in_words c.self.invariant.arena here)) in
    IsLentArena-write c.self.invariant _ (IsFrame-set _ c.args.index c.args.word whole (omega (arith, c.ranges.word))) here

pub returns-clause-written : goal.returns-clause-written
returns-clause-written c =
    let here = marked_here (uses_of_first c.self.inside.taken c.self.inside.marks.now) (take c.self.inside.taken c.self.inside.words.now)
    (ap (λ (a : LentFrames). a.frames) c.self.view_is) c.requires.in_use c.index.ensures.reads in
    let marks = uses_of_first c.self.inside.taken c.self.inside.marks.now in
    let words = take c.self.inside.taken c.self.inside.words.now in
    let at = words_at c.self.invariant here in
    let own = set (get_or c.self.inside.words.now c.index.result []) c.args.index c.args.word in
    ap (λ ws. marked_frames marks ws) (take-set c.self.inside.taken c.self.inside.words.now c.index.result own)
    ∙ marked_frames-write marks words c.index.result own here.mark (in_words c.self.invariant.arena here)
    ∙ ap (λ ws. finite.insert (marked_frames marks words) c.index.result (set ws c.args.index c.args.word)) (sym at ∙ sym here.own)
    ∙ ap (λ i. finite.insert (marked_frames marks words) i (set (words_of (marked_frames marks words) i) c.args.index c.args.word)) c.index.ensures.reads
    ∙ ap (λ (a : LentFrames). finite.insert a.frames c.args.frame (set (words_of a.frames c.args.frame) c.args.index c.args.word)) c.self.view_is
