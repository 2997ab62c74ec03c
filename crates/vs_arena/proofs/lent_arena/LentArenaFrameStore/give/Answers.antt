use Rattle.std.proofs.Common.{take, set, [], ap, ◌∙◌}
use Rattle.std.proofs.lemmas.List.{get_or-set_same, get_or-take}
use Rattle.std.specs.FinMap as finite
use Rattle.vs_arena.specs.Store.{zeros}
use Rattle.vs_arena.specs.Lent.{LentFrames}
use Rattle.vs_arena.specs.Marked.{marked_frames}
use Rattle.vs_arena.specs.LentMarks.{uses_of_first}
use Rattle.vs_arena.proofs.Marked.{remove-insert}
use Rattle.vs_arena.proofs.MarkedFrames.{marked_here, in_words, IsMarked-from_use, IsInUse-from_mark, IsFrame-zeros, marked_frames-write}
use Rattle.vs_arena.proofs.LentArenas.{take-set, was_taken, was_lent, IsLentArena-write}
use Rattle.vs_arena.proofs.lent_arena.LentArenaFrameStore.give.Goals as goal

pub bounds-self-inside-index : goal.bounds-self-inside-index
bounds-self-inside-index c =
    let here = marked_here (uses_of_first c.self.inside.taken c.self.inside.marks.now) (take c.self.inside.taken c.self.inside.words.now)
    (ap (λ (a : LentFrames). a.frames) c.self.view_is) c.requires c.index.ensures.reads in
    was_lent c.self.invariant here

pub invariant_of-self : goal.invariant_of-self
invariant_of-self c =
    let here = marked_here (uses_of_first c.self.inside.taken c.self.inside.marks.now) (take c.self.inside.taken c.self.inside.words.now)
    (ap (λ (a : LentFrames). a.frames) c.self.view_is) c.requires c.index.ensures.reads in
    rw c.cleared_words.ensures (IsLentArena-write c.self.invariant zeros IsFrame-zeros here)

pub give_zeroed-requires-clause-in_use : goal.give_zeroed-requires-clause-in_use
give_zeroed-requires-clause-in_use c =
    let here = marked_here (uses_of_first c.self.inside.taken c.self.inside.marks.now) (take c.self.inside.taken c.self.inside.words.now)
    (ap (λ (a : LentFrames). a.frames) c.self.view_is) c.requires c.index.ensures.reads in
    rw (← c.index.ensures.reads) (IsInUse-from_mark (uses_of_first c.self.inside.taken c.self.inside.marks.now) _ c.index.result here.mark)

pub give_zeroed-requires-clause-zeroed : goal.give_zeroed-requires-clause-zeroed
give_zeroed-requires-clause-zeroed c =
    let here = marked_here (uses_of_first c.self.inside.taken c.self.inside.marks.now) (take c.self.inside.taken c.self.inside.words.now)
    (ap (λ (a : LentFrames). a.frames) c.self.view_is) c.requires c.index.ensures.reads in
    let marks = uses_of_first c.self.inside.taken c.self.inside.marks.now in
    let cleared = take c.self.inside.taken (set c.self.inside.words.now c.index.result c.cleared_words.result) in
    let marked = IsMarked-from_use marks cleared c.index.result (IsInUse-from_mark marks cleared c.index.result here.mark) in
    rw (← c.index.ensures.reads) (marked.own
    ∙ get_or-take c.self.inside.taken (set c.self.inside.words.now c.index.result c.cleared_words.result) c.index.result [] (was_taken c.self.invariant here)
    ∙ get_or-set_same c.self.inside.words.now c.index.result _ [] (was_lent c.self.invariant here) ∙ c.cleared_words.ensures)

pub returns-clause-removed : goal.returns-clause-removed
returns-clause-removed c =
    let here = marked_here (uses_of_first c.self.inside.taken c.self.inside.marks.now) (take c.self.inside.taken c.self.inside.words.now)
    (ap (λ (a : LentFrames). a.frames) c.self.view_is) c.requires c.index.ensures.reads in
    let marks = uses_of_first c.self.inside.taken c.self.inside.marks.now in
    let words = take c.self.inside.taken c.self.inside.words.now in
    c.give_zeroed.ensures.removed
    ∙ ap (λ own. finite.remove (marked_frames marks own) c.args.frame)
    (take-set c.self.inside.taken c.self.inside.words.now c.index.result c.cleared_words.result)
    ∙ ap (λ m. finite.remove m c.args.frame)
    (marked_frames-write marks words c.index.result c.cleared_words.result here.mark (in_words c.self.invariant.arena here))
    ∙ ap (λ i. finite.remove (finite.insert (marked_frames marks words) i c.cleared_words.result) c.args.frame) c.index.ensures.reads
    ∙ remove-insert (marked_frames marks words) c.args.frame c.cleared_words.result
    ∙ ap (λ (a : LentFrames). finite.remove a.frames c.args.frame) c.self.view_is
