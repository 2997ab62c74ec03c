use Rattle.std.proofs.Common.{◌<◌, length, set, [], ap, ◌∙◌, arith}
use Rattle.std.proofs.lemmas.List.{get_or-set_same}
use Rattle.std.specs.FinMap as finite
use Rattle.vs_arena.specs.Store.{zeros}
use Rattle.vs_arena.specs.Arena.{Arena}
use Rattle.vs_arena.specs.Marked.{marked_frames}
use Rattle.vs_arena.proofs.Marked.{remove-insert}
use Rattle.vs_arena.proofs.MarkedFrames.{marked_here, IsMarked-from_use, IsInUse-from_mark, IsFrame-zeros, marked_frames-write, IsArena-write}
use Rattle.vs_arena.proofs.vec_arena.VecArenaFrameStore.give.Goals as goal

pub index_mut-requires : goal.index_mut-requires
index_mut-requires c =
    let here = marked_here c.self.inside.marks.items c.self.inside.words.items (ap (λ (a : Arena). a.frames) c.self.view_is) c.requires c.index.ensures.reads in
    let within : c.index.result < length c.self.inside.words.items = omega (arith, here.in_marks, c.self.invariant.0.words_for_each) in
    omega (arith, within, c.self.inside.words.ok.0)

pub invariant_of-self : goal.invariant_of-self
invariant_of-self c =
    let here = marked_here c.self.inside.marks.items c.self.inside.words.items (ap (λ (a : Arena). a.frames) c.self.view_is) c.requires
    c.index.ensures.reads in (
      rw c.cleared_words.ensures (IsArena-write c.self.invariant.0 zeros IsFrame-zeros here),
      c.self.invariant.1,
      c.self.invariant.2,
    )

pub give_zeroed-requires-clause-in_use : goal.give_zeroed-requires-clause-in_use
give_zeroed-requires-clause-in_use c =
    let here = marked_here c.self.inside.marks.items c.self.inside.words.items (ap (λ (a : Arena). a.frames) c.self.view_is) c.requires c.index.ensures.reads in
    rw (← c.index.ensures.reads) (IsInUse-from_mark c.self.inside.marks.items _ c.index.result here.mark)

pub give_zeroed-requires-clause-zeroed : goal.give_zeroed-requires-clause-zeroed
give_zeroed-requires-clause-zeroed c =
    let here = marked_here c.self.inside.marks.items c.self.inside.words.items (ap (λ (a : Arena). a.frames) c.self.view_is) c.requires c.index.ensures.reads in
    let within : c.index.result < length c.self.inside.words.items = omega (arith, here.in_marks, c.self.invariant.0.words_for_each) in
    let marks = c.self.inside.marks.items in let words = c.self.inside.words.items in
    let cleared = set words c.index.result c.cleared_words.result in
    let marked = IsMarked-from_use marks cleared c.index.result (IsInUse-from_mark marks cleared c.index.result here.mark) in
    rw (← c.index.ensures.reads) (marked.own ∙ get_or-set_same words c.index.result _ [] within ∙ c.cleared_words.ensures)

pub returns-clause-removed : goal.returns-clause-removed
returns-clause-removed c =
    let here = marked_here c.self.inside.marks.items c.self.inside.words.items (ap (λ (a : Arena). a.frames) c.self.view_is) c.requires c.index.ensures.reads in
    let within : c.index.result < length c.self.inside.words.items = omega (arith, here.in_marks, c.self.invariant.0.words_for_each) in
    c.give_zeroed.ensures.removed
    ∙ ap (λ m. finite.remove m c.args.frame) (marked_frames-write c.self.inside.marks.items c.self.inside.words.items c.index.result c.cleared_words.result
    here.mark within)
    ∙ ap (λ i. finite.remove (finite.insert (marked_frames c.self.inside.marks.items c.self.inside.words.items) i c.cleared_words.result) c.args.frame)
    c.index.ensures.reads
    ∙ remove-insert (marked_frames c.self.inside.marks.items c.self.inside.words.items) c.args.frame c.cleared_words.result
    ∙ ap (λ (a : Arena). finite.remove a.frames c.args.frame) c.self.view_is
