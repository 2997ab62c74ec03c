use Rattle.std.proofs.Common.{◌≡◌, ◌<◌, get_or, set, length, [], sym, ap, subst, ◌∙◌, arith}
use Rattle.std.proofs.lemmas.List.{get_or_read}
use Rattle.std.specs.FinMap as finite
use Rattle.vs_arena.specs.Store.{IsInUse, words_of}
use Rattle.vs_arena.specs.Arena.{Arena}
use Rattle.vs_arena.proofs.MarkedFrames.{IsMarked, IsMarked-from_use, IsFrame-set, marked_frames-write, IsArena-write}
use Rattle.vs_arena.proofs.vec_arena.VecArenaFrameStore.set.Goals as goal

pub index_mut-words-requires : goal.index_mut-words-requires
index_mut-words-requires c =
    let in_use = subst (λ (a : Arena). IsInUse a.frames c.args.frame) (sym c.self.view_is) c.requires.in_use in
    let marked = IsMarked-from_use c.self.inside.marks.items c.self.inside.words.items c.args.frame in_use in
    omega (arith, marked.in_marks, c.self.invariant.0.words_for_each, c.self.inside.words.ok.0)

pub invariant_of-self : goal.invariant_of-self
invariant_of-self c =
    let words = c.self.inside.words.items in
    let in_use = subst (λ (a : Arena). IsInUse a.frames c.args.frame) (sym c.self.view_is) c.requires.in_use in
    let here = subst (λ i. IsMarked c.self.inside.marks.items words i) (sym c.index.ensures.reads)
    (IsMarked-from_use c.self.inside.marks.items words c.args.frame in_use) in
    let in_words : c.index.result < length words = omega (arith, here.in_marks, c.self.invariant.0.words_for_each) in
    let old = get_or_read words c.index.result c.index_mut-words.result.now in_words c.index_mut-words.ensures.value [] in
    let whole = IsFrame-set c.index_mut-words.result.now c.args.index c.args.word (rw old (c.self.invariant.0.whole_frames c.index.result [] in_words))
    (omega (arith, c.ranges.word)) in
    (IsArena-write c.self.invariant.0 _ whole here, c.self.invariant.1, c.self.invariant.2)

pub returns-clause-written : goal.returns-clause-written
returns-clause-written c =
    let words = c.self.inside.words.items in
    let in_use = subst (λ (a : Arena). IsInUse a.frames c.args.frame) (sym c.self.view_is) c.requires.in_use in
    let marked = IsMarked-from_use c.self.inside.marks.items words c.args.frame in_use in
    let in_words : c.args.frame < length words = omega (arith, marked.in_marks, c.self.invariant.0.words_for_each) in
    let old = subst (λ i. c.index_mut-words.result.now ≡ get_or words i []) c.index.ensures.reads
    (get_or_read words c.index.result c.index_mut-words.result.now (omega (arith, in_words, c.index.ensures.reads)) c.index_mut-words.ensures.value []) in
    rw (c.index.ensures.reads, old, ← marked.own) (marked_frames-write c.self.inside.marks.items words c.args.frame _ marked.mark in_words)
    ∙ ap (λ (a : Arena). finite.insert a.frames c.args.frame (set (words_of a.frames c.args.frame) c.args.index c.args.word)) c.self.view_is
