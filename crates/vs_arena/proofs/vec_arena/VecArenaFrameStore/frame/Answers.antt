use Rattle.std.proofs.Common.{get_or, [], sym, ap, subst, ◌∙◌, arith}
use Rattle.std.proofs.lemmas.List.{get_or_read}
use Rattle.vs_arena.specs.Store.{IsInUse, words_of}
use Rattle.vs_arena.specs.Arena.{Arena}
use Rattle.vs_arena.proofs.MarkedFrames.{IsMarked-from_use}
use Rattle.vs_arena.proofs.vec_arena.VecArenaFrameStore.frame.Goals as goal

pub index-requires-2 : goal.index-requires-2
index-requires-2 c =
    let in_use = subst (λ (a : Arena). IsInUse a.frames c.args.frame) (sym c.self.view_is) c.requires in
    let marked = IsMarked-from_use c.self.inside.marks.items c.self.inside.words.items c.args.frame in_use in
    omega (arith, marked.in_marks, c.self.invariant.0.words_for_each, c.self.inside.words.ok.0)

pub returns : goal.returns
returns c =
    let words = c.self.inside.words.items in
    let in_use = subst (λ (a : Arena). IsInUse a.frames c.args.frame) (sym c.self.view_is) c.requires in
    let marked = IsMarked-from_use c.self.inside.marks.items words c.args.frame in_use in
    get_or_read words c.index.result c.index-2.result.now
    (omega (arith, marked.in_marks, c.self.invariant.0.words_for_each, c.index.ensures.reads)) c.index-2.ensures []
    ∙ ap (λ i. get_or words i []) c.index.ensures.reads
    ∙ sym marked.own
    ∙ ap (λ (a : Arena). words_of a.frames c.args.frame) c.self.view_is
