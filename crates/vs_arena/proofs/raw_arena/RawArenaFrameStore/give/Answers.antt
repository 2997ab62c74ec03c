use Rattle.std.proofs.Common.{◌<◌, length, set, [], ap, ◌∙◌, arith}
use Rattle.std.proofs.lemmas.List.{length-set, get_or-set_same}
use Rattle.std.specs.FinMap as finite
use Rattle.vs_arena.specs.Store.{zeros}
use Rattle.vs_arena.specs.Arena.{Arena}
use Rattle.vs_arena.specs.Marked.{marked_frames}
use Rattle.vs_arena.specs.inside.RawArena.{values}
use Rattle.vs_arena.proofs.Marked.{remove-insert}
use Rattle.vs_arena.proofs.MarkedFrames.{marked_here, IsMarked-from_use, IsInUse-from_mark, IsFrame-zeros, marked_frames-write}
use Rattle.vs_arena.proofs.RawArenas.{IsFilled-within, values-set, IsRawArena-write}
use Rattle.vs_arena.proofs.raw_arena.RawArenaFrameStore.give.Goals as goal

pub get_mut-words-requires : goal.get_mut-words-requires
get_mut-words-requires c =
    let here = marked_here c.self.inside.marks.items (values c.self.inside.region.places) (ap (λ (a : Arena). a.frames) c.self.view_is)
    c.requires c.index.ensures.reads in
    let within : c.index.result < length (values c.self.inside.region.places) = omega (arith, here.in_marks, c.self.invariant.0.arena.words_for_each) in
    IsFilled-within c.self.inside.size c.self.inside.region.places c.self.invariant.0.laid c.index.result [] within

pub invariant_of-self : goal.invariant_of-self
invariant_of-self c =
    let here = marked_here c.self.inside.marks.items (values c.self.inside.region.places) (ap (λ (a : Arena). a.frames) c.self.view_is)
    c.requires c.index.ensures.reads in (
      rw c.cleared_words.ensures (IsRawArena-write c.self.invariant.0 zeros IsFrame-zeros here),
      c.self.invariant.1,
      length-set c.self.inside.region.places c.index.result _ ∙ c.self.invariant.2,
      c.self.invariant.3,
      c.self.invariant.4,
      c.self.invariant.5,
    )

pub give_zeroed-requires-clause-in_use : goal.give_zeroed-requires-clause-in_use
give_zeroed-requires-clause-in_use c =
    let here = marked_here c.self.inside.marks.items (values c.self.inside.region.places) (ap (λ (a : Arena). a.frames) c.self.view_is)
    c.requires c.index.ensures.reads in
    rw (← c.index.ensures.reads) (IsInUse-from_mark c.self.inside.marks.items _ c.index.result here.mark)

pub give_zeroed-requires-clause-zeroed : goal.give_zeroed-requires-clause-zeroed
give_zeroed-requires-clause-zeroed c =
    let here = marked_here c.self.inside.marks.items (values c.self.inside.region.places) (ap (λ (a : Arena). a.frames) c.self.view_is)
    c.requires c.index.ensures.reads in
    let within : c.index.result < length (values c.self.inside.region.places) = omega (arith, here.in_marks, c.self.invariant.0.arena.words_for_each) in
    let marks = c.self.inside.marks.items in let places = c.self.inside.region.places in
    let cleared = set (values places) c.index.result c.cleared_words.result in
    let marked = IsMarked-from_use marks cleared c.index.result (IsInUse-from_mark marks cleared c.index.result here.mark) in
    rw (← c.index.ensures.reads, values-set c.self.inside.size places c.self.invariant.0.laid c.index.result c.cleared_words.result within)
    (marked.own ∙ get_or-set_same (values places) c.index.result _ [] within ∙ c.cleared_words.ensures)

pub returns-clause-removed : goal.returns-clause-removed
returns-clause-removed c =
    let here = marked_here c.self.inside.marks.items (values c.self.inside.region.places) (ap (λ (a : Arena). a.frames) c.self.view_is)
    c.requires c.index.ensures.reads in
    let within : c.index.result < length (values c.self.inside.region.places) = omega (arith, here.in_marks, c.self.invariant.0.arena.words_for_each) in
    let marks = c.self.inside.marks.items in let places = c.self.inside.region.places in
    c.give_zeroed.ensures.removed
    ∙ ap (λ l. finite.remove (marked_frames marks l) c.args.frame)
    (values-set c.self.inside.size places c.self.invariant.0.laid c.index.result c.cleared_words.result within)
    ∙ ap (λ m. finite.remove m c.args.frame) (marked_frames-write marks (values places) c.index.result c.cleared_words.result here.mark within)
    ∙ ap (λ i. finite.remove (finite.insert (marked_frames c.self.inside.marks.items (values c.self.inside.region.places)) i c.cleared_words.result)
    c.args.frame) c.index.ensures.reads
    ∙ remove-insert (marked_frames c.self.inside.marks.items (values c.self.inside.region.places)) c.args.frame c.cleared_words.result
    ∙ ap (λ (a : Arena). finite.remove a.frames c.args.frame) c.self.view_is
