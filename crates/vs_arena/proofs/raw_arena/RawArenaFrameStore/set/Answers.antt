use Rattle.std.proofs.Common.{◌≡◌, ◌<◌, length, get_or, set, [], sym, ap, subst, ◌∙◌, arith}
use Rattle.std.proofs.lemmas.List.{length-set}
use Rattle.std.specs.FinMap as finite
use Rattle.vs_arena.specs.Store.{IsInUse, words_of}
use Rattle.vs_arena.specs.Arena.{Arena}
use Rattle.vs_arena.specs.Marked.{marked_frames}
use Rattle.vs_arena.specs.inside.RawArena.{values}
use Rattle.vs_arena.proofs.MarkedFrames.{IsMarked, IsMarked-from_use, IsFrame-set, marked_frames-write}
use Rattle.vs_arena.proofs.RawArenas.{IsFilled-within, value_at, values-set, IsRawArena-write}
use Rattle.vs_arena.proofs.raw_arena.RawArenaFrameStore.set.Goals as goal

pub get_mut-words-requires : goal.get_mut-words-requires
get_mut-words-requires c =
    let raw = c.self.invariant.0 in let places = c.self.inside.region.places in let marks = c.self.inside.marks.items in
    let in_use = subst (λ (a : Arena). IsInUse a.frames c.args.frame) (sym c.self.view_is) c.requires.in_use in
    let marked = IsMarked-from_use marks (values places) c.args.frame in_use in
    let within : c.index.result < length (values places) = omega (arith, marked.in_marks, raw.arena.words_for_each, c.index.ensures.reads) in
    IsFilled-within c.self.inside.size places raw.laid c.index.result [] within

pub invariant_of-self : goal.invariant_of-self
invariant_of-self c =
    let raw = c.self.invariant.0 in let places = c.self.inside.region.places in let marks = c.self.inside.marks.items in
    let in_use = subst (λ (a : Arena). IsInUse a.frames c.args.frame) (sym c.self.view_is) c.requires.in_use in
    let marked = IsMarked-from_use marks (values places) c.args.frame in_use in
    let within : c.index.result < length (values places) = omega (arith, marked.in_marks, raw.arena.words_for_each, c.index.ensures.reads) in
    let old = value_at c.self.inside.size places raw.laid c.index.result [] c.get_mut-words.result.now within c.get_mut-words.ensures.value in
    let whole = IsFrame-set c.get_mut-words.result.now c.args.index c.args.word (rw old (raw.arena.whole_frames c.index.result [] within))
    (omega (arith, c.ranges.word)) in
    let here = subst (λ i. IsMarked marks (values places) i) (sym c.index.ensures.reads) marked in (
      IsRawArena-write raw _ whole here,
      c.self.invariant.1,
      length-set places c.index.result _ ∙ c.self.invariant.2,
      c.self.invariant.3,
      c.self.invariant.4,
      c.self.invariant.5,
    )

pub returns-clause-written : goal.returns-clause-written
returns-clause-written c =
    let raw = c.self.invariant.0 in let places = c.self.inside.region.places in let marks = c.self.inside.marks.items in
    let in_use = subst (λ (a : Arena). IsInUse a.frames c.args.frame) (sym c.self.view_is) c.requires.in_use in
    let marked = IsMarked-from_use marks (values places) c.args.frame in_use in
    let within : c.index.result < length (values places) = omega (arith, marked.in_marks, raw.arena.words_for_each, c.index.ensures.reads) in
    let old = value_at c.self.inside.size places raw.laid c.index.result [] c.get_mut-words.result.now within c.get_mut-words.ensures.value in
    let was = subst (λ i. c.get_mut-words.result.now ≡ get_or (values places) i []) c.index.ensures.reads old in
    ap (λ l. marked_frames marks l) (values-set c.self.inside.size places raw.laid c.index.result _ within)
    ∙ rw (c.index.ensures.reads, was, ← marked.own) (marked_frames-write marks (values places) c.args.frame _ marked.mark
    (omega (arith, marked.in_marks, raw.arena.words_for_each)))
    ∙ ap (λ (a : Arena). finite.insert a.frames c.args.frame (set (words_of a.frames c.args.frame) c.args.index c.args.word)) c.self.view_is
