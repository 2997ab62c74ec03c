use Rattle.std.proofs.Common.{◌<◌, length, get_or, [], sym, ap, subst, ◌∙◌, arith}
use Rattle.vs_arena.specs.Store.{IsInUse, words_of}
use Rattle.vs_arena.specs.Arena.{Arena}
use Rattle.vs_arena.specs.inside.RawArena.{values}
use Rattle.vs_arena.proofs.MarkedFrames.{IsMarked-from_use}
use Rattle.vs_arena.proofs.RawArenas.{IsFilled-within, value_at}
use Rattle.vs_arena.proofs.raw_arena.RawArenaFrameStore.frame.Goals as goal

pub get-requires : goal.get-requires
get-requires c =
    let raw = c.self.invariant.0 in let places = c.self.inside.region.places in
    let in_use = subst (λ (a : Arena). IsInUse a.frames c.args.frame) (sym c.self.view_is) c.requires in
    let marked = IsMarked-from_use c.self.inside.marks.items (values places) c.args.frame in_use in
    IsFilled-within c.self.inside.size places raw.laid c.index.result [] (omega (arith, marked.in_marks, raw.arena.words_for_each, c.index.ensures.reads))

pub returns : goal.returns
returns c =
    let raw = c.self.invariant.0 in let places = c.self.inside.region.places in
    let in_use = subst (λ (a : Arena). IsInUse a.frames c.args.frame) (sym c.self.view_is) c.requires in
    let marked = IsMarked-from_use c.self.inside.marks.items (values places) c.args.frame in_use in
    let within : c.index.result < length (values places) = omega (arith, marked.in_marks, raw.arena.words_for_each, c.index.ensures.reads) in
    value_at c.self.inside.size places raw.laid c.index.result [] c.get.result.now within c.get.ensures
    ∙ ap (λ i. get_or (values places) i []) c.index.ensures.reads
    ∙ sym marked.own
    ∙ ap (λ (a : Arena). words_of a.frames c.args.frame) c.self.view_is
