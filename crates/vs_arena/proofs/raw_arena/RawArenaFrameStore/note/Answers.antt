use Rattle.std.proofs.Common.{sym, ap, ◌∙◌, arith}
use Rattle.std.proofs.lemmas.List.{get_or_read}
use Rattle.vs_arena.specs.Store.{note_of}
use Rattle.vs_arena.specs.Arena.{Arena}
use Rattle.vs_arena.specs.Marked.{marked_notes}
use Rattle.vs_arena.specs.inside.RawArena.{values}
use Rattle.vs_arena.proofs.Marked.{note_of-marked}
use Rattle.vs_arena.proofs.MarkedFrames.{marked_here}
use Rattle.vs_arena.proofs.raw_arena.RawArenaFrameStore.note.Goals as goal

pub index-requires-2 : goal.index-requires-2
index-requires-2 c =
    let here = marked_here c.self.inside.marks.items (values c.self.inside.region.places) (ap (λ (a : Arena). a.frames) c.self.view_is)
    c.requires c.index.ensures.reads in
    omega (arith, here.in_marks, c.self.invariant.0.arena.notes_for_each, c.self.inside.notes.ok.0)

pub returns : goal.returns
returns c =
    let notes = c.self.inside.notes.items in
    let here = marked_here c.self.inside.marks.items (values c.self.inside.region.places) (ap (λ (a : Arena). a.frames) c.self.view_is)
    c.requires c.index.ensures.reads in
    get_or_read notes c.index.result c.index-2.result.now (omega (arith, here.in_marks, c.self.invariant.0.arena.notes_for_each)) c.index-2.ensures 0
    ∙ sym (note_of-marked c.self.inside.marks.items notes c.index.result here.mark)
    ∙ ap (λ i. note_of (marked_notes c.self.inside.marks.items notes) i) c.index.ensures.reads
    ∙ ap (λ (a : Arena). note_of a.notes c.args.frame) c.self.view_is
