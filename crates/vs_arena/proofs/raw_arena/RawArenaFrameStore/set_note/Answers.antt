use Rattle.std.proofs.Common.{ap, ◌∙◌, arith}
use Rattle.std.specs.FinMap as finite
use Rattle.vs_arena.specs.Arena.{Arena}
use Rattle.vs_arena.specs.inside.RawArena.{values}
use Rattle.vs_arena.proofs.Marked.{marked-write}
use Rattle.vs_arena.proofs.MarkedFrames.{marked_here}
use Rattle.vs_arena.proofs.raw_arena.RawArenaFrameStore.set_note.Goals as goal

pub index_mut-requires : goal.index_mut-requires
index_mut-requires c =
    let here = marked_here c.self.inside.marks.items (values c.self.inside.region.places) (ap (λ (a : Arena). a.frames) c.self.view_is)
    c.requires c.index.ensures.reads in
    omega (arith, here.in_marks, c.self.invariant.0.arena.notes_for_each, c.self.inside.notes.ok.0)

pub returns-clause-written : goal.returns-clause-written
returns-clause-written c =
    let here = marked_here c.self.inside.marks.items (values c.self.inside.region.places) (ap (λ (a : Arena). a.frames) c.self.view_is)
    c.requires c.index.ensures.reads in
    rw (← c.index.ensures.reads) (marked-write 0 c.self.inside.marks.items c.self.inside.notes.items c.index.result c.args.note here.mark
    (omega (arith, here.in_marks, c.self.invariant.0.arena.notes_for_each)))
    ∙ ap (λ (a : Arena). finite.insert a.notes c.args.frame c.args.note) c.self.view_is
