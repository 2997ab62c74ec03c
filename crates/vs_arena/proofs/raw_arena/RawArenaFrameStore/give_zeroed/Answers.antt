use Rattle.std.proofs.Common.{◌≡◌, sym, ap, subst, ◌∙◌, arith}
use Rattle.std.specs.FinMap as finite
use Rattle.vs_arena.specs.Store.{words_of, zeros}
use Rattle.vs_arena.specs.Arena.{Arena}
use Rattle.vs_arena.specs.Marked.{marked_frames}
use Rattle.vs_arena.specs.inside.RawArena.{values}
use Rattle.vs_arena.proofs.Marked.{marked-unmark}
use Rattle.vs_arena.proofs.MarkedFrames.{marked_here, marked_frames-unmark, room_for_one, IsArena-give}
use Rattle.vs_arena.proofs.RawArenas.{IsRawArena-kept}
use Rattle.vs_arena.proofs.raw_arena.RawArenaFrameStore.give_zeroed.Goals as goal

pub index_mut-requires : goal.index_mut-requires
index_mut-requires c =
    let here = marked_here c.self.inside.marks.items (values c.self.inside.region.places) (ap (λ (a : Arena). a.frames) c.self.view_is)
    c.requires.in_use c.index-index.ensures.reads in
    omega (arith, here.in_marks, c.self.inside.marks.ok.0)

pub push_reserved-requires : goal.push_reserved-requires
push_reserved-requires c =
    let here = marked_here c.self.inside.marks.items (values c.self.inside.region.places) (ap (λ (a : Arena). a.frames) c.self.view_is)
    c.requires.in_use c.index-index.ensures.reads in
    omega (arith, room_for_one c.self.invariant.0.arena here, c.self.invariant.0.arena.ever_taken, c.self.invariant.1.free, c.self.inside.free.ok.0)

pub invariant_of-self : goal.invariant_of-self
invariant_of-self c =
    let here = marked_here c.self.inside.marks.items (values c.self.inside.region.places) (ap (λ (a : Arena). a.frames) c.self.view_is)
    c.requires.in_use c.index-index.ensures.reads in
    let zeroed = subst (λ (a : Arena). words_of a.frames c.args.frame ≡ zeros) (sym c.self.view_is) c.requires.zeroed in
    let own = sym here.own ∙ ap (λ i. words_of (marked_frames c.self.inside.marks.items (values c.self.inside.region.places)) i)
    c.index-index.ensures.reads ∙ zeroed in (
      rw c.push_reserved.ensures.items (IsRawArena-kept c.self.invariant.0 (IsArena-give c.self.invariant.0.arena here own)),
      record {
        marks = c.self.invariant.1.marks;
        notes = c.self.invariant.1.notes;
        free = rw c.push_reserved.ensures.capacity c.self.invariant.1.free;
      },
      c.self.invariant.2,
      c.self.invariant.3,
      c.self.invariant.4,
      c.self.invariant.5,
    )

pub returns-clause-removed : goal.returns-clause-removed
returns-clause-removed c =
    let here = marked_here c.self.inside.marks.items (values c.self.inside.region.places) (ap (λ (a : Arena). a.frames) c.self.view_is)
    c.requires.in_use c.index-index.ensures.reads in
    rw (← c.index-index.ensures.reads) (marked_frames-unmark c.self.inside.marks.items (values c.self.inside.region.places) c.index-index.result here.in_marks)
    ∙ ap (λ (a : Arena). finite.remove a.frames c.args.frame) c.self.view_is

pub returns-clause-removed_note : goal.returns-clause-removed_note
returns-clause-removed_note c =
    let here = marked_here c.self.inside.marks.items (values c.self.inside.region.places) (ap (λ (a : Arena). a.frames) c.self.view_is)
    c.requires.in_use c.index-index.ensures.reads in
    rw (← c.index-index.ensures.reads) (marked-unmark 0 c.self.inside.marks.items c.self.inside.notes.items c.index-index.result here.in_marks)
    ∙ ap (λ (a : Arena). finite.remove a.notes c.args.frame) c.self.view_is
