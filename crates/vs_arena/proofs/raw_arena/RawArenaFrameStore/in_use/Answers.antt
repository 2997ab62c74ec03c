use Rattle.std.proofs.Common.{sym, ap, subst, arith}
use Rattle.vs_arena.specs.Store.{IsInUse}
use Rattle.vs_arena.specs.Arena.{Arena}
use Rattle.vs_arena.specs.inside.RawArena.{values}
use Rattle.vs_arena.proofs.MarkedFrames.{IsMarked-from_use}
use Rattle.vs_arena.proofs.raw_arena.RawArenaFrameStore.in_use.Goals as goal

pub at_index-requires : goal.at_index-requires
at_index-requires c =
    let in_use = subst (λ (a : Arena). IsInUse a.frames c.requires.0) (sym c.self.view_is) c.requires.2 in
    let marked = IsMarked-from_use c.self.inside.marks.items (values c.self.inside.region.places) c.requires.0 in_use in
    let base_is = ap (λ (a : Arena). a.base) c.self.view_is in
    omega (arith, marked.in_marks, c.self.invariant.0.arena.few_frames, c.self.invariant.0.arena.ever_taken, c.requires.1, base_is)
