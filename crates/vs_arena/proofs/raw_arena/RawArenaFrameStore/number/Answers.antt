use Rattle.std.proofs.Common.{sym, subst, arith}
use Rattle.vs_arena.specs.Store.{IsInUse}
use Rattle.vs_arena.specs.Arena.{Arena}
use Rattle.vs_arena.specs.inside.RawArena.{values}
use Rattle.vs_arena.proofs.MarkedFrames.{IsMarked-from_use}
use Rattle.vs_arena.proofs.raw_arena.RawArenaFrameStore.number.Goals as goal

pub returns-clause-in_range : goal.returns-clause-in_range
returns-clause-in_range c =
    let in_use = subst (λ (a : Arena). IsInUse a.frames c.args.frame) (sym c.self.view_is) c.requires in
    let marked = IsMarked-from_use c.self.inside.marks.items (values c.self.inside.region.places) c.args.frame in_use in
    omega (arith, marked.in_marks, c.self.invariant.0.arena.numbers_fit, c.self.invariant.0.arena.ever_taken, c.index.ensures.reads)
