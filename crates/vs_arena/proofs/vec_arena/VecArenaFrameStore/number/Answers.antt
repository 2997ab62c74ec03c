use Rattle.std.proofs.Common.{sym, subst, arith}
use Rattle.vs_arena.specs.Store.{IsInUse}
use Rattle.vs_arena.specs.Arena.{Arena}
use Rattle.vs_arena.proofs.MarkedFrames.{IsMarked-from_use}
use Rattle.vs_arena.proofs.vec_arena.VecArenaFrameStore.number.Goals as goal

pub returns-clause-in_range : goal.returns-clause-in_range
returns-clause-in_range c =
    let in_use = subst (λ (a : Arena). IsInUse a.frames c.args.frame) (sym c.self.view_is) c.requires in
    let marked = IsMarked-from_use c.self.inside.marks.items c.self.inside.words.items c.args.frame in_use in
    omega (arith, marked.in_marks, c.self.invariant.0.numbers_fit, c.self.invariant.0.ever_taken, c.index.ensures.reads)
