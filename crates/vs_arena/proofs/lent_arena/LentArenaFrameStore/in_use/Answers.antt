use Rattle.std.proofs.Common.{take, sym, ap, subst, arith}
use Rattle.vs_arena.specs.Store.{IsInUse}
use Rattle.vs_arena.specs.Lent.{LentFrames}
use Rattle.vs_arena.specs.LentMarks.{uses_of_first}
use Rattle.vs_arena.proofs.MarkedFrames.{IsMarked-from_use}
use Rattle.vs_arena.proofs.LentArenas.{was_lent}
use Rattle.vs_arena.proofs.lent_arena.LentArenaFrameStore.in_use.Goals as goal

pub at_index-requires : goal.at_index-requires
at_index-requires c =
    let in_use = subst (λ (a : LentFrames). IsInUse a.frames c.requires.0) (sym c.self.view_is) c.requires.2 in
    let marked = IsMarked-from_use (uses_of_first c.self.inside.taken c.self.inside.marks.now)
    (take c.self.inside.taken c.self.inside.words.now) c.requires.0 in_use in
    let base_is = ap (λ (a : LentFrames). a.base) c.self.view_is in
    omega (arith, was_lent c.self.invariant marked, c.self.invariant.arena.few_frames, c.requires.1, base_is)
