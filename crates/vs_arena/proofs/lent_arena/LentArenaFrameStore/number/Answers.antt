use Rattle.std.proofs.Common.{take, ap, arith}
use Rattle.vs_arena.specs.Lent.{LentFrames}
use Rattle.vs_arena.specs.LentMarks.{uses_of_first}
use Rattle.vs_arena.proofs.MarkedFrames.{marked_here}
use Rattle.vs_arena.proofs.LentArenas.{was_lent}
use Rattle.vs_arena.proofs.lent_arena.LentArenaFrameStore.number.Goals as goal

pub returns-clause-in_range : goal.returns-clause-in_range
returns-clause-in_range c =
    let here = marked_here (uses_of_first c.self.inside.taken c.self.inside.marks.now) (take c.self.inside.taken c.self.inside.words.now)
    (ap (λ (a : LentFrames). a.frames) c.self.view_is) c.requires c.index.ensures.reads in
    omega (arith, was_lent c.self.invariant here, c.self.invariant.arena.numbers_fit)
