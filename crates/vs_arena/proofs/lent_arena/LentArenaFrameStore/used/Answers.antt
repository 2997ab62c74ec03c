use Rattle.std.proofs.Common.{ap, arith}
use Rattle.std.specs.FinMap as finite
use Rattle.vs_arena.specs.Lent.{LentFrames}
use Rattle.vs_arena.proofs.LentArenas.{used_count}
use Rattle.vs_arena.proofs.lent_arena.LentArenaFrameStore.used.Goals as goal

pub returns-clause-counts : goal.returns-clause-counts
returns-clause-counts c = omega (arith, used_count c.self.invariant, c.self.invariant.given_within, ap (λ (a : LentFrames). finite.len a.frames) c.self.view_is)

pub returns-clause-at_most : goal.returns-clause-at_most
returns-clause-at_most c = omega (arith, c.self.invariant.taken_within, ap (λ (a : LentFrames). a.size) c.self.view_is)
