use Rattle.std.proofs.Common.{◌≡◌, false, get_or, take, ap, subst, arith}
use Rattle.vs_arena.specs.Store.{IsInUse, IsFree}
use Rattle.vs_arena.specs.Lent.{LentFrames}
use Rattle.vs_arena.specs.LentMarks.{uses_of_first}
use Rattle.vs_arena.proofs.MarkedFrames.{IsInUse-from_mark, IsFree-from_mark}
use Rattle.vs_arena.proofs.LentArenas.{is_used, is_unused, is_past}
use Rattle.vs_arena.proofs.lent_arena.LentArenaFrameStore.at.Goals.{else-index-self-via-then-index-self+else-self-index, else-index-self-via-else-index-self}
use Rattle.vs_arena.proofs.lent_arena.LentArenaFrameStore.at.Goals as goal

pub returns-then-self-index-clause-in_use : goal.returns-then-self-index-clause-in_use
returns-then-self-index-clause-in_use c =
    rw c.at_index.ensures (subst (λ (a : LentFrames). IsInUse a.frames c.in_ok-index.index) c.self.view_is
    (IsInUse-from_mark (uses_of_first c.self.inside.taken c.self.inside.marks.now) (take c.self.inside.taken c.self.inside.words.now) c.in_ok-index.index
    (is_used c.self.invariant c.in_ok-index.index c.if-index-self.true c.if-self-index.true)))

pub returns-else-index-self-clause-unknown : goal.returns-else-index-self-clause-unknown
returns-else-index-self-clause-unknown c = λ f named.
    let base_is = ap (λ (a : LentFrames). a.base) c.self.view_is in
    let at : c.in_ok-index.index ≡ f = omega (arith, named, base_is, c.in_ok-index.ensures) in
    let unmarked : get_or (uses_of_first c.self.inside.taken c.self.inside.marks.now) c.in_ok-index.index false ≡ false = elim c.else-index-self.branch [
      | else-index-self-via-then-index-self+else-self-index w ↦ is_unused c.self.invariant c.in_ok-index.index w.if-self-index.false
      | else-index-self-via-else-index-self w ↦ is_past c.self.invariant c.in_ok-index.index w.if-index-self.false
    ] in
    rw (← at) (subst (λ (a : LentFrames). IsFree a.frames c.in_ok-index.index) c.self.view_is
    (IsFree-from_mark (uses_of_first c.self.inside.taken c.self.inside.marks.now) (take c.self.inside.taken c.self.inside.words.now)
    c.in_ok-index.index unmarked))
