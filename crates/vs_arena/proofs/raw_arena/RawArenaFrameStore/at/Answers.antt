use Rattle.std.proofs.Common.{◌≡◌, ℕ, ◌+◌, ◌≤◌, length, arith, true, false, get_or, IfSome, IfNone, List, Bool, subst}
use Rattle.vs_arena.specs.Store.{IsInUse, IsFree}
use Rattle.vs_arena.specs.Arena.{Arena}
use Rattle.vs_types.specs.declared.limits.TheConstants.{TABLES}
use Rattle.vs_arena.specs.inside.RawArena.{values}
use Rattle.vs_arena.proofs.MarkedFrames.{used_if_marked, free_if_unmarked}
use Rattle.vs_arena.proofs.raw_arena.RawArenaFrameStore.at.Goals as goal

pub marked_at-requires : goal.marked_at-requires
marked_at-requires c = rw c.deref.ensures.value
    (let few : length c.self.inside.marks.items ≤ TABLES = omega
    (arith, c.self.invariant.0.arena.few_frames, c.self.invariant.0.arena.ever_taken) in few)

pub returns-clause-numbered : goal.returns-clause-numbered
returns-clause-numbered c = subst (λ (a : Arena). IfSome c.marked_at.result (λ f. a.base + f ≡ c.args.number)) c.self.view_is c.marked_at.ensures.numbered

pub returns-clause-in_use : goal.returns-clause-in_use
returns-clause-in_use c =
    let marked = subst (λ (marks : List Bool). IfSome c.marked_at.result (λ f. get_or marks f false ≡ true)) c.deref.ensures.value c.marked_at.ensures.marked in
    subst (λ (a : Arena). IfSome c.marked_at.result (IsInUse a.frames)) c.self.view_is
    (used_if_marked c.self.inside.marks.items (values c.self.inside.region.places) c.marked_at.result marked)

pub returns-clause-unknown : goal.returns-clause-unknown
returns-clause-unknown c =
    let unmarked = subst (λ (marks : List Bool). IfNone c.marked_at.result ((f : ℕ) → c.self.inside.base + f ≡ c.args.number → get_or marks f false ≡ false))
    c.deref.ensures.value c.marked_at.ensures.unmarked in
    subst (λ (a : Arena). IfNone c.marked_at.result ((f : ℕ) → a.base + f ≡ c.args.number → IsFree a.frames f)) c.self.view_is
    (free_if_unmarked c.self.inside.marks.items (values c.self.inside.region.places) c.self.inside.base c.args.number c.marked_at.result unmarked)
