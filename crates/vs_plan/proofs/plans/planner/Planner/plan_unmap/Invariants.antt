use Rattle.std.proofs.Common.{◌+◌, ◌-◌, ◌≡◌, ◌≤◌, ◌∷◌}
use Rattle.std.specs.Prelude.{slice_index}
use Rattle.vs_types.specs.Depth.{index_at}
use Rattle.vs_plan.specs.declared.plans.plan.Store.{Store}
use Rattle.vs_plan.proofs.Unlinks.{cuts, cut_off}
use Rattle.vs_plan.proofs.Unmapping.{flush_of}
use Rattle.vs_plan.proofs.plans.planner.Planner.plan_unmap.Given as goal

abbrev pub invariant-loop-level : goal.invariant-loop-level
invariant-loop-level l =
    (l.self.level ≤ l.level) × (l.level ≤ l.self.level + (l.self.stop - l.self.level))
    × (l.plan.stores.items ≡ (let first : Store = record { frame = l.self.number; index = index_at l.self.level l.base; old = l.word; new = 0 } in first)
    ∷ cuts (slice_index l.self.numbers) (slice_index l.self.words) l.base l.self.level (l.level - l.self.level))
    × (l.plan.unlinked.items ≡ cut_off (slice_index l.self.numbers) l.self.level (l.level - l.self.level))
    × (l.plan.flush ≡ flush_of (l.level - l.self.level) l.base l.size)
    × (l.plan.reply ≡ l.initial.plan.reply) × (l.plan.bits ≡ l.initial.plan.bits)
    × (l.plan.fill ≡ l.initial.plan.fill)

abbrev pub decreases-loop-level : goal.decreases-loop-level
decreases-loop-level l = l.self.stop - l.level
