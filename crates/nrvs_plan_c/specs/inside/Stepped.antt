-- The status that names the step of a range's planner.
use Rattle.std.specs.Prelude.{◌≡◌, ℕ, ◌-◌, ◌<◌, List, nat_eq, slice_index}
use Rattle.vs_types.specs.Codes.{size_code}
use Rattle.vs_types.specs.Depth.{index_at}
use Rattle.vs_types.specs.Entry.{meaning}
use Rattle.vs_types.specs.declared.addresses.page.Rights.{Rights}
use Rattle.vs_types.specs.declared.entries.entry.Meaning.TheVariants as entry
use Rattle.vs_plan.specs.declared.plans.planner.Phase.TheVariants.{Descent}
use Rattle.vs_plan.specs.Request.{lowest_of}
use Rattle.vs_plan.specs.Target.{frames_end}
use Rattle.vs_range.specs.declared.planner.RangeStep.{RangeStep}
use Rattle.vs_range.specs.declared.planner.RangeStep.TheVariants.{See, Give, Runs, Harvests, Planned, Absent, Beyond}
use Rattle.nrvs_plan_c.specs.declared.records.range.Run.{Run}
use Rattle.nrvs_plan_c.specs.Kept.{phase_in, request_in, target_in}

-- the status of a step, with the size of a page that ends beyond the range
abbrev pub IsStatusOf : RangeStep → Run → ℕ → Type 0
IsStatusOf (See number) run status = status ≡ 32
IsStatusOf Give run status = status ≡ 33
IsStatusOf (Planned plan) run status = status ≡ 0
IsStatusOf (Runs made) run status = status ≡ 34
IsStatusOf (Harvests made) run status = status ≡ 35
IsStatusOf (Absent bytes) run status = status ≡ 36
IsStatusOf (Beyond size) run status = (status ≡ 37) × (run.size ≡ size_code size)

-- a link on the way down to a table within the physical addresses, which is above the level of a page that is mapped, leads on
abbrev pub FollowsLinkOf : Run → List ℕ → Run → ℕ → Type 0
FollowsLinkOf before words after status = (next : ℕ) (own : Rights) → phase_in before.plan.way.phase ≡ Descent
    → lowest_of (request_in before.plan.call) < before.plan.way.level
    → meaning before.plan.way.level (slice_index words (index_at before.plan.way.level before.base)) ≡ entry.Table next own
    → next < frames_end (target_in before.plan.call)
    → (status ≡ 32) × (after.plan.way.level ≡ before.plan.way.level - 1) × (phase_in after.plan.way.phase ≡ Descent)
    × (nat_eq after.own 1 ≡ nat_eq before.own 1)
