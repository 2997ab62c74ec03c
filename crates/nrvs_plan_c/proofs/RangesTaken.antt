-- What is done with the page at the base of a range, in numbers.
use Rattle.std.proofs.Common.{◌≡◌, ◌≢◌, ℕ, ◌<◌, ◌≤◌, Bool, true, false, List, inl, inr, sym, ap, subst, ◌∙◌, arith}
use Rattle.std.specs.Int.{from_bool}
use Rattle.std.specs.Prelude.{nat_eq, slice_index}
use Rattle.vs_types.specs.Depth.{index_at}
use Rattle.vs_types.specs.Entry.{meaning}
use Rattle.vs_types.specs.declared.addresses.page.Rights.{Rights}
use Rattle.vs_types.specs.declared.addresses.page.Size.{Size}
use Rattle.vs_types.specs.declared.entries.entry.Meaning.TheVariants as entry
use Rattle.vs_plan.specs.declared.plans.planner.Phase.TheVariants.{Descent, Search}
use Rattle.vs_plan.specs.declared.plans.planner.Planner.{Planner}
use Rattle.vs_plan.specs.declared.plans.request.Request.{Request}
use Rattle.vs_plan.specs.declared.plans.request.Request.TheVariants.{Map}
use Rattle.vs_plan.specs.declared.plans.target.Target.{Target}
use Rattle.vs_plan.specs.Request.{lowest_of}
use Rattle.vs_plan.specs.Target.{frames_end}
use Rattle.vs_range.specs.declared.planner.RangePlanner.{RangePlanner}
use Rattle.vs_range.specs.declared.planner.RangeStep.{RangeStep}
use Rattle.vs_range.specs.declared.planner.RangeStep.TheVariants.{Runs, Harvests}
use Rattle.vs_range.specs.Planner.{FollowsLink, IsMap, IsInRun, IsPageAt, IsRunStep, TakesPage}
use Rattle.nrvs_plan_c.specs.declared.records.range.Run.{Run}
use Rattle.nrvs_plan_c.specs.Kept.{phase_in, request_in, target_at, target_in}
use Rattle.nrvs_plan_c.specs.Range.{range_in, IsRunStatus, IsSoundRange, TakesPageOf}
use Rattle.nrvs_plan_c.specs.inside.Stepped.{FollowsLinkOf, IsStatusOf}
use Rattle.nrvs_plan_c.proofs.Keeping.{address_in}

run_status : (step : RangeStep) (run : Run) (status : ℕ) → IsRunStep step → IsStatusOf step run status → IsRunStatus status
run_status (Runs made) run status is told = inl told
run_status (Harvests made) run status is told = inr told
run_status _ run status is told = absurd is

-- a step that a status names
pub told_as : (step is : RangeStep) (run : Run) (status : ℕ) → step ≡ is → IsStatusOf is run status → IsStatusOf step run status
told_as step is run status same told = subst (λ (s : RangeStep). IsStatusOf s run status) (sym same) told

-- the status of the planner's step shows what it did
pub taken_of : (before : Run) (words : List ℕ) (range : RangePlanner) (step : RangeStep) (run : Run) (status : ℕ) → range ≡ range_in before
    → TakesPage range words step → IsStatusOf step run status → TakesPageOf (range_in before) words run status
taken_of before words range step run status same takes told = by (subst (λ (r : RangePlanner). TakesPage r words step) same takes) where
  by : TakesPage (range_in before) words step → TakesPageOf (range_in before) words run status
  by taken = record {
    beyond = λ size seen no_map less. subst (λ (s : RangeStep). IsStatusOf s run status) (taken.beyond size seen no_map less) told;
    within = λ size seen fits in_run. run_status step run status (taken.within size seen fits in_run) told;
    mapped = λ map phase in_run. run_status step run status (taken.mapped map phase in_run) told;
  }

-- a page is mapped at the lowest level of its way
room_level : (range : RangePlanner) (words : List ℕ) (request : Request) → IsMap request → IsInRun range words request
    → range.planner.level ≡ lowest_of request
room_level range words (Map page bits) map room = room.level
room_level range words _ map room = absurd map

-- at a link there is no page, nor room for one
pub taken_down : (before : Run) (words : List ℕ) (run : Run) (word next : ℕ) (own : Rights) → IsSoundRange before
    → word ≡ slice_index words (index_at before.plan.way.level before.plan.call.address)
    → meaning before.plan.way.level word ≡ entry.Table next own → lowest_of (request_in before.plan.call) < before.plan.way.level
    → TakesPageOf (range_in before) words run 32
taken_down before words run word next own sound read link below = record {
  beyond = λ size seen no_map less. absurd (no_page size seen.1);
  within = λ size seen fits in_run. absurd (no_page size seen.1);
  mapped = λ map phase in_run. absurd (too_high (room_level (range_in before) words (request_in before.plan.call) map in_run));
} where
  here : before.plan.call.address ≡ before.base
  here = sym (address_in before.plan.call) ∙ sound.base

  no_page : (size : Size) → IsPageAt (range_in before) (slice_index words (index_at before.plan.way.level before.base)) size → ⊥
  no_page size at =
      let same : word ≡ slice_index words (index_at before.plan.way.level before.base) =
      read ∙ ap (λ a. slice_index words (index_at before.plan.way.level a)) here in
      let both : entry.Leaf at.page.phys at.page.own ≡ entry.Table next own =
      sym at.page.says ∙ ap (meaning before.plan.way.level) (sym same) ∙ link in
      cc

  too_high : before.plan.way.level ≡ lowest_of (request_in before.plan.call) → ⊥
  too_high same = omega (arith, same, below)

-- the way has come to its end, or below the level of a page that is mapped
pub none_below : (before : Run) → 1 ≤ before.plan.way.phase → before.plan.way.phase ≤ 2 → before.plan.way.phase ≢ 1
    → phase_in before.plan.way.phase ≡ Descent → ⊥
none_below before some few other is =
    let two : before.plan.way.phase ≡ 2 = omega (arith, some, few, other) in
    let both : Search ≡ Descent = ap phase_in (sym two) ∙ is in
    cc

pub taken_below : (before : Run) (words : List ℕ) (run : Run) (status : ℕ) → 1 ≤ before.plan.way.phase → before.plan.way.phase ≤ 2
    → before.plan.way.phase ≢ 1 → TakesPageOf (range_in before) words run status
taken_below before words run status some few other = record {
  beyond = λ size seen no_map less. absurd (none_below before some few other seen.0);
  within = λ size seen fits in_run. absurd (none_below before some few other seen.0);
  mapped = λ map phase in_run. absurd (none_below before some few other phase);
}

-- a link that the range's planner follows, by the status
pub leads_of : (before : Run) (words : List ℕ) (range then : RangePlanner) (step : RangeStep) (after : Run) (status : ℕ) → range ≡ range_in before
    → FollowsLink range words then step → IsStatusOf step after status → (status ≡ 32 → range_in after ≡ then)
    → target_at before.plan.way.phase before.plan.call ≡ target_in before.plan.call
    → FollowsLinkOf before words after status
leads_of before words range then step after status same leads told again target = λ next own phase low link within.
    let on = subst (λ (r : RangePlanner). FollowsLink r words then step) same leads next own phase low link
    (subst (λ (t : Target). next < frames_end t) (sym target) within) in
    let is : status ≡ 32 = subst (λ (s : RangeStep). IsStatusOf s after status) on.0 told in (
      is,
      ap (λ (r : RangePlanner). r.planner.level) (again is) ∙ on.1,
      ap (λ (r : RangePlanner). r.planner.phase) (again is) ∙ on.2,
      ap (λ (r : RangePlanner). r.alone) (again is) ∙ on.3,
    )

-- a range's planner that is kept is the same
pub range_back : (range : RangePlanner) (planner : Planner) (base bytes own : ℕ) → planner ≡ range.planner → base ≡ range.base → bytes ≡ range.bytes
    → nat_eq own 1 ≡ range.alone → record { planner = planner; base = base; bytes = bytes; alone = nat_eq own 1 } ≡ range
range_back range planner base bytes own a b c d = λ i. record { planner = a i; base = b i; bytes = c i; alone = d i }

pub own_back : (alone : Bool) (own : ℕ) → own ≡ from_bool alone → nat_eq own 1 ≡ alone
own_back true own is = ap (λ n. nat_eq n 1) is
own_back false own is = ap (λ n. nat_eq n 1) is
