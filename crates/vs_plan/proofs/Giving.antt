-- What a planner that waits for a frame has found.
use Rattle.std.proofs.Common.{◌≡◌, ℕ, None, refl, subst}
use Rattle.vs_types.specs.Space.{Space}
use Rattle.vs_types.specs.declared.addresses.page.Page.{Page}
use Rattle.vs_walk.specs.Memory.{Memory}
use Rattle.vs_plan.specs.declared.plans.planner.Phase.{Phase}
use Rattle.vs_plan.specs.declared.plans.planner.Phase.TheVariants as phases
use Rattle.vs_plan.specs.declared.plans.planner.Planner.{Planner}
use Rattle.vs_plan.specs.declared.plans.request.Request.TheVariants.{Map}
use Rattle.vs_plan.specs.Planner.{AwaitsFrame, AwaitsFrameIn, AwaitsGrowth, AwaitsDivision, Divides}
use Rattle.vs_plan.specs.Premise.{IsPremise}
use Rattle.vs_plan.specs.Request.{address_of, refusal}
use Rattle.vs_plan.specs.Shown.{IsShown, IsShownIn, IsGrown, IsDivided}
use Rattle.vs_plan.proofs.Divided.{division_due}
use Rattle.vs_plan.proofs.Parts.{due_as}

-- no refusal is due
pub give_due : {memory : Memory} (p : Planner) → AwaitsFrame p → IsShown memory p → (space : Space)
    → IsPremise p.target.depth memory p.target.root (address_of p.request) space → refusal p.target space p.request ≡ None
give_due {memory} p awaits shown space premise = by p.phase awaits shown where
  by : (phase : Phase) → AwaitsFrameIn phase p → IsShownIn phase memory p → refusal p.target space p.request ≡ None
  by phases.Growth awaits shown = due_as p.target space awaits.is_map.2 refl
  by phases.Division awaits shown = division_due shown awaits.request premise
  by _ awaits shown = absurd awaits

-- the planner of a map fills new tables, that of a split or an unmap of parts one
pub waits_growth : (p : Planner) → AwaitsFrame p → {page : Page} {bits : ℕ} → p.request ≡ Map page bits → AwaitsGrowth p
waits_growth p awaits {page} {bits} is = by p.phase awaits where
  by : (phase : Phase) → AwaitsFrameIn phase p → AwaitsGrowth p
  by phases.Growth awaits = awaits
  by phases.Division awaits = absurd (subst Divides is awaits.divides)
  by _ awaits = absurd awaits

pub waits_division : (p : Planner) → AwaitsFrame p → Divides p.request → AwaitsDivision p
waits_division p awaits divides = by p.phase awaits where
  by : (phase : Phase) → AwaitsFrameIn phase p → AwaitsDivision p
  by phases.Growth awaits = absurd (subst Divides awaits.is_map.2 divides)
  by phases.Division awaits = awaits
  by _ awaits = absurd awaits

pub grown_shown : {memory : Memory} (p : Planner) → AwaitsGrowth p → IsShown memory p → IsGrown memory p
grown_shown {memory} p awaits shown = subst (λ phase. IsShownIn phase memory p) awaits.phase shown

pub divided_shown : {memory : Memory} (p : Planner) → AwaitsDivision p → IsShown memory p → IsDivided memory p
divided_shown {memory} p awaits shown = subst (λ phase. IsShownIn phase memory p) awaits.phase shown
