use Rattle.vs_plan.specs.declared.plans.request.Request.TheVariants.{Ask}
use Rattle.vs_plan.specs.Request.{IsRequest}
use Rattle.nrvs_plan_c.specs.Kept.{target_of}
use Rattle.nrvs_plan_c.proofs.AtOnce.{begun_well, seen_at_once}
use Rattle.nrvs_plan_c.proofs.ways.at_once.asks_at_once.Goals as goal

pub returns-clause-asked : goal.returns-clause-asked
returns-clause-asked c = λ done.
    let ask = c.in-Some.ensures.askable in
    let good : IsRequest (target_of c.args.target.now) (Ask c.args.address) =
    record { phys_bits = ask.phys_bits; root = ask.root; canonical = ask.canonical; whole = tt } in
    begun_well ask _ good

pub returns-clause-seen : goal.returns-clause-seen
returns-clause-seen c = λ done.
    let ask = c.in-Some.ensures.askable in
    let good : IsRequest (target_of c.args.target.now) (Ask c.args.address) =
    record { phys_bits = ask.phys_bits; root = ask.root; canonical = ask.canonical; whole = tt } in
    seen_at_once c.end_ask.ensures.made
    (λ memory has. c.end_ask.ensures.right _ memory good (c.in-Some.ensures.end memory has))
