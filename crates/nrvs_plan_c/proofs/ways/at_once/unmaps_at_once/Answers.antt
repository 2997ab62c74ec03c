use Rattle.vs_plan.specs.declared.plans.request.Request.TheVariants.{Unmap}
use Rattle.vs_plan.specs.Request.{IsRequest}
use Rattle.nrvs_plan_c.specs.Kept.{target_of}
use Rattle.nrvs_plan_c.proofs.AtOnce.{begun_well, seen_at_once}
use Rattle.nrvs_plan_c.proofs.ways.at_once.unmaps_at_once.Goals as goal

pub returns-clause-asked : goal.returns-clause-asked
returns-clause-asked c = λ done.
    let ask = c.in-Some.ensures.askable in
    let good : IsRequest (target_of c.args.target.now) (Unmap c.args.base) =
    record { phys_bits = ask.phys_bits; root = ask.root; canonical = ask.canonical; whole = c.if-base-ne0.false } in
    begun_well ask _ good

pub returns-clause-seen : goal.returns-clause-seen
returns-clause-seen c = λ done.
    let ask = c.in-Some.ensures.askable in
    let good : IsRequest (target_of c.args.target.now) (Unmap c.args.base) =
    record { phys_bits = ask.phys_bits; root = ask.root; canonical = ask.canonical; whole = c.if-base-ne0.false } in
    seen_at_once c.end_unmap.ensures.made
    (λ memory has.
    let is = c.in-Some.ensures.end memory has in
    c.end_unmap.ensures.right _ memory good is (λ odd. c.may_clear.ensures c.if-not-may_clear.false memory c.args.base has is.index odd))
