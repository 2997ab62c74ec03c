use Rattle.std.proofs.Common.{ap, ◌∙◌, arith}
use Rattle.std.specs.Prelude.{if◌then◌else◌}
use Rattle.std.proofs.lemmas.Bool.{le-ltb}
use Rattle.vs_plan.specs.declared.plans.request.Request.TheVariants.{Protect}
use Rattle.vs_plan.specs.Request.{IsRequest, request_fault}
use Rattle.nrvs_plan_c.specs.Kept.{rights_in, target_of}
use Rattle.nrvs_plan_c.specs.Status.{begun_status, target_status}
use Rattle.nrvs_plan_c.proofs.AtOnce.{begun_well, seen_at_once}
use Rattle.nrvs_plan_c.proofs.ways.at_once.protects_at_once.Goals as goal

pub returns-clause-asked : goal.returns-clause-asked
returns-clause-asked c = λ done.
    let ask = c.in-Some.ensures.askable in
    let good : IsRequest (target_of c.args.target.now) (Protect c.args.base (rights_in c.args.rights)) =
    record { phys_bits = ask.phys_bits; root = ask.root; canonical = ask.canonical; whole = c.if-base-ne0.false } in
    ap (λ b. target_status c.args.target.now.levels c.args.target.now.phys_bits
    (if b then 7 else begun_status (request_fault (target_of c.args.target.now) (Protect c.args.base (rights_in c.args.rights)))))
    (le-ltb 7 c.args.rights (omega (arith, c.if-rights-gt7.false)))
    ∙ begun_well ask _ good

pub returns-clause-seen : goal.returns-clause-seen
returns-clause-seen c = λ done.
    let ask = c.in-Some.ensures.askable in
    let good : IsRequest (target_of c.args.target.now) (Protect c.args.base (rights_in c.args.rights)) =
    record { phys_bits = ask.phys_bits; root = ask.root; canonical = ask.canonical; whole = c.if-base-ne0.false } in
    seen_at_once c.end_protect.ensures.made
    (λ memory has. c.end_protect.ensures.right _ memory good (c.in-Some.ensures.end memory has))
