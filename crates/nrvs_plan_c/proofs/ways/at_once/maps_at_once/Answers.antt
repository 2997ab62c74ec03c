use Rattle.std.proofs.Common.{◌≡◌, ◌+◌, ◌^◌, false, min, sym, ap, subst, ◌∙◌, arith}
use Rattle.std.specs.Prelude.{nat_lt, if◌then◌else◌}
use Rattle.std.proofs.lemmas.Bool.{le-ltb}
use Rattle.vs_plan.specs.declared.plans.request.Request.TheVariants.{Map}
use Rattle.vs_plan.specs.Request.{request_fault}
use Rattle.nrvs_plan_c.specs.Direct.{HasSeen}
use Rattle.nrvs_plan_c.specs.Kept.{page_in, target_of}
use Rattle.nrvs_plan_c.specs.Status.{begun_status, target_status}
use Rattle.nrvs_plan_c.proofs.AtOnce.{begun_well, ends_within, maps_well, seen_at_once}
use Rattle.nrvs_plan_c.proofs.ways.at_once.maps_at_once.Goals as goal

pub end_map-requires-clause-in_range : goal.end_map-requires-clause-in_range
end_map-requires-clause-in_range c =
    let within = ends_within c.args.physical c.args.target.now.phys_bits (sym c.ends_beyond.ensures ∙ c.if-ends_beyond.false) in
    omega (arith, within)

pub returns-clause-asked : goal.returns-clause-asked
returns-clause-asked c = λ done.
    let ask = c.in-Some.ensures.askable in
    let within : nat_lt (2 ^ min c.args.target.now.phys_bits 51) (c.args.physical + 4096) ≡ false = sym c.ends_beyond.ensures ∙ c.if-ends_beyond.false in
    let good = maps_well ask c.args.physical c.args.rights c.args.bits c.if-base-ne0.false c.if-physical-ne0.false within
    (c.are_bits.ensures.0 c.if-not-are_bits.false) in
    let target = c.args.target.now in
    ap (λ n. target_status target.levels target.phys_bits (if nat_lt 2 n then 6 else if nat_lt 7 c.args.rights then 7
    else begun_status (request_fault (target_of target) (Map (page_in c.args.base n c.args.physical c.args.rights) c.args.bits)))) c.if-size-ne0.false
    ∙ ap (λ b. target_status target.levels target.phys_bits (if b then 7
    else begun_status (request_fault (target_of target) (Map (page_in c.args.base 0 c.args.physical c.args.rights) c.args.bits))))
    (le-ltb 7 c.args.rights (omega (arith, c.if-rights-gt7.false)))
    ∙ begun_well ask _ good

pub returns-clause-seen : goal.returns-clause-seen
returns-clause-seen c = λ done.
    let ask = c.in-Some.ensures.askable in
    let within : nat_lt (2 ^ min c.args.target.now.phys_bits 51) (c.args.physical + 4096) ≡ false = sym c.ends_beyond.ensures ∙ c.if-ends_beyond.false in
    let good = maps_well ask c.args.physical c.args.rights c.args.bits c.if-base-ne0.false c.if-physical-ne0.false within
    (c.are_bits.ensures.0 c.if-not-are_bits.false) in
    subst (λ n. HasSeen (target_of c.args.target.now) (Map (page_in c.args.base n c.args.physical c.args.rights) c.args.bits) c.args.first
    c.args.frames.now c.end_map.new.plan 0) (sym c.if-size-ne0.false)
    (seen_at_once c.end_map.ensures.made (λ memory has. c.end_map.ensures.right _ memory good (c.in-Some.ensures.end memory has)))
