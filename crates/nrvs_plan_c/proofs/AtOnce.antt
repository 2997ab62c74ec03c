-- What is seen where a plan was made at once.
use Rattle.std.proofs.Common.{◌≡◌, ℕ, ◌+◌, ◌%◌, ◌^◌, ◌≤◌, ◌⊎◌, List, [], false, min, ⊎_elim, refl, sym, ap, subst, ◌∙◌, arith}
use Rattle.std.specs.Prelude.{◌||◌, nat_eq, nat_lt, if◌then◌else◌}
use lib.Pow.{pow_mono}
use Rattle.std.proofs.lemmas.Bool.{le-ltb, ltb-false}
use Rattle.vs_walk.specs.Memory.{Memory}
use Rattle.vs_plan.specs.declared.plans.request.Request.{Request}
use Rattle.vs_plan.specs.declared.plans.request.Request.TheVariants.{Map}
use Rattle.vs_plan.specs.declared.plans.target.Target as targets
use Rattle.vs_types.specs.Bits.{AreBits}
use Rattle.vs_plan.specs.Request.{IsRequest, request_fault}
use Rattle.nrvs_plan_c.specs.declared.records.kept.Plan.{Plan}
use Rattle.nrvs_plan_c.specs.declared.records.kept.Target.{Target}
use Rattle.nrvs_plan_c.specs.declared.records.kept.Words.{Words}
use Rattle.nrvs_plan_c.specs.Direct.{HasFramesWithin, HasSeen}
use Rattle.nrvs_plan_c.specs.Kept.{IsWaiting, page_in, phase_in, planner_in, target_of}
use Rattle.nrvs_plan_c.specs.Next.{IsPlanned, status_in}
use Rattle.nrvs_plan_c.specs.Status.{begun_status, target_status}
use Rattle.nrvs_plan_c.specs.inside.End.{IsAskable, IsMade}
use Rattle.nrvs_plan_c.proofs.Faults.{no_fault}

pub seen_at_once : {target : targets.Target} {request : Request} {first : ℕ} {frames : List Words} {plan : Plan} → IsMade plan
    → ((memory : Memory) → HasFramesWithin target memory first frames → IsPlanned target request memory plan []) → HasSeen target request first frames plan 0
seen_at_once {plan = plan} made planned = record {
  sound = record {
    room = omega (arith, made.few);
    waits = subst (λ n. IsWaiting (phase_in n) (planner_in plan)) (sym made.ended) tt;
  };
  waits = ap (λ n. status_in (phase_in n)) (sym made.ended);
  elsewhere = λ e. absurd (omega (arith, e));
  given = λ e. absurd (omega (arith, e));
  ended = λ e. made.ended;
  named = λ e. omega (arith, made.none);
  kept = λ other. absurd (other refl);
  next = λ memory has. record {
    sees = λ e. absurd (omega (arith, e));
    gives = λ e. absurd (omega (arith, e));
    planned = λ e. planned memory has;
  };
}

-- a target that there is
target_plain : (levels phys_bits rest : ℕ) → (levels ≡ 4) ⊎ (levels ≡ 5) → phys_bits ≤ 52 → target_status levels phys_bits rest ≡ rest
target_plain levels phys_bits rest is le = ⊎_elim
    (λ (four : levels ≡ 4). ap (λ n. if nat_eq n 4 || nat_eq n 5 then (if nat_lt 52 phys_bits then 14 else rest) else 2) four)
    (λ (five : levels ≡ 5). ap (λ n. if nat_eq n 4 || nat_eq n 5 then (if nat_lt 52 phys_bits then 14 else rest) else 2) five)
    is
    ∙ ap (λ b. if b then 14 else rest) (le-ltb 52 phys_bits le)

module _ {target : Target} {address : ℕ} (ask : IsAskable target address) where
  pub begun_well : (request : Request) → IsRequest (target_of target) request
      → target_status target.levels target.phys_bits (begun_status (request_fault (target_of target) request)) ≡ 32
  begun_well request good =
      target_plain target.levels target.phys_bits (begun_status (request_fault (target_of target) request)) ask.levels ask.phys_bits.to
      ∙ ap begun_status (no_fault (target_of target) request good)

  -- a page that may be mapped
  pub maps_well : (physical rights bits : ℕ) → address % 4096 ≡ 0 → physical % 4096 ≡ 0
      → nat_lt (2 ^ min target.phys_bits 51) (physical + 4096) ≡ false → AreBits bits
      → IsRequest (target_of target) (Map (page_in address 0 physical rights) bits)
  maps_well physical rights bits aligned phys_aligned within are =
      let fits : physical + 4096 ≤ 2 ^ min target.phys_bits 51 = ltb-false (2 ^ min target.phys_bits 51) (physical + 4096) within in
      let low : 2 ^ min target.phys_bits 51 ≤ 2 ^ 51 = let le : min target.phys_bits 51 ≤ 51 = omega arith in pow_mono {j = 51} le in
      let own : 2 ^ min target.phys_bits 51 ≤ 2 ^ target.phys_bits =
      let le : min target.phys_bits 51 ≤ target.phys_bits = omega arith in pow_mono {j = target.phys_bits} le in
      record {
        phys_bits = ask.phys_bits;
        root = ask.root;
        canonical = ask.canonical;
        whole = record {
          good = record { canonical = ask.canonical; aligned = aligned; phys_aligned = phys_aligned; phys_range = omega (arith, fits, low) };
          within = omega (arith, fits, own);
          bits = are;
        };
      }

-- bytes that don't end beyond the physical addresses
pub ends_within : (physical phys_bits : ℕ) → nat_lt (2 ^ min phys_bits 51) (physical + 4096) ≡ false → physical + 4096 ≤ 2 ^ 51
ends_within physical phys_bits within =
    let fits : physical + 4096 ≤ 2 ^ min phys_bits 51 = ltb-false (2 ^ min phys_bits 51) (physical + 4096) within in
    let low : 2 ^ min phys_bits 51 ≤ 2 ^ 51 = let le : min phys_bits 51 ≤ 51 = omega arith in pow_mono {j = 51} le in
    omega (arith, fits, low)
