-- A way that begins, that goes on, and that has come to a table of level 1, where a plan is kept.
use Rattle.std.proofs.Common.{◌≡◌, ℕ, Bool, true, false, ◌+◌, ◌-◌, ◌*◌, ◌/◌, ◌^◌, ◌<◌, ◌≤◌, [], Some, sym, ap, subst, ◌∙◌, min, arith}
use Rattle.std.specs.Prelude.{nat_eq, if◌then◌else◌}
use Rattle.std.proofs.Math.Nat.{lt-div-mul-add}
use lib.Pow.{pow_pos, shr-shr}
use Rattle.vs_types.specs.Depth.{index_at, levels}
use Rattle.vs_types.specs.Entry.{all_rights}
use Rattle.vs_walk.specs.Memory.{Memory}
use Rattle.vs_space.specs.Held.{word_at}
use Rattle.vs_plan.specs.declared.plans.planner.Phase.{Phase}
use Rattle.vs_plan.specs.declared.plans.request.Request.TheVariants.{Unmap}
use Rattle.vs_plan.specs.declared.plans.target.Target as targets
use Rattle.vs_plan.specs.Planner.{AwaitsWords, Sees}
use Rattle.vs_plan.specs.Request.{IsRequest, address_of, lowest_of}
use Rattle.vs_plan.specs.Shown.{IsDescended, IsShown, IsShownIn}
use Rattle.vs_plan.specs.Target.{frames_end, highest_link}
use Rattle.vs_plan.specs.Way.{IsWay, Begins}
use Rattle.vs_plan.proofs.Requests.{low_request}
use Rattle.nrvs_plan_c.specs.declared.end.End.{End}
use Rattle.nrvs_plan_c.specs.declared.records.kept.Met.{Met}
use Rattle.nrvs_plan_c.specs.declared.records.kept.Plan.{Plan}
use Rattle.nrvs_plan_c.specs.Kept.{IsSound, IsWaiting, phase_in, planner_in, request_in, target_at, target_in}
use Rattle.vs_types.specs.Bits.{rights_at}
use Rattle.nrvs_plan_c.specs.Next.{IsAtRoot, IsNextOf, IsPlanned, status_in}
use Rattle.nrvs_plan_c.specs.inside.End.{IsEndOf, IsMade}
use Rattle.nrvs_plan_c.proofs.Ends.{four_levels}
use Rattle.nrvs_plan_c.proofs.Keeping.{address_in, goes_down}
use Rattle.nrvs_plan_c.proofs.CallKinds.{good_at, good_in}

links_most : (pinned most : ℕ) → (if nat_eq pinned 0 then most else min most (pinned - 1)) ≤ most
links_most pinned most = by (nat_eq pinned 0) where
  by : (b : Bool) → (if b then most else min most (pinned - 1)) ≤ most
  by true = omega arith
  by false = omega arith

-- ---- on the way down

module _ (plan : Plan) (down : plan.way.phase ≤ 1) where
  abbrev target : targets.Target
  target = target_at plan.way.phase plan.call

  pub awaits_down : IsSound plan → AwaitsWords (planner_in plan)
  awaits_down sound = subst (λ (phase : Phase). IsWaiting phase (planner_in plan)) (goes_down plan.way.phase down) sound.waits

  pub good_down : IsSound plan → IsRequest (target_in plan.call) (request_in plan.call)
  good_down sound = good_in plan.call plan.way.phase (request_in plan.call) (awaits_down sound).request

  pub descended_down : (memory : Memory) → IsShown memory (planner_in plan) → IsDescended memory (planner_in plan)
  descended_down memory shown = subst (λ (phase : Phase). IsShownIn phase memory (planner_in plan)) (goes_down plan.way.phase down) shown

  pub begun_down : IsRequest (target_in plan.call) (request_in plan.call) → plan.frame ≡ plan.call.root → plan.store_count ≡ 0
      → rights_at plan.way.allowed ≡ all_rights → plan.way.level ≡ levels target.depth → plan.way.stop ≤ highest_link target
      → ((base : ℕ) → request_in plan.call ≡ Unmap base → highest_link target ≤ plan.way.stop) → IsAtRoot plan
  begun_down good root none all level stop busy =
      let is = goes_down plan.way.phase down in
      let few = links_most target.pinned (levels target.depth) in
      let waits : AwaitsWords (planner_in plan) = record {
        request = good_at plan.call plan.way.phase (request_in plan.call) good;
        phase = subst Sees (sym is) tt;
        some = omega (arith, level, four_levels target.depth);
        few = omega (arith, level);
        lowest = λ _. omega (arith, level, four_levels target.depth, low_request (request_in plan.call));
        within = subst (λ (n : ℕ). n < frames_end target) (sym root) good.root;
        stop = omega (arith, stop, few);
      } in
      record {
        sound = record {
          room = omega (arith, none);
          waits = subst (λ (phase : Phase). IsWaiting phase (planner_in plan)) (sym is) waits;
        };
        waits = ap status_in is;
        shown = λ memory.
            let address = address_of (request_in plan.call) in
            let shown : IsDescended memory (planner_in plan) = record {
              way = subst (IsWay target.depth memory plan.call.root address plan.way.level plan.frame) (sym all)
                  (subst (λ (n : ℕ). IsWay target.depth memory plan.call.root address plan.way.level n all_rights) (sym root)
                  (subst (λ (l : ℕ). IsWay target.depth memory plan.call.root address l plan.call.root all_rights) (sym level) Begins));
              met = record {
                tables = λ l from to. absurd (omega (arith, level, from, to));
                alone = λ l from low. absurd (omega (arith, level, from, low, stop, few));
                stop = stop;
                busy = λ base same low. absurd (omega (arith, busy base same, low));
              };
            } in
            subst (λ (phase : Phase). IsShownIn phase memory (planner_in plan)) (sym is) shown;
      }

  -- the way has gone down by a link
  pub sound_below : (frame level allowed : ℕ) (met : Met) → IsSound plan → 2 ≤ plan.way.level → level ≡ plan.way.level - 1
      → lowest_of (request_in plan.call) < plan.way.level → frame < frames_end target
      → IsSound (record plan { frame = frame; met = met; way = record plan.way { level = level; allowed = allowed } })
  sound_below frame level allowed met sound two one low within =
      let is = goes_down plan.way.phase down in
      let awaits = awaits_down sound in
      let after : Plan = record plan { frame = frame; met = met; way = record plan.way { level = level; allowed = allowed } } in
      let waits : AwaitsWords (planner_in after) = record {
        request = awaits.request;
        phase = subst Sees (sym is) tt;
        some = omega (arith, one, two);
        few = omega (arith, one, awaits.few);
        lowest = λ _. omega (arith, one, low);
        within = within;
        stop = awaits.stop;
      } in
      record {
        room = sound.room;
        waits = subst (λ (phase : Phase). IsWaiting phase (planner_in after)) (sym is) waits;
      }

  -- the way has come to the entry of a table of level 1
  pub end_down : {memory : Memory} {word : ℕ} {end : End} → plan.way.level ≡ 1 → IsShown memory (planner_in plan)
      → word_at memory plan.frame (index_at 1 plan.call.address) ≡ Some word → end.number ≡ plan.frame → end.index ≡ index_at 1 plan.call.address
      → end.word ≡ word → end.allowed ≡ plan.way.allowed → IsEndOf (target_in plan.call) memory plan.call.address end
  end_down {memory} {word} {end} last shown there number index same allowed = record {
    way = subst (λ (a : ℕ). IsWay target.depth memory plan.call.root plan.call.address 1 end.number (rights_at a)) (sym allowed)
        (subst (λ (n : ℕ). IsWay target.depth memory plan.call.root plan.call.address 1 n (rights_at plan.way.allowed)) (sym number)
        (subst (λ (l : ℕ). IsWay target.depth memory plan.call.root plan.call.address l plan.frame (rights_at plan.way.allowed)) last
        (subst (λ (a : ℕ). IsWay target.depth memory plan.call.root a plan.way.level plan.frame (rights_at plan.way.allowed)) (address_in plan.call)
        (descended_down memory shown).way)));
    index = index;
    word = subst (λ (n : ℕ). word_at memory n (index_at 1 plan.call.address) ≡ Some end.word) (sym number) (there ∙ ap Some (sym same));
  }

-- a frame that lies within the physical addresses, by the bits of an address in it
pub frame_within : (address bits : ℕ) → 36 ≤ bits → address / 2 ^ bits ≡ 0 → address / 4096 < 2 ^ (bits - 12)
frame_within address bits from is =
    let whole : 12 + (bits - 12) ≡ bits = omega (arith, from) in
    let none : address / 4096 / 2 ^ (bits - 12) ≡ 0 = shr-shr address 12 (bits - 12) ∙ ap (λ (n : ℕ). address / 2 ^ n) whole ∙ is in
    let low : address / 4096 < address / 4096 / 2 ^ (bits - 12) * 2 ^ (bits - 12) + 2 ^ (bits - 12) = lt-div-mul-add (pow_pos (bits - 12)) in
    let below : address / 4096 < 0 * 2 ^ (bits - 12) + 2 ^ (bits - 12) =
    subst (λ (n : ℕ). address / 4096 < n * 2 ^ (bits - 12) + 2 ^ (bits - 12)) none low in
    omega (arith, below)

-- ---- where a plan was made in place

pub made_sound : {plan : Plan} → IsMade plan → IsSound plan
made_sound {plan} made = record {
  room = omega (arith, made.few);
  waits = subst (λ (n : ℕ). IsWaiting (phase_in n) (planner_in plan)) (sym made.ended) tt;
}

pub made_status : {plan : Plan} → IsMade plan → 0 ≡ status_in (phase_in plan.way.phase)
made_status made = ap (λ (n : ℕ). status_in (phase_in n)) (sym made.ended)

pub made_next : {memory : Memory} {plan : Plan} → IsPlanned (target_in plan.call) (request_in plan.call) memory plan [] → IsNextOf memory plan [] 0
made_next planned = record {
  sees = λ e. absurd (omega (arith, e));
  gives = λ e. absurd (omega (arith, e));
  planned = λ e. planned;
}
