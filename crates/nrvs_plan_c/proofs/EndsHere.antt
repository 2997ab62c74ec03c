-- A plan that is made where it is kept, at the end of its way in a table of level 1.
use Rattle.std.proofs.Common.{◌≡◌, ◌≢◌, ℕ, List, ◌≤◌, [], Some, inr, sym, ap, subst, ◌∙◌, arith}
use Rattle.std.specs.Prelude.{slice_index}
use Rattle.std.specs.FinMap as finite
use Rattle.vs_types.specs.Depth.{index_at}
use Rattle.vs_walk.specs.Memory.{Memory}
use Rattle.vs_space.specs.Held.{word_at}
use Rattle.vs_space.proofs.Prunes.{word_in}
use Rattle.vs_plan.specs.declared.plans.request.Request.{Request}
use Rattle.vs_plan.specs.declared.plans.request.Request.TheVariants.{Map}
use Rattle.vs_plan.specs.Request.{IsRequest, lowest_of}
use Rattle.vs_plan.specs.Shown.{IsShown}
use Rattle.nrvs_plan_c.specs.declared.end.End.{End}
use Rattle.nrvs_plan_c.specs.declared.records.kept.Call.{Call}
use Rattle.nrvs_plan_c.specs.declared.records.kept.Plan.{Plan}
use Rattle.nrvs_plan_c.specs.Kept.{IsSound, IsWaiting, page_in, phase_in, planner_in, request_in, target_in}
use Rattle.nrvs_plan_c.specs.Next.{IsNextOf, IsPlanned, status_in}
use Rattle.nrvs_plan_c.specs.inside.End.{IsMade, IsRightFor, Stays}
use Rattle.nrvs_plan_c.specs.inside.Seen.{IsSeen}
use Rattle.nrvs_plan_c.proofs.CallKinds.{maps, planned_as}
use Rattle.nrvs_plan_c.proofs.Keeping.{goes_down}
use Rattle.nrvs_plan_c.proofs.Shown.{awaits_down, end_down, good_down, made_next}

module _ (plan : Plan) (down : plan.way.phase ≤ 1) (sound : IsSound plan) (last : plan.way.level ≡ 1) where
  low_here : lowest_of (request_in plan.call) ≤ 1
  low_here = omega (arith, last, (awaits_down plan down sound).lowest (goes_down plan.way.phase down))

  pub maps_here : plan.call.kind ≡ 0
      → request_in plan.call ≡ Map (page_in plan.call.address 0 plan.call.physical plan.call.rights) plan.call.bits
  maps_here kind = maps plan.call kind low_here

  pub map_good : plan.call.kind ≡ 0
      → IsRequest (target_in plan.call) (Map (page_in plan.call.address 0 plan.call.physical plan.call.rights) plan.call.bits)
  map_good kind = subst (IsRequest (target_in plan.call)) (maps_here kind) (good_down plan down sound)

  pub planned_here : {word : ℕ} {request : Request} {end : End} {after : Plan} → request_in plan.call ≡ request
      → IsRightFor request plan.call.address end after → end.number ≡ plan.frame → end.index ≡ index_at 1 plan.call.address → end.word ≡ word
      → end.allowed ≡ plan.way.allowed → (memory : Memory) → IsShown memory (planner_in plan)
      → word_at memory plan.frame (index_at 1 plan.call.address) ≡ Some word → IsPlanned (target_in plan.call) (request_in plan.call) memory after []
  planned_here same right number index is allowed memory shown there =
      planned_as same (good_down plan down sound) right (end_down plan down last shown there number index is allowed)

  -- the word of the entry in this memory
  pub word_here : (memory : Memory) {words : List ℕ} {word : ℕ} → word ≡ slice_index words (index_at plan.way.level plan.call.address)
      → finite.get memory plan.frame ≡ Some words → word_at memory plan.frame (index_at 1 plan.call.address) ≡ Some word
  word_here memory {words} read there =
      word_in memory plan.frame (index_at 1 plan.call.address) words there
      ∙ ap Some (sym (read ∙ ap (λ (l : ℕ). slice_index words (index_at l plan.call.address)) last))

  -- the table at the end stays: there is another word in it
  pub stays_here : (memory : Memory) (end : End) {words : List ℕ} → finite.get memory plan.frame ≡ Some words → end.number ≡ plan.frame
      → end.index ≡ index_at 1 plan.call.address → (i : ℕ) × (i ≢ end.index) × (slice_index words i ≢ 0)
      → Stays (target_in plan.call) memory plan.call.address end
  stays_here memory end {words} there number index other = inr (record {
    other = other.0;
    apart = λ e. other.1 (e ∙ sym index);
    word = slice_index words other.0;
    there = word_in memory end.number other.0 words (subst (λ (n : ℕ). finite.get memory n ≡ Some words) (sym number) there);
    some = other.2;
  })

-- a plan that was made, of the same call
pub made_for : {memory : Memory} {call : Call} {after : Plan} → after.call ≡ call → IsPlanned (target_in call) (request_in call) memory after []
    → IsNextOf memory after [] 0
made_for {memory} {call} {after} same planned =
    made_next (subst (λ (k : Call). IsPlanned (target_in k) (request_in k) memory after []) (sym same) planned)

-- so it was, by the words that were shown
pub made_seen : {words : List ℕ} {old new : Plan} → IsMade new → new.call ≡ old.call
    → ((memory : Memory) → IsShown memory (planner_in old) → finite.get memory old.frame ≡ Some words
    → IsPlanned (target_in old.call) (request_in old.call) memory new [])
    → IsSeen words old new 0
made_seen {words} {old} {new} made same right = record {
  asked = λ is. omega (arith, is);
  status = ap (λ (p : ℕ). status_in (phase_in p)) (sym made.ended);
  ended = λ is. made.ended;
  named = λ is. let none = made.none in omega (arith, none);
  sound = record {
    room = let few = made.few in omega (arith, few);
    waits = subst (λ (p : ℕ). IsWaiting (phase_in p) (planner_in new)) (sym made.ended) tt;
  };
  call = same;
  fewer = λ is. absurd (omega (arith, is));
  given = λ is. absurd (omega (arith, is));
  next = λ memory shown there. made_for same (right memory shown there);
}
