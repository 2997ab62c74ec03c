-- Ways that lead to a table of level 1, and their ends.
use Rattle.std.specs.Prelude.{◌≡◌, ◌⊎◌, ℕ, ◌<◌, ◌≤◌, Some, []}
use Rattle.vs_types.specs.Codes.{rights_code}
use Rattle.vs_types.specs.Entry.{rights_of}
use Rattle.vs_types.specs.Page.{intersection}
use Rattle.nrvs_plan_c.specs.declared.records.told.Reply.{Reply}
use Rattle.vs_types.specs.Depth.{IsCanonical, index_at}
use Rattle.vs_walk.specs.Memory.{Memory}
use Rattle.vs_space.specs.Held.{word_at}
use Rattle.vs_plan.specs.declared.plans.target.Target.{Target}
use Rattle.vs_plan.specs.declared.plans.request.Request.{Request}
use Rattle.vs_plan.specs.Request.{IsRequest}
use Rattle.vs_plan.specs.Shown.{HasOtherWord}
use Rattle.vs_plan.specs.Target.{HasPhysBits, frames_end, highest_link}
use Rattle.vs_plan.specs.Way.{IsWay}
use Rattle.nrvs_plan_c.specs.declared.records.codes.TheConstants.{ENDED}
use Rattle.nrvs_plan_c.specs.declared.end.End.{End}
use Rattle.nrvs_plan_c.specs.declared.records.kept.Plan.{Plan}
use Rattle.nrvs_plan_c.specs.declared.records.kept.Target as numbers
use Rattle.nrvs_plan_c.specs.Kept.{target_of}
use Rattle.vs_types.specs.Bits.{rights_at}
use Rattle.nrvs_plan_c.specs.Next.{IsPlanned}

-- there is such a target, and the address is canonical
pub record IsAskable (target : numbers.Target) (address : ℕ) : Type 0 where
  pub levels : (target.levels ≡ 4) ⊎ (target.levels ≡ 5)
  pub phys_bits : HasPhysBits (target_of target)
  pub root : target.root < frames_end (target_of target)
  pub canonical : IsCanonical (target_of target).depth address

-- the way of an address ends in this memory at this entry of a table of level 1, or leads there
pub record IsEndOf (target : Target) (memory : Memory) (address : ℕ) (end : End) : Type 0 where
  pub way : IsWay target.depth memory target.root address 1 end.number (rights_at end.allowed)
  pub index : end.index ≡ index_at 1 address
  pub word : word_at memory end.number (index_at 1 address) ≡ Some end.word

-- the table at the end stays linked, whatever becomes of this entry
abbrev pub Stays : Target → Memory → ℕ → End → Type 0
Stays target memory address end = (highest_link target ≤ 1) ⊎ HasOtherWord memory end.number (index_at 1 address)

-- a plan is there, with no more stores and unlinked frames than there is room for
pub record IsMade (plan : Plan) : Type 0 where
  pub ended : plan.way.phase ≡ ENDED
  pub few : plan.store_count ≤ 1
  pub none : plan.unlinked_count ≡ 0

-- it is right for a request in each memory in which the way ends so
abbrev pub IsRightFor : Request → ℕ → End → Plan → Type 0
IsRightFor request address end plan = (target : Target) (memory : Memory) → IsRequest target request → IsEndOf target memory address end
    → IsPlanned target request memory plan []

-- that the page at the end was changed, and what it allowed
abbrev pub changed_reply : End → Reply
changed_reply end = record { code = 6; size = 0; rights = rights_code (intersection (rights_at end.allowed) (rights_of end.word)); number = 0 }
