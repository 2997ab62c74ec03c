-- Requests: which are well formed, the first thing that is wrong with one, and what one does to a space.
use Rattle.std.specs.Prelude.{◌≡◌, ℕ, ◌+◌, ◌-◌, ◌%◌, ◌^◌, ◌<◌, ◌≤◌, not, ◌==◌, ◌&&◌, ◌||◌, nat_lt, min, Bool, Option, Some, None, if◌then◌else◌}
use Rattle.std.specs.FinMap as finite
use Rattle.vs_types.specs.Depth.{is_canonical, IsCanonical}
use Rattle.vs_types.specs.Page.{level_of, bytes_of, IsPage}
use Rattle.vs_types.specs.Space.{Space, table_count}
use Rattle.vs_types.specs.Step.{Stepped, step, look}
use Rattle.vs_types.specs.declared.addresses.depth.Depth.{Depth}
use Rattle.vs_types.specs.declared.addresses.page.Page.{Page}
use Rattle.vs_types.specs.declared.requests.answer.Answer.TheVariants.{Done}
use Rattle.vs_types.specs.declared.requests.op.Action.TheVariants as actions
use Rattle.vs_plan.specs.declared.plans.target.Target.{Target}
use Rattle.vs_plan.specs.declared.plans.request.Request.{Request}
use Rattle.vs_plan.specs.declared.plans.request.Request.TheVariants.{Map, Unmap, Protect, Ask, Remap, Split, Join, Prune, UnmapPart, Collapse}
use Rattle.vs_plan.specs.declared.plans.request.BadRequest.{BadRequest}
use Rattle.vs_plan.specs.declared.plans.request.BadRequest.TheVariants.{PhysBits, RootRange, NotCanonical, Unaligned, PhysUnaligned, PhysRange, Bits, Part}
use Rattle.vs_plan.specs.declared.plans.plan.Reply.{Reply}
use Rattle.vs_types.specs.Bits.{AreBits}
use Rattle.vs_plan.specs.Changes.{remap, split, join, unmap_part, collapse, remap_refusal, split_refusal, join_refusal, collapse_refusal}
use Rattle.vs_plan.specs.Target.{HasPhysBits, frames_end}

-- the address whose way is gone
abbrev pub address_of : Request → ℕ
address_of (Map page bits) = page.base
address_of (Unmap base) = base
address_of (Protect base rights) = base
address_of (Ask address) = address
address_of (Remap base phys rights) = base
address_of (Split base) = base
address_of (Join base) = base
address_of (Prune address) = address
address_of (UnmapPart base first count) = base
address_of (Collapse base phys rights) = base

-- the level at which its way ends at the latest
abbrev pub lowest_of : Request → ℕ
lowest_of (Map page bits) = level_of page.size
lowest_of (Unmap base) = 1
lowest_of (Protect base rights) = 1
lowest_of (Ask address) = 1
lowest_of (Remap base phys rights) = 1
lowest_of (Split base) = 1
lowest_of (Join base) = 1
lowest_of (Prune address) = 1
lowest_of (UnmapPart base first count) = 1
lowest_of (Collapse base phys rights) = 1

-- a page that may be mapped where physical addresses have this many bits
pub record IsMapped (target : Target) (page : Page) (word : ℕ) : Type 0 where
  pub good : IsPage target.depth page
  pub within : page.phys + bytes_of page.size ≤ 2 ^ target.phys_bits
  pub bits : AreBits word

-- some parts of 512, but not all: so many, from this one on
pub record ArePartsOf (first count : ℕ) : Type 0 where
  pub some : 1 ≤ count
  pub few : count < 512
  pub within : first + count ≤ 512

-- what a request asks of its page
abbrev pub IsWhole : Target → Request → Type 0
IsWhole target (Map page bits) = IsMapped target page bits
IsWhole target (Unmap base) = base % 4096 ≡ 0
IsWhole target (Protect base rights) = base % 4096 ≡ 0
IsWhole target (Ask address) = Unit {0}
IsWhole target (Remap base phys rights) = base % 4096 ≡ 0
IsWhole target (Split base) = base % 4096 ≡ 0
IsWhole target (Join base) = base % 4096 ≡ 0
IsWhole target (Prune address) = Unit {0}
IsWhole target (UnmapPart base first count) = (base % 4096 ≡ 0) × ArePartsOf first count
IsWhole target (Collapse base phys rights) = base % 4096 ≡ 0

-- a request for which there can be a plan
pub record IsRequest (target : Target) (request : Request) : Type 0 where
  pub phys_bits : HasPhysBits target
  pub root : target.root < frames_end target
  pub canonical : IsCanonical target.depth (address_of request)
  pub whole : IsWhole target request

-- whether no bit is set but those that a map may set
abbrev pub are_bits : ℕ → Bool
are_bits bits = (bits % 2 ^ 3 == 0) && nat_lt (bits % 2 ^ 52) (2 ^ 12) && nat_lt bits (2 ^ 63)

-- the first thing that is wrong with a page that is to be mapped, and its bits
abbrev pub page_fault : Page → ℕ → ℕ → Option BadRequest
page_fault page bits phys_bits =
    if not (page.base % bytes_of page.size == 0) then Some Unaligned
    else if not (page.phys % bytes_of page.size == 0) then Some PhysUnaligned
    else if nat_lt (2 ^ min phys_bits 51) (page.phys + bytes_of page.size) then Some PhysRange
    else if are_bits bits then None
    else Some Bits

-- the first thing that is wrong with the base of a page that is there
abbrev pub base_fault : ℕ → Option BadRequest
base_fault base = if base % 4096 == 0 then None else Some Unaligned

-- the first thing that is wrong with the base of a page, and with the parts that are to be removed
abbrev pub part_fault : ℕ → ℕ → ℕ → Option BadRequest
part_fault base first count =
    if not (base % 4096 == 0) then Some Unaligned
    else if nat_lt count 1 || nat_lt 511 count || nat_lt (512 - count) first then Some Part
    else None

-- the first thing that is wrong with what a request asks of its page
abbrev pub whole_fault : Target → Request → Option BadRequest
whole_fault target (Map page bits) = page_fault page bits target.phys_bits
whole_fault target (Unmap base) = base_fault base
whole_fault target (Protect base rights) = base_fault base
whole_fault target (Ask address) = None
whole_fault target (Remap base phys rights) = base_fault base
whole_fault target (Split base) = base_fault base
whole_fault target (Join base) = base_fault base
whole_fault target (Prune address) = None
whole_fault target (UnmapPart base first count) = part_fault base first count
whole_fault target (Collapse base phys rights) = base_fault base

-- the first thing that is wrong with a request
abbrev pub request_fault : Target → Request → Option BadRequest
request_fault target request =
    if nat_lt target.phys_bits 36 || nat_lt 52 target.phys_bits then Some PhysBits
    else if not (nat_lt target.root (frames_end target)) then Some RootRange
    else if not (is_canonical target.depth (address_of request)) then Some NotCanonical
    else whole_fault target request

-- what a request does to a space, where tables aren't counted: the limit is what the space after it needs
abbrev pub stepped : Depth → Space → Request → Stepped
stepped depth space (Map page bits) = step depth (table_count depth (finite.insert space page.base page)) space (actions.Map page)
stepped depth space (Unmap base) = step depth 0 space (actions.Unmap base)
stepped depth space (Protect base rights) = step depth 0 space (actions.Protect base rights)
stepped depth space (Ask address) = record { space = space; answer = look space address }
stepped depth space (Remap base phys rights) = remap space base phys rights
stepped depth space (Split base) = split space base
stepped depth space (Join base) = join space base
stepped depth space (Prune address) = record { space = space; answer = Done }
stepped depth space (UnmapPart base first count) = unmap_part depth space base first count
stepped depth space (Collapse base phys rights) = collapse space base phys rights

-- why the page that begins at the address of a request can't be changed so, whatever the tables: the first reason that holds
abbrev pub refusal : Target → Space → Request → Option Reply
refusal target space (Map page bits) = None
refusal target space (Unmap base) = None
refusal target space (Protect base rights) = None
refusal target space (Ask address) = None
refusal target space (Remap base phys rights) = remap_refusal space base phys target.phys_bits
refusal target space (Split base) = split_refusal space base
refusal target space (Join base) = join_refusal space base
refusal target space (Prune address) = None
refusal target space (UnmapPart base first count) = split_refusal space base
refusal target space (Collapse base phys rights) = collapse_refusal space base phys target.phys_bits
