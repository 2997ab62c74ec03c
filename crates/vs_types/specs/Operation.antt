-- Operations: which are well formed, and the first thing that is wrong with one.
use Rattle.std.specs.Prelude.{◌≡◌, ℕ, ◌+◌, ◌%◌, not, ◌==◌, nat_lt, Option, Some, None, if◌then◌else◌}
use Rattle.vs_types.specs.Depth.{is_canonical, IsCanonical}
use Rattle.vs_types.specs.Page.{bytes_of, IsPage}
use Rattle.vs_types.specs.declared.addresses.depth.Depth.{Depth}
use Rattle.vs_types.specs.declared.addresses.page.Page.{Page}
use Rattle.vs_types.specs.declared.addresses.page.TheConstants.Page.{PHYS_END}
use Rattle.vs_types.specs.declared.requests.op.Action.{Action}
use Rattle.vs_types.specs.declared.requests.op.Action.TheVariants.{Map, Unmap, Protect}
use Rattle.vs_types.specs.declared.requests.op.BadOp.{BadOp}
use Rattle.vs_types.specs.declared.requests.op.BadOp.TheVariants.{NotCanonical, Unaligned, PhysUnaligned, PhysRange}

-- an address at which a page can begin
pub record IsBase (depth : Depth) (base : ℕ) : Type 0 where
  pub canonical : IsCanonical depth base
  pub aligned : base % 4096 ≡ 0

-- an operation that is well formed at this depth
abbrev pub IsAction : Depth → Action → Type 0
IsAction depth (Map page) = IsPage depth page
IsAction depth (Unmap base) = IsBase depth base
IsAction depth (Protect base rights) = IsBase depth base

-- an operation that is well formed at some depth
abbrev pub IsSomeAction : Action → Type 0
IsSomeAction action = (depth : Depth) × IsAction depth action

-- the first thing that is wrong with a page that is to be mapped
abbrev pub page_fault : Depth → Page → Option BadOp
page_fault depth page =
    if not (is_canonical depth page.base) then Some NotCanonical
    else if not (page.base % bytes_of page.size == 0) then Some Unaligned
    else if not (page.phys % bytes_of page.size == 0) then Some PhysUnaligned
    else if nat_lt PHYS_END (page.phys + bytes_of page.size) then Some PhysRange
    else None

-- the first thing that is wrong with the base of a page that is there
abbrev pub base_fault : Depth → ℕ → Option BadOp
base_fault depth base =
    if not (is_canonical depth base) then Some NotCanonical
    else if not (base % 4096 == 0) then Some Unaligned
    else None

-- the first thing that is wrong with an action
abbrev pub action_fault : Depth → Action → Option BadOp
action_fault depth (Map page) = page_fault depth page
action_fault depth (Unmap base) = base_fault depth base
action_fault depth (Protect base rights) = base_fault depth base
