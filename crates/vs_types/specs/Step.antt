-- What operations, resolves and accesses do: one sequential address space.
use Rattle.std.specs.Prelude.{ℕ, ◌+◌, ◌-◌, nat_le, ◌==◌, List, [], ◌∷◌, take, true, false, Option, Some, None, if◌then◌else◌}
use Rattle.std.specs.FinMap as finite
use Rattle.vs_types.specs.Space.{Space, no_pages, page_at, least_overlapped, table_count}
use Rattle.vs_types.specs.declared.addresses.depth.Depth.{Depth}
use Rattle.vs_types.specs.declared.addresses.page.Page.{Page}
use Rattle.vs_types.specs.declared.addresses.page.Rights.{Rights}
use Rattle.vs_types.specs.declared.requests.op.Action.{Action}
use Rattle.vs_types.specs.declared.requests.op.Action.TheVariants.{Map, Unmap, Protect}
use Rattle.vs_types.specs.Access.{allows, fault_code}
use Rattle.vs_types.specs.declared.addresses.access.Mode.{Mode}
use Rattle.vs_types.specs.declared.addresses.access.Access.{Access}
use Rattle.vs_types.specs.declared.requests.answer.Answer.{Answer}
use Rattle.vs_types.specs.declared.requests.answer.Answer.TheVariants.{Done, Overlap, Full, Removed, NotMapped, Inside, Changed, Mapped, Allowed, Fault}

-- the space after a step, and its answer
pub record Stepped : Type 0 where
  pub space : Space
  pub answer : Answer

abbrev stays : Space → Answer → Stepped
stays space answer = record { space = space; answer = answer }

abbrev with_page : Space → Page → Space
with_page space page = finite.insert space page.base page

-- a map: the least overlapped base; or the page, where its tables are within the limit; or the tables that it needs
abbrev map_step : Depth → ℕ → Space → Page → Option ℕ → Stepped
map_step depth limit space page (Some base) = stays space (Overlap base)
map_step depth limit space page None =
    let need = table_count depth (with_page space page) in
    if nat_le need limit then record { space = with_page space page; answer = Done } else stays space (Full need)

-- an unmap of what covers the address
abbrev unmap_step : Space → ℕ → Option Page → Stepped
unmap_step space base None = stays space NotMapped
unmap_step space base (Some page) =
    if page.base == base then record { space = finite.remove space base; answer = Removed page.phys page.size page.rights }
    else stays space (Inside page.base)

-- a protect of what covers the address
abbrev protect_step : Space → ℕ → Rights → Option Page → Stepped
protect_step space base rights None = stays space NotMapped
protect_step space base rights (Some page) =
    if page.base == base then record { space = with_page space (record page { rights = rights }); answer = Changed page.rights }
    else stays space (Inside page.base)

-- one operation on a space of this depth, under a limit of tables
abbrev pub step : Depth → ℕ → Space → Action → Stepped
step depth limit space (Map page) = map_step depth limit space page (least_overlapped space page)
step depth limit space (Unmap base) = unmap_step space base (page_at space base)
step depth limit space (Protect base rights) = protect_step space base rights (page_at space base)

-- how an address looks in the page that covers it
abbrev pub look_in_page : ℕ → Option Page → Answer
look_in_page address None = NotMapped
look_in_page address (Some page) = Mapped (page.phys + (address - page.base)) page.size page.rights

-- how an address looks in a space: what a resolve answers
abbrev pub look : Space → ℕ → Answer
look space address = look_in_page address (page_at space address)

-- what an access of an address is answered in the page that covers it: where that is, or the error code of the page fault
abbrev pub allow_in_page : ℕ → Mode → Access → Option Page → Answer
allow_in_page address mode access None = Fault (fault_code false mode access)
allow_in_page address mode access (Some page) =
    if allows page.rights mode access then Allowed (page.phys + (address - page.base)) else Fault (fault_code true mode access)

-- what an access of an address is answered in a space
abbrev pub allow : Space → ℕ → Mode → Access → Answer
allow space address mode access = allow_in_page address mode access (page_at space address)

-- the space after operations, from this one on
abbrev pub after_all : Depth → ℕ → Space → List Action → Space
after_all depth limit space [] = space
after_all depth limit space (action ∷ actions) = after_all depth limit (step depth limit space action).space actions

-- the space after the first n operations, from the empty one on
abbrev pub after : Depth → ℕ → List Action → ℕ → Space
after depth limit actions n = after_all depth limit no_pages (take n actions)
