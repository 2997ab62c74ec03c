-- The words of the worked examples.
use Rattle.std.specs.Prelude.{ℕ, List, [], ◌∷◌, true, false}
use Rattle.vs_types.specs.Entry.{all_rights}
use Rattle.vs_types.specs.Space.{Space, no_pages, table_count}
use Rattle.vs_types.specs.Step.{step, after_all, look, allow}
use Rattle.vs_types.specs.declared.addresses.access.Mode.{Mode}
use Rattle.vs_types.specs.declared.addresses.access.Access.{Access}
use Rattle.vs_types.specs.declared.addresses.depth.Depth.{Depth}
use Rattle.vs_types.specs.declared.addresses.page.Rights.{Rights}
use Rattle.vs_types.specs.declared.addresses.page.Size.{Size}
use Rattle.vs_types.specs.declared.addresses.page.Size.TheVariants.{K4, M2, G1}
use Rattle.vs_types.specs.declared.requests.op.Action.{Action}
use Rattle.vs_types.specs.declared.requests.op.Action.TheVariants.{Map, Unmap, Protect}
use Rattle.vs_types.specs.declared.requests.answer.Answer.{Answer}

-- what operations are answered in turn, from this space on
abbrev pub answers_from : Depth → ℕ → Space → List Action → List Answer
answers_from depth limit space [] = []
answers_from depth limit space (action ∷ actions) =
    let next = step depth limit space action in
    next.answer ∷ answers_from depth limit next.space actions

-- what operations are answered in turn, from the empty space on
abbrev pub answers : Depth → ℕ → List Action → List Answer
answers depth limit actions = answers_from depth limit no_pages actions

-- the table count after operations, from the empty space on
abbrev pub tables_after : Depth → ℕ → List Action → ℕ
tables_after depth limit actions = table_count depth (after_all depth limit no_pages actions)

-- how an address looks after operations, from the empty space on
abbrev pub look_after : Depth → ℕ → List Action → ℕ → Answer
look_after depth limit actions address = look (after_all depth limit no_pages actions) address

-- what an access is answered after operations, from the empty space on
abbrev pub allow_after : Depth → ℕ → List Action → ℕ → Mode → Access → Answer
allow_after depth limit actions address mode access = allow (after_all depth limit no_pages actions) address mode access

-- a map of a page with all rights
abbrev pub map_all : ℕ → Size → ℕ → Action
map_all base size phys = Map (record { base = base; size = size; phys = phys; rights = all_rights })

-- rights that allow a supervisor to read and to write
abbrev pub write_only : Rights
write_only = record { write = true; user = false; exec = false }

-- user accesses and fetches, and no writes
abbrev pub user_and_exec : Rights
user_and_exec = record { write = false; user = true; exec = true }

-- rights that allow a supervisor's read, and nothing else
abbrev pub no_rights : Rights
no_rights = record { write = false; user = false; exec = false }

-- rights that allow a supervisor to read and to fetch
abbrev pub exec_only : Rights
exec_only = record { write = false; user = false; exec = true }

-- a page that is written to, which then is one of instructions
abbrev pub written_then_run : List Action
written_then_run = Map (record { base = 0x400000; size = K4; phys = 0x1000; rights = write_only }) ∷ Protect 0x400000 exec_only ∷ []

-- with five levels: a page that four levels do not reach, the last page of the low half, and the first of the high half
abbrev pub beyond_four_levels : List Action
beyond_four_levels = map_all 0x800000000000 K4 0x1000 ∷ map_all 0xFFFFFFFFFFF000 K4 0x2000 ∷ map_all 0xFF00000000000000 K4 0x3000 ∷ []

-- with four levels: the last page of the low half, and the first of the high half
abbrev pub both_halves : List Action
both_halves = map_all 0x7FFFFFFFF000 K4 0x2000 ∷ map_all 0xFFFF800000000000 K4 0x3000 ∷ []

-- two small pages, and a page that has the addresses of both
abbrev pub small_then_large : List Action
small_then_large = map_all 0x40200000 K4 0x1000 ∷ map_all 0x40001000 K4 0x2000 ∷ map_all 0x40000000 G1 0x40000000 ∷ []

-- a large page, a small one in it, and a protect of an address in it
abbrev pub large_then_small : List Action
large_then_small = map_all 0x200000 M2 0x200000 ∷ map_all 0x201000 K4 0x1000 ∷ Protect 0x201000 all_rights ∷ []

-- the last page that there can be, and a small one at its end
abbrev pub last_page : List Action
last_page = map_all 0xFFFFFFFFC0000000 G1 0 ∷ map_all 0xFFFFFFFFFFFFF000 K4 0 ∷ []

-- a page of 1 GiB, and an unmap in its midst
abbrev pub one_gigabyte : List Action
one_gigabyte = Map (record { base = 0x40000000; size = G1; phys = 0x40000000; rights = write_only }) ∷ Unmap 0x40001000 ∷ []

-- a page of 2 MiB, a small page after it and one in it
abbrev pub past_three_tables : List Action
past_three_tables = map_all 0x200000 M2 0x200000 ∷ map_all 0x400000 K4 0x1000 ∷ map_all 0x200000 K4 0x1000 ∷ []

-- a small page comes and goes, and a large one takes its place
abbrev pub small_replaced : List Action
small_replaced = map_all 0x400000 K4 0x1000 ∷ Unmap 0x400000 ∷ map_all 0x400000 M2 0x200000 ∷ []

-- a page that is written to, then other rights for it, and for one that is not there
abbrev pub other_rights : List Action
other_rights = Map (record { base = 0x1000; size = K4; phys = 0x5000; rights = write_only }) ∷ Protect 0x1000 user_and_exec ∷ Protect 0x2000 user_and_exec ∷ []
