-- The numbers of a call's status.
use Rattle.std.specs.Prelude.{ℕ, nat_eq, nat_lt, Option, Some, None, ◌||◌, if◌then◌else◌}
use Rattle.vs_plan.specs.declared.plans.request.BadRequest.{BadRequest}
use Rattle.vs_plan.specs.declared.plans.request.BadRequest.TheVariants.{PhysBits, RootRange, NotCanonical, Unaligned, PhysUnaligned, PhysRange, Bits, Part}

-- the status of each thing that can be wrong with a request
abbrev pub status_of : BadRequest → ℕ
status_of PhysBits = 14
status_of RootRange = 16
status_of NotCanonical = 10
status_of Unaligned = 11
status_of PhysUnaligned = 12
status_of PhysRange = 13
status_of Bits = 15
status_of Part = 18

-- the status of the first fault; if there is none, the words of a frame are to be shown
abbrev pub begun_status : Option BadRequest → ℕ
begun_status None = 32
begun_status (Some fault) = status_of fault

-- the status of a target with so many levels and physical address bits, and else another
abbrev pub target_status : ℕ → ℕ → ℕ → ℕ
target_status levels phys_bits rest =
    if nat_eq levels 4 || nat_eq levels 5 then (if nat_lt 52 phys_bits then 14 else rest) else 2
