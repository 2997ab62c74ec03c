-- The numbers of a call's status.
use Rattle.std.specs.Prelude.{ℕ, ◌+◌, ◌^◌, nat_eq, nat_lt, Option, Some, None, if◌then◌else◌}
use Rattle.vs_types.specs.declared.limits.TheConstants.{TABLES}
use Rattle.vs_types.specs.declared.requests.op.BadOp.{BadOp}
use Rattle.vs_types.specs.declared.requests.op.BadOp.TheVariants.{NotCanonical, Unaligned, PhysUnaligned, PhysRange}

-- the status of each thing that can be wrong with an operation
abbrev pub status_of : BadOp → ℕ
status_of NotCanonical = 10
status_of Unaligned = 11
status_of PhysUnaligned = 12
status_of PhysRange = 13

-- the status of the first fault, or 0
abbrev pub status_if : Option BadOp → ℕ
status_if None = 0
status_if (Some fault) = status_of fault

-- the status of so many frames and marks that are lent, from this base on
abbrev pub memory_status : ℕ → ℕ → ℕ → ℕ
memory_status frames marks base =
    if nat_eq frames 0 then 3
    else if nat_lt TABLES frames then 3
    else if nat_lt marks frames then 4
    else if nat_lt (2 ^ 40) (base + frames) then 5
    else 0

-- the status of a new page table
abbrev pub new_status : ℕ → ℕ → ℕ → ℕ → ℕ
new_status levels frames marks base =
    if nat_eq levels 4 then memory_status frames marks base
    else if nat_eq levels 5 then memory_status frames marks base
    else 2
