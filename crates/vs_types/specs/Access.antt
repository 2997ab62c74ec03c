-- Accesses: which of them the rights of a page allow, and the error code of the page fault of one (Intel SDM volume 3A, chapter
-- "Paging": access rights, page-fault exceptions).
use Rattle.std.specs.Prelude.{ℕ, ◌+◌, Bool, true, ◌&&◌, if◌then◌else◌}
use Rattle.vs_types.specs.declared.addresses.page.Rights.{Rights}
use Rattle.vs_types.specs.declared.addresses.access.Mode.{Mode}
use Rattle.vs_types.specs.declared.addresses.access.Mode.TheVariants.{Supervisor, User}
use Rattle.vs_types.specs.declared.addresses.access.Access.{Access}
use Rattle.vs_types.specs.declared.addresses.access.Access.TheVariants.{Read, Write, Fetch}

-- whether the rights let this mode in
abbrev allows_mode : Rights → Mode → Bool
allows_mode rights Supervisor = true
allows_mode rights User = rights.user

-- whether the rights let anyone do this
abbrev allows_access : Rights → Access → Bool
allows_access rights Read = true
allows_access rights Write = rights.write
allows_access rights Fetch = rights.exec

-- whether the rights allow an access in a mode
abbrev pub allows : Rights → Mode → Access → Bool
allows rights mode access = allows_mode rights mode && allows_access rights access

-- bit 2 of the error code is the mode
abbrev mode_bit : Mode → ℕ
mode_bit Supervisor = 0
mode_bit User = 4

-- bit 1 of the error code is a write, bit 4 a fetch
abbrev access_bit : Access → ℕ
access_bit Read = 0
access_bit Write = 2
access_bit Fetch = 16

-- the error code of an access that faults: bit 0 is set where a page covers the address
abbrev pub fault_code : Bool → Mode → Access → ℕ
fault_code present mode access = (if present then 1 else 0) + mode_bit mode + access_bit access
