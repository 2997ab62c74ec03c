-- The number that represents each kind of request, size, set of rights, mode, access and answer.
use Rattle.std.specs.Prelude.{ℕ, ◌+◌, if◌then◌else◌}
use Rattle.vs_types.specs.declared.addresses.page.Size.{Size}
use Rattle.vs_types.specs.declared.addresses.page.Size.TheVariants.{K4, M2, G1}
use Rattle.vs_types.specs.declared.addresses.page.Rights.{Rights}
use Rattle.vs_types.specs.declared.addresses.access.Mode.{Mode}
use Rattle.vs_types.specs.declared.addresses.access.Mode.TheVariants.{Supervisor, User}
use Rattle.vs_types.specs.declared.addresses.access.Access as accesses
use Rattle.vs_types.specs.declared.addresses.access.Access.TheVariants.{Read, Write, Fetch}
use Rattle.vs_types.specs.declared.requests.op.Action.TheVariants.{Map, Unmap, Protect}
use Rattle.vs_types.specs.declared.requests.request.Query.{Query}
use Rattle.vs_types.specs.declared.requests.request.Query.TheVariants.{Update, Resolve, Access}
use Rattle.vs_types.specs.declared.requests.answer.Answer.{Answer}
use Rattle.vs_types.specs.declared.requests.answer.Answer.TheVariants.{Done, Overlap, Full, Removed, NotMapped, Inside, Changed, Mapped, Allowed, Fault}

abbrev pub kind_code : Query → ℕ
kind_code (Update (Map page)) = 0
kind_code (Update (Unmap base)) = 1
kind_code (Update (Protect base rights)) = 2
kind_code (Resolve address) = 3
kind_code (Access address mode access) = 4

abbrev pub size_code : Size → ℕ
size_code K4 = 0
size_code M2 = 1
size_code G1 = 2

-- 1 for write, plus 2 for user, plus 4 for exec
abbrev pub rights_code : Rights → ℕ
rights_code rights = (if rights.write then 1 else 0) + (if rights.user then 2 else 0) + (if rights.exec then 4 else 0)

abbrev pub mode_code : Mode → ℕ
mode_code Supervisor = 0
mode_code User = 1

abbrev pub access_code : accesses.Access → ℕ
access_code Read = 0
access_code Write = 1
access_code Fetch = 2

abbrev pub answer_code : Answer → ℕ
answer_code Done = 0
answer_code (Overlap base) = 1
answer_code (Full need) = 2
answer_code (Removed phys size rights) = 3
answer_code NotMapped = 4
answer_code (Inside base) = 5
answer_code (Changed rights) = 6
answer_code (Mapped phys size rights) = 7
answer_code (Allowed phys) = 8
answer_code (Fault code) = 9
