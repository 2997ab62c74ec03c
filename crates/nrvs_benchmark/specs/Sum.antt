-- The number of an answer, and the sum over numbers.
use Rattle.std.specs.Prelude.{ℕ, ◌+◌, ◌*◌, ◌%◌, ◌^◌, Bool, if◌then◌else◌}
use Rattle.vs_types.specs.Page.{level_of}
use Rattle.vs_types.specs.declared.addresses.page.Rights.{Rights}
use Rattle.vs_types.specs.declared.addresses.page.Size.{Size}
use Rattle.vs_types.specs.declared.requests.answer.Answer.{Answer}
use Rattle.vs_types.specs.declared.requests.answer.Answer.TheVariants.{Done, Overlap, Full, Removed, NotMapped, Inside, Changed, Mapped, Allowed, Fault}

-- 1 for true, 0 for false
abbrev bit : Bool → ℕ
bit b = if b then 1 else 0

-- the number of rights: write 1, user 2, exec 4
abbrev pub rights_number : Rights → ℕ
rights_number rights = bit rights.write + 2 * bit rights.user + 4 * bit rights.exec

-- a size and rights, after which answer it is
abbrev pub page_number : Size → Rights → ℕ
page_number size rights = 64 * level_of size + 8 * rights_number rights

-- a value in front of the rest, of which 64 bits are kept
abbrev pub with_value : ℕ → ℕ → ℕ
with_value number value = (value * 256 + number) % 2 ^ 64

-- which answer it is, its rights and the level of its size, and its address or count
abbrev pub answer_number : Answer → ℕ
answer_number Done = 0
answer_number (Overlap base) = with_value 1 base
answer_number (Full need) = with_value 2 need
answer_number (Removed phys size rights) = with_value (3 + page_number size rights) phys
answer_number NotMapped = 4
answer_number (Inside base) = with_value 5 base
answer_number (Changed rights) = 6 + 8 * rights_number rights
answer_number (Mapped phys size rights) = with_value (7 + page_number size rights) phys
answer_number (Allowed phys) = with_value 8 phys
answer_number (Fault code) = with_value 9 code

-- a sum goes on with a number: 64 bits are kept
abbrev pub sum_with : ℕ → ℕ → ℕ
sum_with sum number = (sum * 31 + number) % 2 ^ 64
