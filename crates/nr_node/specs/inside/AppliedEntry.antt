-- What a replica keeps of an entry that it has applied, in three words.
use Rattle.std.specs.Prelude.{ℕ, zero, suc, ◌+◌, ◌*◌, ◌/◌, ◌%◌, ◌^◌, List, [], ◌∷◌, slice_index}
use Rattle.vs_types.specs.Codes.{rights_code, size_code}
use Rattle.vs_types.specs.inside.Telling.{entry_in, rights_in, size_in}
use Rattle.vs_types.specs.declared.requests.answer.Answer.{Answer}
use Rattle.vs_types.specs.declared.requests.answer.Answer.TheVariants.{Done, Overlap, Full, Removed, NotMapped, Inside, Changed, Mapped, Allowed, Fault}
use Rattle.vs_types.specs.declared.log_entry.LogEntry.{LogEntry}
use Rattle.vs_types.specs.declared.addresses.page.Rights.{Rights}
use Rattle.vs_types.specs.declared.addresses.page.Size.{Size}
use Rattle.vs_types.specs.declared.addresses.page.Size.TheVariants.{K4}

-- an entry with what it was answered
pub record AppliedEntry : Type 0 where
  pub entry : LogEntry
  pub answer : Answer

abbrev pub field_codes : Size → Rights → ℕ
field_codes size rights = 10 * size_code size + 30 * rights_code rights

-- the kind of an answer, below 10; and 10 times the code of its size and 30 times that of its rights, where it has them
abbrev pub codes_of : Answer → ℕ
codes_of Done = 0
codes_of (Overlap base) = 1
codes_of (Full need) = 2
codes_of (Removed phys size rights) = 3 + field_codes size rights
codes_of NotMapped = 4
codes_of (Inside base) = 5
codes_of (Changed rights) = 6 + field_codes K4 rights
codes_of (Mapped phys size rights) = 7 + field_codes size rights
codes_of (Allowed phys) = 8
codes_of (Fault code) = 9

abbrev pub number_of : Answer → ℕ
number_of Done = 0
number_of (Overlap base) = base
number_of (Full need) = need
number_of (Removed phys size rights) = phys
number_of NotMapped = 0
number_of (Inside base) = base
number_of (Changed rights) = 0
number_of (Mapped phys size rights) = phys
number_of (Allowed phys) = phys
number_of (Fault code) = code

-- the answer of this kind with these fields
unfoldable pub answer_of : ℕ → ℕ → Size → Rights → Answer
answer_of zero number size rights = Done
answer_of (suc zero) number size rights = Overlap number
answer_of (suc (suc zero)) number size rights = Full number
answer_of (suc (suc (suc zero))) number size rights = Removed number size rights
answer_of (suc (suc (suc (suc zero)))) number size rights = NotMapped
answer_of (suc (suc (suc (suc (suc zero))))) number size rights = Inside number
answer_of (suc (suc (suc (suc (suc (suc zero)))))) number size rights = Changed rights
answer_of (suc (suc (suc (suc (suc (suc (suc zero))))))) number size rights = Mapped number size rights
answer_of (suc (suc (suc (suc (suc (suc (suc (suc zero)))))))) number size rights = Allowed number
answer_of (suc (suc (suc (suc (suc (suc (suc (suc (suc kind))))))))) number size rights = Fault number

abbrev pub answer_in : ℕ → ℕ → Answer
answer_in codes number = answer_of (codes % 10) number (size_in (codes / 10 % 3)) (rights_in (codes / 30))

-- the words of the entry, and what the three words say
abbrev pub entry_words : List ℕ → List ℕ
entry_words words = slice_index words 0 ∷ (slice_index words 1 % 2 ^ 56) ∷ []

abbrev pub entry_kept : List ℕ → LogEntry
entry_kept words = entry_in (entry_words words)

abbrev pub told_in : List ℕ → ℕ → AppliedEntry
told_in words number = record { entry = entry_kept words; answer = answer_in (slice_index words 1 / 2 ^ 56) number }
