-- An answer is what its codes and its number say.
use Rattle.std.proofs.Common.{◌≡◌, ℕ, suc, ◌+◌, ◌*◌, ◌/◌, ◌%◌, ◌^◌, ◌<◌, ◌≤◌, Bool, true, false, refl, ap, ◌∙◌, arith}
use Rattle.vs_types.specs.Codes.{rights_code, size_code}
use Rattle.vs_types.specs.inside.Telling.{is_one, rights_in, size_in}
use Rattle.vs_types.specs.declared.requests.answer.Answer.{Answer}
use Rattle.vs_types.specs.declared.requests.answer.Answer.TheVariants.{Done, Overlap, Full, Removed, NotMapped, Inside, Changed, Mapped, Allowed, Fault}
use Rattle.vs_types.specs.declared.addresses.page.Rights.{Rights}
use Rattle.vs_types.specs.declared.addresses.page.Size.{Size}
use Rattle.vs_types.specs.declared.addresses.page.Size.TheVariants.{K4, M2, G1}
use Rattle.nr_node.specs.inside.AppliedEntry.{answer_in, answer_of, codes_of, field_codes, number_of}

pub fault_above : (kind number : ℕ) (size : Size) (rights : Rights) → 9 ≤ kind → Fault number ≡ answer_of kind number size rights
unfolding answer_of
fault_above (suc (suc (suc (suc (suc (suc (suc (suc (suc kind))))))))) number size rights le = refl
fault_above _ number size rights le = absurd (omega (arith, le))

size_again : (size : Size) → size_in (size_code size) ≡ size
unfolding size_in
size_again K4 = refl
size_again M2 = refl
size_again G1 = refl

size_low : (size : Size) → size_code size < 3
size_low K4 = omega arith
size_low M2 = omega arith
size_low G1 = omega arith

abbrev these : Bool → Bool → Bool → Rights
these write user exec = record { write = write; user = user; exec = exec }

rights_again : (write user exec : Bool) → rights_in (rights_code (these write user exec)) ≡ these write user exec
unfolding is_one rights_in
rights_again false false false = refl
rights_again false false true = refl
rights_again false true false = refl
rights_again false true true = refl
rights_again true false false = refl
rights_again true false true = refl
rights_again true true false = refl
rights_again true true true = refl

-- the kind, the size and the rights of codes
fields : (kind s r : ℕ) → kind < 10 → s < 3
    → ((kind + (10 * s + 30 * r)) % 10 ≡ kind) × ((kind + (10 * s + 30 * r)) / 10 % 3 ≡ s) × ((kind + (10 * s + 30 * r)) / 30 ≡ r)
fields kind s r low small = (omega (arith, low, small), omega (arith, low, small), omega (arith, low, small))

with_fields : (kind number : ℕ) (size : Size) (rights : Rights) → kind < 10
    → answer_in (kind + field_codes size rights) number ≡ answer_of kind number size rights
with_fields kind number size rights low =
    let are = fields kind (size_code size) (rights_code rights) low (size_low size) in
    let s = ap size_in are.1 ∙ size_again size in
    let r = ap rights_in are.2 ∙ rights_again rights.write rights.user rights.exec in
    λ i. answer_of (are.0 i) number (s i) (r i)

pub answer_again : (answer : Answer) → answer_in (codes_of answer) (number_of answer) ≡ answer
unfolding answer_of
answer_again Done = refl
answer_again (Overlap base) = refl
answer_again (Full need) = refl
answer_again (Removed phys size rights) = with_fields 3 phys size rights (omega arith)
answer_again NotMapped = refl
answer_again (Inside base) = refl
answer_again (Changed rights) = with_fields 6 0 K4 rights (omega arith)
answer_again (Mapped phys size rights) = with_fields 7 phys size rights (omega arith)
answer_again (Allowed phys) = refl
answer_again (Fault code) = refl

-- what lies above a word of 56 bits, and that word
pub above : (rest codes : ℕ) → rest < 2 ^ 56 → ((rest + codes * 2 ^ 56) % 2 ^ 56 ≡ rest) × ((rest + codes * 2 ^ 56) / 2 ^ 56 ≡ codes)
above rest codes low = (omega arith, omega arith)
