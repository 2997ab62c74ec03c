-- A plan in numbers.
use Rattle.std.specs.Prelude.{◌≡◌, ℕ, ◌&&◌, ◌||◌, Bool, not, Option, Some, None, nat_eq, length, take, slice_index_or, slice_set, [], if◌then◌else◌}
use Rattle.vs_types.specs.Codes.{size_code, rights_code}
use Rattle.vs_types.specs.declared.requests.answer.Answer.{Answer}
use Rattle.vs_types.specs.declared.requests.answer.Answer.TheVariants as answers
use Rattle.vs_plan.specs.declared.plans.plan.Fill.{Fill}
use Rattle.vs_plan.specs.declared.plans.plan.Flush.{Flush}
use Rattle.vs_plan.specs.declared.plans.plan.Flush.TheVariants as flushes
use Rattle.vs_plan.specs.Again.{IsPlanAgain}
use Rattle.vs_types.specs.Bits.{flags_into, with_flags_of}
use Rattle.vs_plan.specs.Answered.{Changes}
use Rattle.vs_plan.specs.declared.plans.plan.Plan as plans
use Rattle.vs_plan.specs.declared.plans.plan.Reply as outcomes
use Rattle.vs_plan.specs.declared.plans.plan.Reply.TheVariants as replies
use Rattle.vs_plan.specs.declared.plans.plan.Store.{Store}
use Rattle.nrvs_plan_c.specs.declared.records.kept.Plan.{Plan}
use Rattle.nrvs_plan_c.specs.declared.records.told.Reply.{Reply}

-- a reply with a number alone
abbrev numbered : ℕ → ℕ → Reply
numbered code number = record { code = code; size = 0; rights = 0; number = number }

-- the code of an answer and what it has, with 0 for what it doesn't have
abbrev pub answer_numbers : Answer → Reply
answer_numbers answers.Done = numbered 0 0
answer_numbers (answers.Overlap base) = numbered 1 base
answer_numbers (answers.Full need) = numbered 2 need
answer_numbers (answers.Removed phys size rights) = record { code = 3; size = size_code size; rights = rights_code rights; number = phys }
answer_numbers answers.NotMapped = numbered 4 0
answer_numbers (answers.Inside base) = numbered 5 base
answer_numbers (answers.Changed rights) = record { code = 6; size = 0; rights = rights_code rights; number = 0 }
answer_numbers (answers.Mapped phys size rights) = record { code = 7; size = size_code size; rights = rights_code rights; number = phys }
answer_numbers (answers.Allowed phys) = numbered 8 phys
answer_numbers (answers.Fault code) = numbered 9 code

-- the code of a plan's reply and what it has, with 0 for what it doesn't have
abbrev pub reply_numbers : outcomes.Reply → Reply
reply_numbers (replies.Answer answer) = answer_numbers answer
reply_numbers replies.NoFrame = numbered 10 0
reply_numbers (replies.FrameRange number) = numbered 11 number
reply_numbers replies.Rights = numbered 12 0
reply_numbers (replies.Empty number address) = numbered 13 number
reply_numbers (replies.Reserved number index) = numbered 14 number
reply_numbers replies.PhysUnaligned = numbered 15 0
reply_numbers replies.PhysRange = numbered 16 0
reply_numbers replies.Smallest = numbered 17 0
reply_numbers replies.Largest = numbered 18 0
reply_numbers replies.Unaligned = numbered 19 0
reply_numbers (replies.Apart index) = numbered 20 index
reply_numbers replies.Pinned = numbered 21 0

-- the bits of the page's entry; or an address on whose way the empty table is; or the index of the word with a reserved bit
abbrev pub bits_told : outcomes.Reply → ℕ → ℕ
bits_told (replies.Empty number address) bits = address
bits_told (replies.Reserved number index) bits = index
bits_told reply bits = bits

-- the code of a flush, the page's base and the code of its size
abbrev pub flush_numbers : Flush → ℕ × ℕ × ℕ
flush_numbers flushes.Nothing = (0, 0, 0)
flush_numbers (flushes.Page base size) = (1, base, size_code size)
flush_numbers (flushes.PageAndTables base size) = (2, base, size_code size)
flush_numbers (flushes.Range base size) = (3, base, size_code size)

-- whether a frame is filled, and where it is, how
abbrev pub IsFillTold : ℕ → Fill → Option Fill → Type 0
IsFillTold fills fill None = fills ≡ 0
IsFillTold fills fill (Some made) = (fills ≡ 1) × (fill ≡ made)

-- the numbers of the plan are those of this one
pub record IsTold (plan : Plan) (made : plans.Plan) : Type 0 where
  pub reply : plan.reply ≡ reply_numbers made.reply
  pub bits : plan.bits ≡ bits_told made.reply made.bits
  pub fill : IsFillTold plan.fills plan.fill made.fill
  pub store_count : plan.store_count ≡ length made.stores.items
  pub stores : take plan.store_count plan.stores ≡ made.stores.items
  pub flush : (plan.flush, plan.flush_base, plan.flush_size) ≡ flush_numbers made.flush
  pub unlinked_count : plan.unlinked_count ≡ length made.unlinked.items
  pub unlinked : take plan.unlinked_count plan.unlinked ≡ made.unlinked.items

-- the store at an index
abbrev pub store_at : Plan → ℕ → Store
store_at plan index = slice_index_or plan.stores index (record { frame = 0; index = 0; old = 0; new = 0 })

-- whether a store writes a link to the table that is filled, or in the place of the link to a table that is unlinked: what it writes stays
-- as it is, whatever flags are found
abbrev pub is_linking : Plan → Bool
is_linking plan = not (nat_eq plan.fills 0) || not (nat_eq plan.unlinked_count 0)

-- a store that found another word
abbrev pub store_again : Plan → Store → ℕ → Store
store_again plan store found = record store { old = found; new = if is_linking plan then store.new else with_flags_of found store.new }

-- what a frame is filled with then: entries with the flags that were found
abbrev pub fill_again : Plan → ℕ → Fill
fill_again plan found = if nat_eq plan.fills 0 then plan.fill else record plan.fill { first = flags_into found plan.fill.first }

-- the bits that are said of the page's entry, which the first store changes, but not where it writes an entry in the place of a link, or
-- where what is done names no page
abbrev pub bits_again : Plan → ℕ → Store → ℕ → ℕ
bits_again plan index store found =
    if nat_eq plan.reply.code 0 then plan.bits
    else if nat_eq index 0 && (nat_eq plan.unlinked_count 0 || nat_eq store.new 0) then flags_into found plan.bits
    else plan.bits

-- the numbers after a store at an index found a word with other flags
abbrev pub plan_again : Plan → ℕ → ℕ → Plan
plan_again plan index found = record plan {
  stores = slice_set plan.stores index (store_again plan (store_at plan index) found);
  fill = fill_again plan found;
  bits = bits_again plan index (store_at plan index) found;
}

-- of each plan whose numbers these are, and that has no store where nothing changes, those are the numbers with these flags (`Plan::again`)
abbrev pub IsMadeAgain : Plan → ℕ → ℕ → Type 0
IsMadeAgain plan index found = (made : plans.Plan) → IsTold plan made → ((Changes made.reply → ⊥) → made.stores.items ≡ [])
    → (again : plans.Plan) × IsPlanAgain made index found again × IsTold (plan_again plan index found) again
