-- Answers in numbers.
use Rattle.std.specs.Prelude.{ℕ}
use Rattle.vs_types.specs.Codes.{answer_code, size_code, rights_code}
use Rattle.vs_types.specs.declared.requests.answer.Answer.{Answer}
use Rattle.vs_types.specs.declared.requests.answer.Answer.TheVariants.{Done, Overlap, Full, Removed, NotMapped, Inside, Changed, Mapped, Allowed, Fault}
use Rattle.nrvs_c.specs.declared.reply.Reply.{Reply}

-- a reply with a number alone
abbrev numbered_reply : Answer → ℕ → Reply
numbered_reply answer number = record { code = answer_code answer; size = 0; rights = 0; number = number }

-- the code of an answer and what it has, with 0 for what it doesn't have
abbrev pub reply_for : Answer → Reply
reply_for Done = numbered_reply Done 0
reply_for (Overlap base) = numbered_reply (Overlap base) base
reply_for (Full need) = numbered_reply (Full need) need
reply_for (Removed phys size rights) =
    record { code = answer_code (Removed phys size rights); size = size_code size; rights = rights_code rights; number = phys }
reply_for NotMapped = numbered_reply NotMapped 0
reply_for (Inside base) = numbered_reply (Inside base) base
reply_for (Changed rights) = record { code = answer_code (Changed rights); size = 0; rights = rights_code rights; number = 0 }
reply_for (Mapped phys size rights) =
    record { code = answer_code (Mapped phys size rights); size = size_code size; rights = rights_code rights; number = phys }
reply_for (Allowed phys) = numbered_reply (Allowed phys) phys
reply_for (Fault code) = numbered_reply (Fault code) code
