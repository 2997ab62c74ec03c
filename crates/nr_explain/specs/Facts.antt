-- Facts of a trace that evidence is made of.
use Rattle.std.specs.Prelude.{◌≡◌, ◌≢◌, ℕ, zero, suc, ◌+◌, ◌-◌, ◌<◌, ◌≤◌, List, [], ◌∷◌, length, take, slice_get, slice_index, Option, Some}
use Rattle.std.specs.Prelude.{None}
use Rattle.std.specs.FinMap as finite
use Rattle.vs_types.specs.Depth.{index_at}
use Rattle.vs_types.specs.Entry.{meaning}
use Rattle.vs_types.specs.Space.{Space}
use Rattle.vs_types.specs.Step.{look}
use Rattle.vs_types.specs.declared.requests.answer.Answer.{Answer}
use Rattle.vs_types.specs.declared.requests.answer.Answer.TheVariants as answers
use Rattle.vs_types.specs.declared.entries.entry.Meaning.{Meaning}
use Rattle.vs_types.specs.declared.entries.entry.Meaning.TheVariants as entry
use Rattle.vs_types.specs.declared.requests.op.Action.TheVariants.{Map, Unmap, Protect}
use Rattle.vs_types.specs.declared.addresses.page.Rights.{Rights}
use Rattle.vs_types.specs.declared.requests.request.Query.{Query}
use Rattle.vs_types.specs.declared.requests.request.Query.TheVariants.{Update, Resolve, Access}
use Rattle.vs_walk.specs.Memory.{Memory}
use Rattle.nr_trace.specs.Recording.{Recording}
use Rattle.nr_trace.specs.Calls.{Answers, Invocation, Released, Response, call_of, reply_of}
use Rattle.nr_trace.specs.Orders.{space_from}
use Rattle.nr_explain.specs.declared.chain.evidence.Given.{Given}
use Rattle.nr_explain.specs.declared.trace.evidence.RecordedCall.{RecordedCall}
use Rattle.nr_explain.specs.declared.trace.evidence.RecordedReply.{RecordedReply}
use Rattle.nr_explain.specs.declared.trace.evidence.PlacedUpdate.{PlacedUpdate}
use Rattle.nr_explain.specs.declared.trace.evidence.TableEntry.{TableEntry}

-- what a recorded call says that it asks
abbrev pub invocation : RecordedCall → Invocation
invocation call = record { replica = call.replica; thread = call.thread; asked = call.asked }

-- the memory that is given away
abbrev pub released : Given → Released
released given = record { size = given.size; phys = given.phys }

-- the event is this call
abbrev pub IsCallOf : Recording → RecordedCall → Type 0
IsCallOf trace call = call_of trace call.event ≡ Some (invocation call)

-- what a recorded reply says of its call
abbrev pub response : RecordedReply → Response
response reply = record { call = reply.call; at = reply.at; answer = reply.answer }

-- the event is this reply
abbrev pub IsReplyOf : Recording → RecordedReply → Type 0
IsReplyOf trace reply = reply_of trace reply.event ≡ Some (response reply)

-- the first reply to a call, or none where no event is one
abbrev pub IsFirstReplyTo : Recording → ℕ → Option RecordedReply → Type 0
IsFirstReplyTo trace call None = (index : ℕ) → Answers trace index call → ⊥
IsFirstReplyTo trace call (Some reply) =
    IsReplyOf trace reply × (reply.call ≡ call) × ((index : ℕ) → index < reply.event → Answers trace index call → ⊥)

-- how an address looks after the first places of the log, this many, from this space on
abbrev pub looks_from : Space → Recording → ℕ → ℕ → Answer
looks_from start trace address places = look (space_from start trace (take places trace.log)) address

-- the address looks the same after each number of places from the first to the last
abbrev pub LooksSameFrom : Space → Recording → ℕ → ℕ → ℕ → Type 0
LooksSameFrom start trace address first last = (places : ℕ) → first ≤ places → places ≤ last
    → looks_from start trace address places ≡ looks_from start trace address last

-- the last one of the places below an end whose update changed how the address looks; or none, where none did
abbrev pub IsLastChangeFrom : Space → Recording → ℕ → ℕ → Option PlacedUpdate → Type 0
IsLastChangeFrom start trace address end None = LooksSameFrom start trace address 0 end
IsLastChangeFrom start trace address end (Some update) =
    (update.place < end) × IsCallOf trace update.call × (slice_get trace.log update.place ≡ Some update.call.event)
    × (looks_from start trace address update.place ≢ looks_from start trace address (update.place + 1))
    × LooksSameFrom start trace address (update.place + 1) end

-- the address that a request asks for
abbrev pub asked_address : Query → ℕ
asked_address (Update (Map page)) = page.base
asked_address (Update (Unmap base)) = base
asked_address (Update (Protect base rights)) = base
asked_address (Resolve address) = address
asked_address (Access address mode access) = address

-- the address that an answer is about: the base that it names, if it names one, else what the call asks for
abbrev pub address_about : Query → Answer → ℕ
address_about request (answers.Overlap base) = base
address_about request (answers.Inside base) = base
address_about request _ = asked_address request

-- the word of the step is in its frame, and leads as an entry of its level to the other frame
pub record LeadsOn (memory : Memory) (step : TableEntry) (next : ℕ) : Type 0 where
  pub words : List ℕ
  pub own : Rights
  pub there : finite.get memory step.frame ≡ Some words
  pub within : step.index < length words
  pub read : slice_index words step.index ≡ step.word
  pub leads : meaning step.level step.word ≡ entry.Table next own

-- from the frame of a table of one level the steps lead to the frame of a table of another, each from where the one before
-- it leads to
abbrev pub IsPath : Memory → ℕ → ℕ → ℕ → ℕ → List TableEntry → Type 0
IsPath memory level number end target [] = (level ≡ end) × (number ≡ target)
IsPath memory level number end target (step ∷ steps) =
    (step.level ≡ level) × (step.frame ≡ number) × ((next : ℕ) × LeadsOn memory step next × IsPath memory (level - 1) next end target steps)

-- what is read behind an entry: more where it leads on to a table
abbrev pub behind : (ℕ → List TableEntry) → Meaning → List TableEntry
behind below (entry.Table next own) = below next
behind below _ = []

-- what is read of a frame: nothing where the memory lacks it
abbrev pub of_frame : (List ℕ → List TableEntry) → Option (List ℕ) → List TableEntry
of_frame read None = []
of_frame read (Some words) = read words

-- the entry for an address among the words of a table
abbrev pub entry_for : ℕ → ℕ → ℕ → List ℕ → TableEntry
entry_for level number address words =
    record { level = level; frame = number; index = index_at level address; word = slice_index words (index_at level address) }

-- the entries that the walk of an address reads from the frame of this number on, the table of a level
unfoldable pub entries_read : Memory → ℕ → ℕ → ℕ → List TableEntry
entries_read memory zero number address = []
entries_read memory (suc level) number address =
    of_frame (λ words.
    entry_for (suc level) number address words
    ∷ behind (λ next. entries_read memory level next address) (meaning (suc level) (slice_index words (index_at (suc level) address))))
    (finite.get memory number)

-- the word of the step is in its frame, and has a reserved bit set as an entry of its level
pub record HasReservedWord (memory : Memory) (step : TableEntry) : Type 0 where
  pub words : List ℕ
  pub there : finite.get memory step.frame ≡ Some words
  pub within : step.index < length words
  pub read : slice_index words step.index ≡ step.word
  pub reserved : meaning step.level step.word ≡ entry.Reserved
