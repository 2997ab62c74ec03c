-- What each kind of evidence says: which fault it shows, and its facts, each one of the trace.
use Rattle.std.specs.Prelude.{◌≡◌, ◌≢◌, ℕ, ◌<◌, ◌≤◌, List, length, take, slice_get, Option, Some, None}
use Rattle.std.specs.FinMap as finite
use Rattle.vs_types.specs.Depth.{levels, IsCanonical}
use Rattle.vs_types.specs.Space.{Space, no_pages}
use Rattle.vs_types.specs.declared.addresses.depth.Depth.{Depth}
use Rattle.vs_types.specs.declared.requests.request.Query.{Query}
use Rattle.vs_walk.specs.Dump.{Image}
use Rattle.vs_walk.specs.Differences.{IsStray}
use Rattle.vs_walk.specs.Walk.{walk, as_walk}
use Rattle.nr_trace.specs.Recording.{Recording}
use Rattle.nr_trace.specs.Calls.{Answers, Invocation, IsCall, IsUpdate, IsRead, Response, call_of, reply_of, reply_to}
use Rattle.nr_trace.specs.Faults.{HasDump, StandsAfter}
use Rattle.nr_trace.specs.Orders.{answer_in, before, floor, known_by, recorded_order, space_from}
use Rattle.nr_trace.specs.declared.recordings.event.Asked.TheVariants.{Request}
use Rattle.nr_trace.specs.declared.refusals.fault.Fault.{Fault}
use Rattle.nr_trace.specs.declared.refusals.fault.Fault.TheVariants as faults
use Rattle.nr_explain.specs.Facts.{IsCallOf, IsReplyOf, IsFirstReplyTo, response, entries_read, looks_from, IsLastChangeFrom, address_about, IsPath}
use Rattle.nr_explain.specs.Facts.{HasReservedWord}
use Rattle.vs_types.specs.Bits.{IsLowestReservedBit}
use Rattle.nr_explain.specs.Nearest.{IsMemoryOf, IsNearest}
use Rattle.nr_explain.specs.declared.trace.evidence.TableEntry.{TableEntry}
use Rattle.nr_explain.specs.declared.trace.evidence.OpenCalls.{OpenCalls}
use Rattle.nr_explain.specs.declared.trace.evidence.StrayReply.{StrayReply}
use Rattle.nr_explain.specs.declared.trace.evidence.TwoReplies.{TwoReplies}
use Rattle.nr_explain.specs.declared.trace.evidence.NoUpdate.{NoUpdate}
use Rattle.nr_explain.specs.declared.trace.evidence.TwoPlaces.{TwoPlaces}
use Rattle.nr_explain.specs.declared.trace.evidence.Misplaced.{Misplaced}
use Rattle.nr_explain.specs.declared.trace.evidence.PastEnd.{PastEnd}
use Rattle.nr_explain.specs.declared.trace.evidence.EarlyCall.{EarlyCall}
use Rattle.nr_explain.specs.declared.trace.evidence.OtherAnswer.{OtherAnswer}
use Rattle.nr_explain.specs.declared.trace.evidence.LongPrefix.{LongPrefix}
use Rattle.nr_explain.specs.declared.trace.evidence.ShortPrefix.{ShortPrefix}
use Rattle.nr_explain.specs.declared.trace.evidence.MissingTable.{MissingTable}
use Rattle.nr_explain.specs.declared.trace.evidence.Owner.TheVariants.{Dump}
use Rattle.nr_explain.specs.declared.trace.evidence.SharedTable.{SharedTable}
use Rattle.nr_explain.specs.declared.trace.evidence.ReservedEntry.{ReservedEntry}
use Rattle.nr_explain.specs.declared.trace.evidence.StrayTable.{StrayTable}
use Rattle.nr_explain.specs.declared.trace.evidence.Difference.{Difference}
use Rattle.nr_explain.specs.declared.trace.evidence.Evidence.{Evidence}
use Rattle.nr_explain.specs.declared.trace.evidence.Evidence.TheVariants as evidence

-- two calls of one thread, and no reply to the first comes before the second
pub record AreOpen (trace : Recording) (calls : OpenCalls) : Type 0 where
  pub first : IsCallOf trace calls.first
  pub second : IsCallOf trace calls.second
  pub earlier : calls.first.event < calls.second.event
  pub same_thread : calls.first.thread ≡ calls.second.thread
  pub not_answered : (reply : ℕ) → reply < calls.second.event → Answers trace reply calls.first.event → ⊥

-- the reply names this event, which is no earlier call
pub record IsStrayReply (trace : Recording) (stray : StrayReply) : Type 0 where
  pub reply : IsReplyOf trace stray.reply
  pub named : slice_get trace.events stray.reply.call ≡ stray.named
  pub no_earlier_call : (stray.reply.call < stray.reply.event) × IsCall trace stray.reply.call → ⊥

-- both replies are to the call, and nothing before the first is
pub record AreTwoReplies (trace : Recording) (replies : TwoReplies) : Type 0 where
  pub call : IsCallOf trace replies.call
  pub first : IsReplyOf trace replies.first
  pub second : IsReplyOf trace replies.second
  pub earlier : replies.first.event < replies.second.event
  pub first_names : replies.first.call ≡ replies.call.event
  pub second_names : replies.second.call ≡ replies.call.event
  pub none_before : (reply : ℕ) → reply < replies.first.event → Answers trace reply replies.call.event → ⊥

-- the log has the number at the place, it names this event, and that is no update
pub record IsNoUpdate (trace : Recording) (wrong : NoUpdate) : Type 0 where
  pub there : slice_get trace.log wrong.place ≡ Some wrong.call
  pub named : slice_get trace.events wrong.call ≡ wrong.named
  pub no_update : IsUpdate trace wrong.call → ⊥

-- the log has the call first at the one place, and then at the other
pub record AreTwoPlaces (trace : Recording) (places : TwoPlaces) : Type 0 where
  pub call : IsCallOf trace places.call
  pub first : slice_get trace.log places.first ≡ Some places.call.event
  pub second : slice_get trace.log places.second ≡ Some places.call.event
  pub earlier : places.first < places.second
  pub none_before : (place : ℕ) → place < places.first → slice_get trace.log place ≢ Some places.call.event

-- the first place at which the log has the call, or none where no place has it
abbrev pub IsFirstPlace : Recording → ℕ → Option ℕ → Type 0
IsFirstPlace trace call None = (place : ℕ) → slice_get trace.log place ≢ Some call
IsFirstPlace trace call (Some own) = (slice_get trace.log own ≡ Some call) × ((place : ℕ) → place < own → slice_get trace.log place ≢ Some call)

-- the reply to the update gives a place at which the log has this, and not the call
pub record IsMisplaced (trace : Recording) (wrong : Misplaced) : Type 0 where
  pub call : IsCallOf trace wrong.call
  pub update : IsUpdate trace wrong.call.event
  pub reply : IsReplyOf trace wrong.reply
  pub names : wrong.reply.call ≡ wrong.call.event
  pub there : slice_get trace.log wrong.reply.at ≡ wrong.there
  pub not_there : slice_get trace.log wrong.reply.at ≢ Some wrong.call.event
  pub own : IsFirstPlace trace wrong.call.event wrong.own

-- the reply to the read gives more entries than the log has
pub record IsPastEnd (trace : Recording) (wrong : PastEnd) : Type 0 where
  pub call : IsCallOf trace wrong.call
  pub read : IsRead trace wrong.call.event
  pub reply : IsReplyOf trace wrong.reply
  pub names : wrong.reply.call ≡ wrong.call.event
  pub places : wrong.places ≡ length trace.log
  pub past : wrong.places < wrong.reply.at

-- the call comes after fewer entries than its floor, which a reply before it makes known, the first that does: fewer were known before that;
-- and how it is answered itself
pub record IsEarly (trace : Recording) (early : EarlyCall) : Type 0 where
  pub call : IsCallOf trace early.call
  pub stands : StandsAfter trace early.call.event early.entries
  pub floor : early.floor ≡ floor trace early.call.event
  pub below : early.entries < early.floor
  pub reply : IsReplyOf trace early.reply
  pub known : known_by trace (response early.reply) ≡ early.floor
  pub before : early.reply.event < early.call.event
  pub none_before : (index : ℕ) (reply : Response) → index < early.reply.event → reply_of trace index ≡ Some reply → known_by trace reply < early.floor
  pub answered : IsCallOf trace early.answered
  pub names : early.reply.call ≡ early.answered.event
  pub own : IsFirstReplyTo trace early.call.event early.own

-- the call is answered otherwise than the space answers it after the updates that come before it, from this space on. With it come after
-- which numbers of entries it would be right, and where the space before it has the memory that the answer names
pub record IsOtherAnswerFrom (start : Space) (trace : Recording) (wrong : OtherAnswer) : Type 0 where
  pub call : IsCallOf trace wrong.call
  pub request : Query
  pub asks : wrong.call.asked ≡ Request request
  pub reply : IsReplyOf trace wrong.reply
  pub first : reply_to trace wrong.call.event ≡ Some (response wrong.reply)
  pub wanted : wrong.wanted ≡ answer_in trace.layout (space_from start trace (before wrong.call.event (recorded_order trace))) request
  pub differs : wrong.reply.answer ≢ wrong.wanted
  pub address : wrong.address ≡ address_about request wrong.wanted
  pub stands : StandsAfter trace wrong.call.event wrong.reply.at
  pub changed : IsLastChangeFrom start trace wrong.address wrong.reply.at wrong.changed
  pub right : IsNearest start trace request wrong.reply.answer wrong.reply.at wrong.reply.at wrong.right
  pub memory : IsMemoryOf (space_from start trace (take wrong.reply.at trace.log)) wrong.reply.answer wrong.memory

-- the call is answered otherwise than the space answers it after the updates that come before it, from no pages on
abbrev pub IsOtherAnswer : Recording → OtherAnswer → Type 0
IsOtherAnswer trace wrong = IsOtherAnswerFrom no_pages trace wrong

-- the dump has applied more entries than the log has
pub record IsLongPrefix (trace : Recording) (wrong : LongPrefix) : Type 0 where
  pub applied : HasDump trace wrong.replica (λ dump. dump.applied ≡ wrong.applied)
  pub places : wrong.places ≡ length trace.log
  pub past : wrong.places < wrong.applied

-- the dump has applied fewer entries than are known by the reply, the first such to a call made at its replica
pub record IsShortPrefix (trace : Recording) (wrong : ShortPrefix) : Type 0 where
  pub applied : HasDump trace wrong.replica (λ dump. dump.applied ≡ wrong.applied)
  pub reply : IsReplyOf trace wrong.reply
  pub known : wrong.known ≡ known_by trace (response wrong.reply)
  pub more : wrong.applied < wrong.known
  pub call : IsCallOf trace wrong.call
  pub names : wrong.reply.call ≡ wrong.call.event
  pub here : wrong.call.replica ≡ wrong.replica
  pub none_before : (index : ℕ) (reply : Response) (made : Invocation) → index < wrong.reply.event → reply_of trace index ≡ Some reply
      → call_of trace reply.call ≡ Some made → made.replica ≡ wrong.replica → known_by trace reply ≤ wrong.applied

-- the steps lead from the root of a dump to the frame, as a table of this level
abbrev pub IsRootPath : Depth → Image → ℕ → ℕ → List TableEntry → Type 0
IsRootPath depth dump level frame steps = IsPath dump.frames (levels depth) dump.root level frame steps

-- the same as a table of some level
abbrev pub StepsLeadTo : Depth → Image → ℕ → List TableEntry → Type 0
StepsLeadTo depth dump frame steps = (level : ℕ) × IsRootPath depth dump level frame steps

-- the entries lead to a frame that is lacking
abbrev pub IsMissingTable : Depth → Image → MissingTable → Type 0
IsMissingTable depth image wrong = (finite.get image.frames wrong.frame ≡ None) × StepsLeadTo depth image wrong.frame wrong.path.items

-- the entries lead to the frame, and so do others
abbrev pub IsSharedTable : Depth → Image → SharedTable → Type 0
IsSharedTable depth image wrong = StepsLeadTo depth image wrong.frame wrong.first.items
    × StepsLeadTo depth image wrong.frame wrong.second.items × (wrong.second.items ≢ wrong.first.items)

-- the entries lead to a table, and the word that it has at an index has a reserved bit set, at its level: the lowest is this one
abbrev pub IsReservedEntry : Depth → Image → ReservedEntry → Type 0
IsReservedEntry depth image wrong = IsRootPath depth image wrong.entry.level wrong.entry.frame wrong.path.items
    × HasReservedWord image.frames wrong.entry × IsLowestReservedBit wrong.entry.level wrong.entry.word wrong.bit

-- the tables do not lead to the frame
abbrev pub IsStrayTable : Recording → StrayTable → Type 0
IsStrayTable trace wrong = HasDump trace wrong.replica (λ dump. IsStray trace.layout.depth dump.frames dump.root wrong.frame)

-- the dump translates the address so, by these entries, and the space after the entries that it has applied otherwise, from this space on
pub record IsDifferenceFrom (start : Space) (trace : Recording) (wrong : Difference) (dump : Image) : Type 0 where
  pub applied : wrong.applied ≡ dump.applied
  pub canonical : IsCanonical trace.layout.depth wrong.address
  pub found : wrong.found ≡ walk trace.layout.depth dump.frames dump.root wrong.address
  pub path : wrong.path.items ≡ entries_read dump.frames (levels trace.layout.depth) dump.root wrong.address
  pub wanted : wrong.wanted ≡ looks_from start trace wrong.address wrong.applied
  pub differs : wrong.found ≢ as_walk wrong.wanted
  pub changed : IsLastChangeFrom start trace wrong.address wrong.applied wrong.changed

-- the dump translates the address otherwise than the space after the entries that it has applied, from no pages on
abbrev pub IsDifference : Recording → Difference → Image → Type 0
IsDifference trace wrong dump = IsDifferenceFrom no_pages trace wrong dump

-- the evidence shows the fault, and what it says is so
abbrev pub IsEvidence : Recording → Fault → Evidence → Type 0
IsEvidence trace fault (evidence.Format bad) = ⊥
IsEvidence trace fault (evidence.ThreadOpen calls) = (fault ≡ faults.ThreadOpen calls.second.event) × AreOpen trace calls
IsEvidence trace fault (evidence.NoSuchCall stray) = (fault ≡ faults.NoSuchCall stray.reply.event) × IsStrayReply trace stray
IsEvidence trace fault (evidence.AnsweredTwice replies) = (fault ≡ faults.AnsweredTwice replies.second.event) × AreTwoReplies trace replies
IsEvidence trace fault (evidence.NotAnUpdate wrong) = (fault ≡ faults.NotAnUpdate wrong.place) × IsNoUpdate trace wrong
IsEvidence trace fault (evidence.PlacedTwice places) = (fault ≡ faults.PlacedTwice places.second) × AreTwoPlaces trace places
IsEvidence trace fault (evidence.NotPlaced wrong) = (fault ≡ faults.NotPlaced wrong.reply.event) × IsMisplaced trace wrong
IsEvidence trace fault (evidence.PastLog wrong) = (fault ≡ faults.PastLog wrong.reply.event) × IsPastEnd trace wrong
IsEvidence trace fault (evidence.Early early) = (fault ≡ faults.Early early.call.event) × IsEarly trace early
IsEvidence trace fault (evidence.WrongAnswer wrong) = (fault ≡ faults.WrongAnswer wrong.call.event) × IsOtherAnswer trace wrong
IsEvidence trace fault (evidence.PrefixPastLog wrong) = (fault ≡ faults.PrefixPastLog wrong.replica) × IsLongPrefix trace wrong
IsEvidence trace fault (evidence.PrefixShort wrong) = (fault ≡ faults.PrefixShort wrong.replica) × IsShortPrefix trace wrong
IsEvidence trace fault (evidence.MissingFrame wrong) = (replica : ℕ) × (wrong.owner ≡ Dump replica)
    × (fault ≡ faults.MissingFrame replica wrong.frame) × HasDump trace replica (λ dump. IsMissingTable trace.layout.depth dump wrong)
IsEvidence trace fault (evidence.SharedFrame wrong) = (replica : ℕ) × (wrong.owner ≡ Dump replica)
    × (fault ≡ faults.SharedFrame replica wrong.frame) × HasDump trace replica (λ dump. IsSharedTable trace.layout.depth dump wrong)
IsEvidence trace fault (evidence.ReservedBit wrong) = (replica : ℕ) × (wrong.owner ≡ Dump replica)
    × (fault ≡ faults.ReservedBit replica wrong.entry.frame wrong.entry.index)
    × HasDump trace replica (λ dump. IsReservedEntry trace.layout.depth dump wrong)
IsEvidence trace fault (evidence.StrayFrame wrong) = (fault ≡ faults.StrayFrame wrong.replica wrong.frame) × IsStrayTable trace wrong
IsEvidence trace fault (evidence.Differs wrong) =
    (fault ≡ faults.Differs wrong.replica wrong.address) × HasDump trace wrong.replica (IsDifference trace wrong)
