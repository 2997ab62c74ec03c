-- The faults of a trace, as statements, and which comes first.
use Rattle.std.specs.Prelude.{◌≡◌, ◌≢◌, ℕ, ◌<◌, ◌⊎◌, List, [], ◌∷◌, length, take, slice_get, Some}
use Rattle.std.specs.Ordering.{nat_cmp}
use Rattle.std.specs.Cmp.Lexicographic.{slice_cmp}
use Rattle.std.specs.declared.cmp.Ordering.TheVariants.{Less}
use Rattle.vs_types.specs.Space.{Space, no_pages}
use Rattle.vs_types.specs.declared.requests.request.Query.{Query}
use Rattle.vs_walk.specs.Differences.{HasMissingFrame, HasSharedFrame, HasReservedBit, HasStrayFrame, HasDifference}
use Rattle.vs_walk.specs.Dump.{Image}
use Rattle.nr_trace.specs.Recording.{Recording, IsThere}
use Rattle.nr_trace.specs.Spelling.{Spells}
use Rattle.nr_trace.specs.FirstFault.{HasFormatFault}
use Rattle.nr_trace.specs.Calls.{Invocation, call_of, request_of, Response, reply_of, reply_to, Answers, IsCall, IsUpdate, IsRead}
use Rattle.nr_trace.specs.Orders.{before, space_from, answer_in, recorded_order, floor, known_by}
use Rattle.nr_trace.specs.declared.refusals.fault.Fault.{Fault}
use Rattle.nr_trace.specs.declared.refusals.fault.Fault.TheVariants.{Format, ThreadOpen, NoSuchCall, AnsweredTwice, NotAnUpdate, PlacedTwice, NotPlaced, PastLog, Early}
use Rattle.nr_trace.specs.declared.refusals.fault.Fault.TheVariants.{WrongAnswer, PrefixPastLog, PrefixShort, MissingFrame, SharedFrame, ReservedBit, StrayFrame}
use Rattle.nr_trace.specs.declared.refusals.fault.Fault.TheVariants.{Differs}
use Rattle.nr_trace.specs.declared.refusals.fault.Fault.TheVariants.{StartMissing, StartShared, StartReserved, StartStray, StartBeyond, StartDiffers, Stale, Reachable}

-- the event is a call of a thread that has an earlier call with no reply before the event
pub record OpensTwice (trace : Recording) (index : ℕ) : Type 0 where
  pub made : Invocation
  pub is_made : call_of trace index ≡ Some made
  pub earlier : ℕ
  pub earlier_made : Invocation
  pub is_earlier : earlier < index
  pub is_earlier_made : call_of trace earlier ≡ Some earlier_made
  pub same_thread : earlier_made.thread ≡ made.thread
  pub not_answered : (reply : ℕ) → reply < index → Answers trace reply earlier → ⊥

-- the event is a reply, and what it says has the property
abbrev pub IsReplyWith : Recording → ℕ → (Response → Type 0) → Type 0
IsReplyWith trace index P = (reply : Response) × (reply_of trace index ≡ Some reply) × P reply

-- the log has at the place a call with the property
abbrev pub HasPlaced : Recording → ℕ → (ℕ → Type 0) → Type 0
HasPlaced trace place P = (call : ℕ) × (slice_get trace.log place ≡ Some call) × P call

-- the call is in the recorded order after this many entries: an update, answered or not, or an answered read
abbrev pub StandsAfter : Recording → ℕ → ℕ → Type 0
StandsAfter trace call entries =
    (IsUpdate trace call × (slice_get trace.log entries ≡ Some call))
    ⊎ (IsRead trace call × (reply : Response) × (reply_to trace call ≡ Some reply) × (reply.at ≡ entries))

-- an answered update or read, whose answer the space does not give in the recorded order
pub record IsWrongFrom (start : Space) (trace : Recording) (call : ℕ) : Type 0 where
  pub request : Query
  pub asks : request_of trace call ≡ Some request
  pub reply : Response
  pub is_reply : reply_to trace call ≡ Some reply
  pub differs : reply.answer ≢ answer_in trace.layout (space_from start trace (before call (recorded_order trace))) request

-- a reply to a call made at the replica, by which more entries are known than the dump has applied
pub record RestsOnMore (trace : Recording) (replica : ℕ) (dump : Image) : Type 0 where
  pub index : ℕ
  pub reply : Response
  pub is_reply : reply_of trace index ≡ Some reply
  pub made : Invocation
  pub is_made : call_of trace reply.call ≡ Some made
  pub here : made.replica ≡ replica
  pub more : dump.applied < known_by trace reply

-- the replica has a dump that is there, with the property
abbrev pub HasDump : Recording → ℕ → (Image → Type 0) → Type 0
HasDump trace replica P = (dump : Image) × (slice_get trace.dumps replica ≡ Some dump) × IsThere dump × P dump

-- what each fault but that of the format says of a trace, from a space on; a trace by itself has no start, no touch that is stale, and no release
abbrev pub HasFaultFrom : Space → Recording → Fault → Type 0
HasFaultFrom start trace (Format fault) = ⊥
HasFaultFrom start trace (ThreadOpen index) = OpensTwice trace index
HasFaultFrom start trace (NoSuchCall index) = IsReplyWith trace index (λ reply. (reply.call < index) × IsCall trace reply.call → ⊥)
HasFaultFrom start trace (AnsweredTwice index) = IsReplyWith trace index (λ reply. (earlier : ℕ) × (earlier < index) × Answers trace earlier reply.call)
HasFaultFrom start trace (NotAnUpdate place) = HasPlaced trace place (λ call. IsUpdate trace call → ⊥)
HasFaultFrom start trace (PlacedTwice place) = HasPlaced trace place (λ call. (earlier : ℕ) × (earlier < place) × (slice_get trace.log earlier ≡ Some call))
HasFaultFrom start trace (NotPlaced index) = IsReplyWith trace index (λ reply. IsUpdate trace reply.call × (slice_get trace.log reply.at ≢ Some reply.call))
HasFaultFrom start trace (PastLog index) = IsReplyWith trace index (λ reply. IsRead trace reply.call × (length trace.log < reply.at))
HasFaultFrom start trace (Early call) = (entries : ℕ) × StandsAfter trace call entries × (entries < floor trace call)
HasFaultFrom start trace (WrongAnswer call) = IsWrongFrom start trace call
HasFaultFrom start trace (PrefixPastLog replica) = HasDump trace replica (λ dump. length trace.log < dump.applied)
HasFaultFrom start trace (PrefixShort replica) = HasDump trace replica (RestsOnMore trace replica)
HasFaultFrom start trace (MissingFrame replica number) = HasDump trace replica (λ dump. HasMissingFrame trace.layout.depth dump number)
HasFaultFrom start trace (SharedFrame replica number) = HasDump trace replica (λ dump. HasSharedFrame trace.layout.depth dump number)
HasFaultFrom start trace (ReservedBit replica number index) = HasDump trace replica (λ dump. HasReservedBit trace.layout.depth dump number index)
HasFaultFrom start trace (StrayFrame replica number) = HasDump trace replica (λ dump. HasStrayFrame trace.layout.depth dump number)
HasFaultFrom start trace (Differs replica address) =
    HasDump trace replica (λ dump. HasDifference trace.layout.depth dump (space_from start trace (take dump.applied trace.log)) address)
HasFaultFrom start trace fault = ⊥

-- what each fault but that of the format says of a trace, from no pages on
abbrev pub HasFault : Recording → Fault → Type 0
HasFault trace fault = HasFaultFrom no_pages trace fault

-- the rank of a fault: its pass, then its index in that pass, then its number. A start is looked at behind the format, and touches behind the
-- answers, which are compared in the recorded order; then releases
abbrev pub rank : Recording → Fault → List ℕ
rank trace (Format fault) = 1 ∷ 0 ∷ 1 ∷ []
rank trace (StartMissing number) = 1 ∷ 1 ∷ 18 ∷ []
rank trace (StartShared number) = 1 ∷ 1 ∷ 19 ∷ []
rank trace (StartReserved number index) = 1 ∷ 1 ∷ 20 ∷ []
rank trace (StartStray number) = 1 ∷ 2 ∷ 21 ∷ []
rank trace (StartBeyond base) = 1 ∷ 3 ∷ 22 ∷ []
rank trace (StartDiffers address) = 1 ∷ 4 ∷ 23 ∷ []
rank trace (ThreadOpen index) = 2 ∷ index ∷ 2 ∷ []
rank trace (NoSuchCall index) = 2 ∷ index ∷ 3 ∷ []
rank trace (AnsweredTwice index) = 2 ∷ index ∷ 4 ∷ []
rank trace (NotAnUpdate place) = 3 ∷ place ∷ 5 ∷ []
rank trace (PlacedTwice place) = 3 ∷ place ∷ 6 ∷ []
rank trace (NotPlaced index) = 4 ∷ index ∷ 7 ∷ []
rank trace (PastLog index) = 4 ∷ index ∷ 8 ∷ []
rank trace (Early call) = 5 ∷ call ∷ 9 ∷ []
rank trace (WrongAnswer call) = 6 ∷ length (before call (recorded_order trace)) ∷ 10 ∷ []
rank trace (Stale call) = 7 ∷ call ∷ 24 ∷ []
rank trace (Reachable call) = 8 ∷ call ∷ 25 ∷ []
rank trace (PrefixPastLog replica) = 9 ∷ replica ∷ 11 ∷ []
rank trace (PrefixShort replica) = 9 ∷ replica ∷ 12 ∷ []
rank trace (MissingFrame replica number) = 9 ∷ replica ∷ 13 ∷ []
rank trace (SharedFrame replica number) = 9 ∷ replica ∷ 14 ∷ []
rank trace (ReservedBit replica number index) = 9 ∷ replica ∷ 15 ∷ []
rank trace (StrayFrame replica number) = 9 ∷ replica ∷ 16 ∷ []
rank trace (Differs replica address) = 9 ∷ replica ∷ 17 ∷ []

-- the first fault comes before the second one
abbrev pub Earlier : Recording → Fault → Fault → Type 0
Earlier trace first second = slice_cmp nat_cmp (rank trace first) (rank trace second) ≡ Less

-- the fault holds of the trace, and no earlier one does
pub record IsFirstFrom (start : Space) (trace : Recording) (fault : Fault) : Type 0 where
  pub holds : HasFaultFrom start trace fault
  pub none_earlier : (other : Fault) → HasFaultFrom start trace other → Earlier trace other fault → ⊥

-- the fault holds of a trace from no pages on, and no earlier one does
abbrev pub IsFirst : Recording → Fault → Type 0
IsFirst trace fault = IsFirstFrom no_pages trace fault

-- the fault is the first one of the bytes
abbrev pub IsFirstOf : List ℕ → Fault → Type 0
IsFirstOf bytes (Format fault) = HasFormatFault bytes fault
IsFirstOf bytes fault = (trace : Recording) × Spells bytes trace × IsFirst trace fault
