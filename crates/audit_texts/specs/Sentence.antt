-- The sentence of a fault: what is wrong, with the numbers that show it.
use Rattle.std.specs.Prelude.{ℕ, ◌++◌, ◌==◌, List, [], ◌∷◌, length, codes, decimal, Option, Some, None, if◌then◌else◌}
use Rattle.vs_types.specs.declared.requests.request.Query.TheVariants.{Update}
use Rattle.vs_text.specs.Requests.{request_text}
use Rattle.vs_text.specs.Words.{hexadecimal, space}
use Rattle.nr_trace.specs.declared.recordings.event.Event.{Event}
use Rattle.nr_trace.specs.declared.recordings.event.Event.TheVariants.{Call, Reply}
use Rattle.nr_trace.specs.declared.recordings.event.Asked.{Asked}
use Rattle.nr_trace.specs.declared.recordings.event.Asked.TheVariants as askeds
use Rattle.nr_trace.specs.declared.refusals.fault.Format.{Format}
use Rattle.nr_trace.specs.declared.refusals.fault.Format.TheVariants as formats
use Rattle.nr_trace.specs.FirstFault.{unit_size}
use Rattle.nr_explain.specs.declared.units.BadUnit.{BadUnit}
use Rattle.nr_explain.specs.declared.fields.BadField.{BadField}
use Rattle.nr_explain.specs.declared.trace.evidence.TableEntry.{TableEntry}
use Rattle.nr_explain.specs.declared.trace.evidence.OpenCalls.{OpenCalls}
use Rattle.nr_explain.specs.declared.trace.evidence.StrayReply.{StrayReply}
use Rattle.nr_explain.specs.declared.trace.evidence.TwoReplies.{TwoReplies}
use Rattle.nr_explain.specs.declared.trace.evidence.NoUpdate.{NoUpdate}
use Rattle.nr_explain.specs.declared.trace.evidence.TwoPlaces.{TwoPlaces}
use Rattle.nr_explain.specs.declared.trace.evidence.Misplaced.{Misplaced}
use Rattle.nr_explain.specs.declared.trace.evidence.PastEnd.{PastEnd}
use Rattle.nr_explain.specs.declared.trace.evidence.EarlyCall.{EarlyCall}
use Rattle.nr_explain.specs.declared.trace.evidence.OtherAnswer.{OtherAnswer}
use Rattle.nr_explain.specs.declared.trace.evidence.LongPrefix.{LongPrefix}
use Rattle.nr_explain.specs.declared.trace.evidence.ShortPrefix.{ShortPrefix}
use Rattle.nr_explain.specs.declared.trace.evidence.MissingTable.{MissingTable}
use Rattle.nr_explain.specs.declared.trace.evidence.Owner.{Owner}
use Rattle.nr_explain.specs.declared.trace.evidence.SharedTable.{SharedTable}
use Rattle.nr_explain.specs.declared.trace.evidence.ReservedEntry.{ReservedEntry}
use Rattle.nr_explain.specs.declared.trace.evidence.StrayTable.{StrayTable}
use Rattle.nr_explain.specs.declared.trace.evidence.Difference.{Difference}
use Rattle.nr_explain.specs.declared.trace.evidence.Evidence.{Evidence}
use Rattle.nr_explain.specs.declared.trace.evidence.Evidence.TheVariants as evidence
use Rattle.audit_texts.specs.Owners.{of_owner, owner_text}
use Rattle.audit_texts.specs.FieldText.{since_text}
use Rattle.audit_texts.specs.Text.{answer_text, walk_words}
use Rattle.audit_texts.specs.EvidenceText.{bytes_text, unit_text}

-- the word for one of them, or for none or more
abbrev pub noun : ℕ → List ℕ → List ℕ → List ℕ
noun number one more = if number == 1 then one else more

-- so many of them
abbrev pub count_text : ℕ → List ℕ → List ℕ → List ℕ
count_text number one more = decimal number ++ (space ++ noun number one more)

-- a number of entries, as a sentence has it
abbrev pub entries_text : ℕ → List ℕ
entries_text number = count_text number (codes "entry") (codes "entries")

-- a number of updates, as a sentence has it
abbrev pub updates_text : ℕ → List ℕ
updates_text number = count_text number (codes "update") (codes "updates")

-- the unit in which bytes end
abbrev pub cut_text : BadUnit → List ℕ
cut_text bad = codes "they end in " ++ (unit_text bad.unit ++ (codes ", of whose " ++ (decimal (unit_size bad.unit)
    ++ (codes " bytes there are " ++ decimal (length bad.read.items)))))

-- which version there is not
abbrev pub version_text : BadUnit → List ℕ
version_text bad = codes "their version is 0x" ++ (bytes_text bad.read.items ++ codes ", and not 1 or 2")

-- which event is none, and which of its fields is wrong
abbrev pub event_text : ℕ → Option BadField → List ℕ
event_text index found = codes "event " ++ (decimal index ++ (codes " is no call and no reply" ++ since_text found))

-- which frame has a wrong number
abbrev pub frame_text : ℕ → ℕ → List ℕ
frame_text replica index = codes "frame " ++ (decimal index ++ (codes " of dump " ++ (decimal replica
    ++ codes " has a number that is not above the one before it, or too great")))

-- which frame of a start has a wrong number
abbrev pub start_text : ℕ → List ℕ
start_text index =
    codes "frame " ++ (decimal index ++ codes " of the start has a number that is not above the one before it, or too great")

-- why bytes with this fault are no trace
unfoldable pub reason_text : BadUnit → Format → List ℕ
reason_text bad formats.Truncated = cut_text bad
reason_text bad formats.BadMagic = codes "they don't begin with NRVT"
reason_text bad formats.BadVersion = version_text bad
reason_text bad formats.BadCount = codes "a number in " ++ (unit_text bad.unit ++ codes " is out of range")
reason_text bad formats.BadChain = codes "they are not laid out as the segment before them"
reason_text bad (formats.BadStart index) = start_text index
reason_text bad (formats.BadEvent index) = event_text index bad.field
reason_text bad (formats.BadFrame replica index) = frame_text replica index
reason_text bad formats.Trailing = codes "more bytes follow the last unit"

-- the sentence on a unit that is bad
abbrev pub bad_unit_sentence : BadUnit → List ℕ
bad_unit_sentence bad = codes "These bytes are no trace: " ++ (reason_text bad bad.fault ++ codes ".")

-- the sentence on two calls of one thread that are open at once
abbrev pub open_sentence : OpenCalls → List ℕ
open_sentence calls = codes "Thread " ++ (decimal calls.second.thread ++ (codes " makes call " ++ (decimal calls.second.event
    ++ (codes " while its call " ++ (decimal calls.first.event ++ codes " has no reply yet.")))))

-- what an event is that is no earlier call
unfoldable pub stray_text : Option Event → List ℕ
stray_text None = codes "there is no such event"
stray_text (Some (Call replica thread (askeds.Request request))) = codes "that call is made later"
stray_text (Some (Call replica thread (askeds.Touch address mode access))) = codes "that touch is made later"
stray_text (Some (Call replica thread (askeds.Release size phys))) = codes "that release is made later"
stray_text (Some (Reply call at answer)) = codes "that event is a reply"

-- the sentence on a reply to no earlier call
abbrev pub stray_reply_sentence : StrayReply → List ℕ
stray_reply_sentence stray = codes "Event " ++ (decimal stray.reply.event ++ (codes " replies to call " ++ (decimal stray.reply.call
    ++ (codes ", which is no call before it: " ++ (stray_text stray.named ++ codes ".")))))

-- the sentence on two replies to a call
abbrev pub two_replies_sentence : TwoReplies → List ℕ
two_replies_sentence replies = codes "Event " ++ (decimal replies.second.event ++ (codes " answers call " ++ (decimal replies.call.event
    ++ (codes " again: event " ++ (decimal replies.first.event ++ codes " had answered it.")))))

-- what a call is that is no update
unfoldable pub unlogged_call_text : Asked → List ℕ
unlogged_call_text (askeds.Request request) = codes "that call only reads, " ++ request_text request
unlogged_call_text (askeds.Touch address mode access) = codes "that event is a touch"
unlogged_call_text (askeds.Release size phys) = codes "that event is a release"

-- what an event is that is no update
unfoldable pub unlogged_text : Option Event → List ℕ
unlogged_text None = codes "there is no such event"
unlogged_text (Some (Call replica thread asked)) = unlogged_call_text asked
unlogged_text (Some (Reply call at answer)) = codes "that event is a reply"

-- the sentence on a place that has no update
abbrev pub no_update_sentence : NoUpdate → List ℕ
no_update_sentence wrong = codes "Place " ++ (decimal wrong.place ++ (codes " of the log has the number " ++ (decimal wrong.call
    ++ (codes ", which is no update: " ++ (unlogged_text wrong.named ++ codes ".")))))

-- the sentence on an update at two places
abbrev pub two_places_sentence : TwoPlaces → List ℕ
two_places_sentence places = codes "Call " ++ (decimal places.call.event ++ (codes " is in the log twice: at place " ++ (decimal places.first
    ++ (codes ", and again at place " ++ (decimal places.second ++ codes ".")))))

-- what the log has at a place
unfoldable pub there_text : Option ℕ → List ℕ
there_text None = codes "no such place"
there_text (Some call) = codes "call " ++ (decimal call ++ codes " there")

-- the sentence on a reply that names another place
abbrev pub misplaced_sentence : Misplaced → List ℕ
misplaced_sentence wrong = codes "Event " ++ (decimal wrong.reply.event ++ (codes " says that call " ++ (decimal wrong.call.event
    ++ (codes " is at place " ++ (decimal wrong.reply.at ++ (codes " of the log, but the log has " ++ (there_text wrong.there ++ codes ".")))))))

-- the sentence on a read that saw more entries than there are
abbrev pub past_end_sentence : PastEnd → List ℕ
past_end_sentence wrong = codes "Event " ++ (decimal wrong.reply.event ++ (codes " says that call " ++ (decimal wrong.call.event
    ++ (codes " saw " ++ (entries_text wrong.reply.at ++ (codes " of the log, which has " ++ (decimal wrong.places ++ codes ".")))))))

-- from how many entries of the log a call was answered
abbrev pub seen_text : ℕ → List ℕ
seen_text entries = codes "was answered from " ++ entries_text entries

-- after how many entries of the log a call is
unfoldable pub stands_text : Asked → ℕ → List ℕ
stands_text (askeds.Request (Update action)) entries = codes "is at place " ++ decimal entries
stands_text asked entries = seen_text entries

-- the sentence on a call that comes too early
abbrev pub early_sentence : EarlyCall → List ℕ
early_sentence early = codes "Call " ++ (decimal early.call.event ++ (space ++ (stands_text early.call.asked early.entries
    ++ (codes " of the log, but before it was made a reply had shown " ++ (decimal early.floor ++ codes ".")))))

-- the sentence on an answer that the space does not give
abbrev pub other_answer_sentence : OtherAnswer → List ℕ
other_answer_sentence wrong = codes "Call " ++ (decimal wrong.call.event ++ (codes " was answered `" ++ (answer_text wrong.reply.answer
    ++ (codes "`, but after the " ++ (updates_text wrong.reply.at
    ++ (codes " before it the address space answers `" ++ (answer_text wrong.wanted ++ codes "`.")))))))

-- the sentence on a dump that has applied more entries than there are
abbrev pub long_prefix_sentence : LongPrefix → List ℕ
long_prefix_sentence wrong = codes "The dump of replica " ++ (decimal wrong.replica ++ (codes " says that it has applied "
    ++ (entries_text wrong.applied ++ (codes ", but the log has " ++ (decimal wrong.places ++ codes ".")))))

-- the sentence on a dump that has applied too few entries
abbrev pub short_prefix_sentence : ShortPrefix → List ℕ
short_prefix_sentence wrong = codes "The dump of replica " ++ (decimal wrong.replica ++ (codes " has applied "
    ++ (entries_text wrong.applied ++ (codes ", but a reply given there shows " ++ (decimal wrong.known ++ codes ".")))))

-- what leads to a frame, by the entries on the way from the root
unfoldable pub leads_text : List TableEntry → Owner → List ℕ
leads_text [] owner = codes "The root of " ++ (owner_text owner ++ codes " is")
leads_text (step ∷ steps) owner = codes "An entry of the tables of " ++ (owner_text owner ++ codes " leads to")

-- the sentence on a frame that is missing
abbrev pub missing_sentence : MissingTable → List ℕ
missing_sentence wrong = leads_text wrong.path.items wrong.owner ++ (codes " frame " ++ (hexadecimal wrong.frame
    ++ (codes ", which " ++ (of_owner wrong.owner (codes "the dump") (codes "the start") ++ codes " doesn't have."))))

-- the sentence on a frame that is reached twice
abbrev pub shared_sentence : SharedTable → List ℕ
shared_sentence wrong = codes "The tables of " ++ (owner_text wrong.owner ++ (codes " reach frame " ++ (hexadecimal wrong.frame
    ++ codes " twice: a change on one way is seen on the other.")))

-- the sentence on an entry with a reserved bit set
abbrev pub reserved_sentence : ReservedEntry → List ℕ
reserved_sentence wrong = codes "Entry " ++ (decimal wrong.entry.index ++ (codes " of frame " ++ (hexadecimal wrong.entry.frame
    ++ (codes " of " ++ (owner_text wrong.owner ++ (codes " has the reserved bit " ++ (decimal wrong.bit
    ++ codes " set: a processor faults there.")))))))

-- the sentence on a frame that is not reached
abbrev pub stray_sentence : StrayTable → List ℕ
stray_sentence wrong = codes "The dump of replica " ++ (decimal wrong.replica ++ (codes " holds frame " ++ (hexadecimal wrong.frame
    ++ codes " as a table, and no table leads to it.")))

-- the sentence on an address that is translated otherwise
abbrev pub difference_sentence : Difference → List ℕ
difference_sentence wrong = codes "At " ++ (hexadecimal wrong.address ++ (codes " the tables of replica " ++ (decimal wrong.replica
    ++ (codes " say `" ++ (walk_words wrong.found ++ (codes "`, but after " ++ (updates_text wrong.applied
    ++ (codes " the address space says `" ++ (answer_text wrong.wanted ++ codes "`.")))))))))

-- the sentence of the evidence
unfoldable pub sentence_text : Evidence → List ℕ
sentence_text (evidence.Format bad) = bad_unit_sentence bad
sentence_text (evidence.ThreadOpen calls) = open_sentence calls
sentence_text (evidence.NoSuchCall stray) = stray_reply_sentence stray
sentence_text (evidence.AnsweredTwice replies) = two_replies_sentence replies
sentence_text (evidence.NotAnUpdate wrong) = no_update_sentence wrong
sentence_text (evidence.PlacedTwice places) = two_places_sentence places
sentence_text (evidence.NotPlaced wrong) = misplaced_sentence wrong
sentence_text (evidence.PastLog wrong) = past_end_sentence wrong
sentence_text (evidence.Early early) = early_sentence early
sentence_text (evidence.WrongAnswer wrong) = other_answer_sentence wrong
sentence_text (evidence.PrefixPastLog wrong) = long_prefix_sentence wrong
sentence_text (evidence.PrefixShort wrong) = short_prefix_sentence wrong
sentence_text (evidence.MissingFrame wrong) = missing_sentence wrong
sentence_text (evidence.SharedFrame wrong) = shared_sentence wrong
sentence_text (evidence.ReservedBit wrong) = reserved_sentence wrong
sentence_text (evidence.StrayFrame wrong) = stray_sentence wrong
sentence_text (evidence.Differs wrong) = difference_sentence wrong
