-- What shows a fault, each fact of it, and how much a right trace has; the lines and the JSON object of it.
use Rattle.std.specs.Prelude.{ℕ, ◌++◌, List, [], ◌∷◌, codes, length, Option}
use Rattle.serde_json.specs.Data.{Data}
use Rattle.vs_types.specs.declared.requests.answer.Answer.{Answer}
use Rattle.vs_walk.specs.declared.walk.Walk.{Walk}
use Rattle.nr_trace.specs.FirstFault.{unit_size}
use Rattle.nr_explain.specs.declared.trace.counts.Counts.{Counts}
use Rattle.nr_explain.specs.declared.units.BadUnit.{BadUnit}
use Rattle.nr_explain.specs.declared.trace.evidence.PlacedUpdate.{PlacedUpdate}
use Rattle.nr_explain.specs.declared.trace.evidence.TableEntry.{TableEntry}
use Rattle.nr_explain.specs.declared.trace.evidence.OpenCalls.{OpenCalls}
use Rattle.nr_explain.specs.declared.trace.evidence.StrayReply.{StrayReply}
use Rattle.nr_explain.specs.declared.trace.evidence.TwoReplies.{TwoReplies}
use Rattle.nr_explain.specs.declared.trace.evidence.NoUpdate.{NoUpdate}
use Rattle.nr_explain.specs.declared.trace.evidence.TwoPlaces.{TwoPlaces}
use Rattle.nr_explain.specs.declared.trace.evidence.Misplaced.{Misplaced}
use Rattle.nr_explain.specs.declared.trace.evidence.PastEnd.{PastEnd}
use Rattle.nr_explain.specs.declared.trace.evidence.EarlyCall.{EarlyCall}
use Rattle.nr_explain.specs.declared.trace.evidence.OtherAnswer.{OtherAnswer}
use Rattle.nr_explain.specs.declared.trace.nearby.NamedMemory.{NamedMemory}
use Rattle.nr_explain.specs.declared.trace.nearby.RightAfter.{RightAfter}
use Rattle.nr_explain.specs.declared.trace.evidence.LongPrefix.{LongPrefix}
use Rattle.nr_explain.specs.declared.trace.evidence.ShortPrefix.{ShortPrefix}
use Rattle.nr_explain.specs.declared.trace.evidence.MissingTable.{MissingTable}
use Rattle.nr_explain.specs.declared.trace.evidence.Owner.{Owner}
use Rattle.nr_explain.specs.declared.trace.evidence.Owner.TheVariants.{Dump, Start}
use Rattle.nr_explain.specs.declared.trace.evidence.SharedTable.{SharedTable}
use Rattle.nr_explain.specs.declared.trace.evidence.ReservedEntry.{ReservedEntry}
use Rattle.nr_explain.specs.declared.trace.evidence.StrayTable.{StrayTable}
use Rattle.nr_explain.specs.declared.trace.evidence.Difference.{Difference}
use Rattle.nr_explain.specs.declared.trace.evidence.Evidence.{Evidence}
use Rattle.nr_explain.specs.declared.trace.evidence.Evidence.TheVariants as evidence
use Rattle.audit_texts.specs.Text.{line_end}
use Rattle.audit_texts.specs.Owners.{of_owner}
use Rattle.audit_texts.specs.Parts.{Part, in_both, in_json, in_lines, words, parts_data, parts_text}
use Rattle.audit_texts.specs.Parts.{address, allowed, answer, bytes, call, changed, count, event, frame, own, place, reply, reserved, step, steps, text, unit}
use Rattle.audit_texts.specs.Parts.{memory, right, walk, way}

-- the name of the fault
abbrev pub fault_is : List ℕ → Part
fault_is name = in_json (codes "fault") (text name)

-- what was read of a unit of this size, behind its name
unfoldable pub read_parts : ℕ → List ℕ → ℕ → List Part
read_parts offset read size = words (codes ", at byte ") ∷ in_both (codes "offset") (count offset) ∷ words (codes "\nread ")
    ∷ in_both (codes "there") (count (length read)) ∷ words (codes " of ") ∷ in_both (codes "size") (count size) ∷ words (codes " bytes: ")
    ∷ in_both (codes "read") (bytes read) ∷ words line_end ∷ []

-- a frame that isn't there, and the way to it
unfoldable pub missing_frame_parts : List ℕ → List TableEntry → ℕ → List ℕ → List Part
missing_frame_parts fault path number end = fault_is fault ∷ in_both (codes "path") (way path) ∷ words (codes "frame ")
    ∷ in_both (codes "frame") (frame number) ∷ words end ∷ []

-- a frame to which tables lead twice, and the ways to it
unfoldable pub shared_frame_parts : List ℕ → List TableEntry → List TableEntry → ℕ → List Part
shared_frame_parts fault first second number = fault_is fault ∷ words (codes "one way:\n") ∷ in_both (codes "first") (way first)
    ∷ words (codes "another:\n") ∷ in_both (codes "second") (way second) ∷ in_json (codes "frame") (frame number) ∷ []

-- an entry with a reserved bit set, and the way to it
unfoldable pub reserved_entry_parts : List ℕ → List TableEntry → TableEntry → ℕ → List Part
reserved_entry_parts fault path entry bit = fault_is fault ∷ in_both (codes "path") (steps path) ∷ in_both (codes "entry") (step entry)
    ∷ words (codes "bit ") ∷ in_both (codes "bit") (count bit) ∷ words (codes " is set: ") ∷ in_lines (reserved entry.level)
    ∷ words line_end ∷ []

-- a frame to which no table leads
unfoldable pub stray_frame_parts : List ℕ → ℕ → List Part
stray_frame_parts fault number = fault_is fault ∷ words (codes "no table leads to frame ") ∷ in_both (codes "frame") (frame number)
    ∷ words line_end ∷ []

-- a wrong answer, and the one of the space, up to the address
unfoldable pub answer_parts : OtherAnswer → List Part
answer_parts wrong = fault_is (codes "WrongAnswer") ∷ in_both (codes "call") (call wrong.call) ∷ in_both (codes "reply") (reply wrong.reply)
    ∷ words (codes "the space answers: ") ∷ in_both (codes "wanted") (answer wrong.wanted) ∷ words (codes "\naddress ")
    ∷ in_both (codes "address") (address wrong.address) ∷ []

-- what is near a wrong answer, behind its address
unfoldable pub nearby_parts : RightAfter → Option NamedMemory → List Part
nearby_parts found named = words (codes "right after: ") ∷ in_both (codes "right") (right found) ∷ words line_end
    ∷ in_both (codes "memory") (memory named) ∷ []

-- how tables translate an address, and how it looks in the space, up to the address
unfoldable pub look_parts : Walk → List TableEntry → Answer → ℕ → List Part
look_parts found path wanted at = in_both (codes "found") (walk found) ∷ words line_end ∷ in_both (codes "path") (steps path)
    ∷ words (codes "the space: ") ∷ in_both (codes "wanted") (answer wanted) ∷ words (codes "\naddress ")
    ∷ in_both (codes "address") (address at) ∷ []

-- how a dump translates an address and the space doesn't, up to the address
unfoldable pub unlike_parts : Difference → List Part
unlike_parts wrong = (fault_is (codes "Differs") ∷ in_json (codes "replica") (count wrong.replica) ∷ words (codes "applied: ")
    ∷ in_both (codes "applied") (count wrong.applied) ∷ words (codes "\nthe dump: ") ∷ [])
    ++ look_parts wrong.found wrong.path.items wrong.wanted wrong.address

-- the last change of an address, behind the address
unfoldable pub changed_parts : Option PlacedUpdate → List Part
changed_parts update = words (codes ", ") ∷ in_both (codes "changed") (changed update) ∷ []

-- the replica of a dump
unfoldable pub replica_parts : ℕ → List Part
replica_parts replica = in_json (codes "replica") (count replica) ∷ []

-- the same of the tables of a dump; of a start nothing
unfoldable pub owner_parts : Owner → List Part
owner_parts (Dump replica) = replica_parts replica
owner_parts Start = []

-- the parts on a bad unit
unfoldable pub bad_unit_parts : BadUnit → List Part
bad_unit_parts bad = ((fault_is (codes "Format") ∷ in_both (codes "unit") (unit bad.unit) ∷ [])
    ++ read_parts bad.offset bad.read.items (unit_size bad.unit)) ++ (in_both (codes "format") (allowed bad.fault) ∷ [])

-- the parts on two calls of one thread that are open at once
unfoldable pub open_parts : OpenCalls → List Part
open_parts calls = fault_is (codes "ThreadOpen") ∷ in_both (codes "first") (call calls.first)
    ∷ in_both (codes "second") (call calls.second) ∷ []

-- the parts on a reply to no earlier call
unfoldable pub stray_reply_parts : StrayReply → List Part
stray_reply_parts stray = fault_is (codes "NoSuchCall") ∷ in_both (codes "reply") (reply stray.reply)
    ∷ in_both (codes "named") (event stray.reply.call stray.named) ∷ []

-- the parts on two replies to a call
unfoldable pub two_replies_parts : TwoReplies → List Part
two_replies_parts replies = fault_is (codes "AnsweredTwice") ∷ in_both (codes "call") (call replies.call)
    ∷ in_both (codes "first") (reply replies.first) ∷ in_both (codes "second") (reply replies.second) ∷ []

-- the parts on a place that has no update
unfoldable pub no_update_parts : NoUpdate → List Part
no_update_parts wrong = fault_is (codes "NotAnUpdate") ∷ words (codes "place ") ∷ in_both (codes "place") (count wrong.place)
    ∷ words (codes " has ") ∷ in_both (codes "call") (count wrong.call) ∷ words line_end
    ∷ in_both (codes "named") (event wrong.call wrong.named) ∷ []

-- the parts on an update at two places
unfoldable pub two_places_parts : TwoPlaces → List Part
two_places_parts places = fault_is (codes "PlacedTwice") ∷ words (codes "places ") ∷ in_both (codes "first") (count places.first)
    ∷ words (codes " and ") ∷ in_both (codes "second") (count places.second) ∷ words line_end
    ∷ in_both (codes "call") (call places.call) ∷ []

-- the parts on a reply that names another place
unfoldable pub misplaced_parts : Misplaced → List Part
misplaced_parts wrong = fault_is (codes "NotPlaced") ∷ in_both (codes "call") (call wrong.call)
    ∷ in_both (codes "reply") (reply wrong.reply) ∷ words (codes "its place: ") ∷ in_both (codes "own") (place wrong.own)
    ∷ words (codes "\nthe call there: ") ∷ in_both (codes "there") (place wrong.there) ∷ words line_end ∷ []

-- the parts on a read that saw more entries than there are
unfoldable pub past_end_parts : PastEnd → List Part
past_end_parts wrong = fault_is (codes "PastLog") ∷ in_both (codes "call") (call wrong.call) ∷ in_both (codes "reply") (reply wrong.reply)
    ∷ words (codes "entries of the log: ") ∷ in_both (codes "places") (count wrong.places) ∷ words line_end ∷ []

-- the parts on a call that comes too early
unfoldable pub early_parts : EarlyCall → List Part
early_parts early = fault_is (codes "Early") ∷ in_both (codes "call") (call early.call) ∷ in_both (codes "own") (own early.own)
    ∷ words (codes "entries before it: ") ∷ in_both (codes "entries") (count early.entries) ∷ words (codes "\nknown when it was made: ")
    ∷ in_both (codes "floor") (count early.floor) ∷ words line_end ∷ in_both (codes "reply") (reply early.reply)
    ∷ in_both (codes "answered") (call early.answered) ∷ []

-- the parts on an answer that the space does not give
unfoldable pub other_answer_parts : OtherAnswer → List Part
other_answer_parts wrong = (answer_parts wrong ++ changed_parts wrong.changed) ++ nearby_parts wrong.right wrong.memory

-- the parts on a dump that has applied more entries than there are
unfoldable pub long_prefix_parts : LongPrefix → List Part
long_prefix_parts wrong = fault_is (codes "PrefixPastLog") ∷ words (codes "applied: ") ∷ in_both (codes "applied") (count wrong.applied)
    ∷ words (codes "\nentries of the log: ") ∷ in_both (codes "places") (count wrong.places) ∷ words line_end
    ∷ in_json (codes "replica") (count wrong.replica) ∷ []

-- the parts on a dump that has applied too few entries
unfoldable pub short_prefix_parts : ShortPrefix → List Part
short_prefix_parts wrong = fault_is (codes "PrefixShort") ∷ words (codes "applied: ") ∷ in_both (codes "applied") (count wrong.applied)
    ∷ words (codes "\nknown there: ") ∷ in_both (codes "known") (count wrong.known) ∷ words line_end
    ∷ in_both (codes "reply") (reply wrong.reply) ∷ in_both (codes "call") (call wrong.call)
    ∷ in_json (codes "replica") (count wrong.replica) ∷ []

-- the parts on a frame that is missing
unfoldable pub missing_parts : MissingTable → List Part
missing_parts wrong = missing_frame_parts (of_owner wrong.owner (codes "MissingFrame") (codes "StartMissing")) wrong.path.items wrong.frame
    (of_owner wrong.owner (codes ", which the dump doesn't have\n") (codes ", which the start doesn't have\n")) ++ owner_parts wrong.owner

-- the parts on a frame that is reached twice
unfoldable pub shared_parts : SharedTable → List Part
shared_parts wrong = shared_frame_parts (of_owner wrong.owner (codes "SharedFrame") (codes "StartShared")) wrong.first.items wrong.second.items wrong.frame
    ++ owner_parts wrong.owner

-- the parts on an entry with a reserved bit set
unfoldable pub reserved_parts : ReservedEntry → List Part
reserved_parts wrong = reserved_entry_parts (of_owner wrong.owner (codes "ReservedBit") (codes "StartReserved")) wrong.path.items wrong.entry wrong.bit
    ++ owner_parts wrong.owner

-- the parts on a frame that is not reached
unfoldable pub stray_parts : StrayTable → List Part
stray_parts wrong = stray_frame_parts (codes "StrayFrame") wrong.frame ++ replica_parts wrong.replica

-- the parts on an address that is translated otherwise
unfoldable pub difference_parts : Difference → List Part
difference_parts wrong = unlike_parts wrong ++ changed_parts wrong.changed

-- the facts of the evidence
unfoldable pub evidence_parts : Evidence → List Part
evidence_parts (evidence.Format bad) = bad_unit_parts bad
evidence_parts (evidence.ThreadOpen calls) = open_parts calls
evidence_parts (evidence.NoSuchCall stray) = stray_reply_parts stray
evidence_parts (evidence.AnsweredTwice replies) = two_replies_parts replies
evidence_parts (evidence.NotAnUpdate wrong) = no_update_parts wrong
evidence_parts (evidence.PlacedTwice places) = two_places_parts places
evidence_parts (evidence.NotPlaced wrong) = misplaced_parts wrong
evidence_parts (evidence.PastLog wrong) = past_end_parts wrong
evidence_parts (evidence.Early early) = early_parts early
evidence_parts (evidence.WrongAnswer wrong) = other_answer_parts wrong
evidence_parts (evidence.PrefixPastLog wrong) = long_prefix_parts wrong
evidence_parts (evidence.PrefixShort wrong) = short_prefix_parts wrong
evidence_parts (evidence.MissingFrame wrong) = missing_parts wrong
evidence_parts (evidence.SharedFrame wrong) = shared_parts wrong
evidence_parts (evidence.ReservedBit wrong) = reserved_parts wrong
evidence_parts (evidence.StrayFrame wrong) = stray_parts wrong
evidence_parts (evidence.Differs wrong) = difference_parts wrong

-- the lines of the evidence
abbrev pub evidence_text : Evidence → List ℕ
evidence_text shown = parts_text (evidence_parts shown)

-- the evidence as JSON
abbrev pub evidence_data : Evidence → Data
evidence_data shown = parts_data (evidence_parts shown)

-- how much a right trace has
unfoldable pub counts_parts : Counts → List Part
counts_parts counts = words (codes "calls: ") ∷ in_both (codes "calls") (count counts.calls) ∷ words (codes "\nupdates: ")
    ∷ in_both (codes "updates") (count counts.updates) ∷ words (codes "\nreads: ") ∷ in_both (codes "reads") (count counts.reads)
    ∷ words (codes "\nreplicas: ") ∷ in_both (codes "replicas") (count counts.replicas) ∷ words (codes "\npages: ")
    ∷ in_both (codes "pages") (count counts.pages) ∷ words (codes "\noverlapping calls: ")
    ∷ in_both (codes "overlapping") (count counts.overlapping) ∷ words line_end ∷ []

-- the counts of a right trace, as lines
abbrev pub counts_lines : Counts → List ℕ
counts_lines counts = parts_text (counts_parts counts)

-- the counts of a right trace, as a JSON object
abbrev pub counts_data : Counts → Data
counts_data counts = parts_data (counts_parts counts)
