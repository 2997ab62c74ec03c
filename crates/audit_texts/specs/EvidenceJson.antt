-- The facts that show a fault as JSON: an object has its members by their names in the order of the alphabet.
use Rattle.std.specs.Prelude.{ℕ, List, codes, map, Option, Some, None}
use Rattle.serde_json.specs.Data.{Data, array, member, no_members, null, number, object, string, unsigned}
use Rattle.serde_json.specs.View.{items_of}
use Rattle.nr_trace.specs.declared.recordings.event.Event.{Event}
use Rattle.nr_trace.specs.declared.recordings.event.Event.TheVariants.{Call, Reply}
use Rattle.nr_explain.specs.declared.chain.evidence.OpenUpdate.{OpenUpdate}
use Rattle.nr_explain.specs.declared.trace.evidence.RecordedCall.{RecordedCall}
use Rattle.nr_explain.specs.declared.trace.evidence.RecordedReply.{RecordedReply}
use Rattle.nr_explain.specs.declared.trace.evidence.PlacedUpdate.{PlacedUpdate}
use Rattle.nr_explain.specs.declared.trace.evidence.TableEntry.{TableEntry}
use Rattle.vs_text.specs.Words.{hexadecimal}
use Rattle.audit_texts.specs.Text.{answer_text}
use Rattle.audit_texts.specs.EvidenceText.{asked_text}

-- a number, as a number of JSON
abbrev pub number_data : ℕ → Data
number_data n = number (unsigned n)

-- a number, or null where there is none
abbrev pub option_data : Option ℕ → Data
option_data None = null
option_data (Some n) = number_data n

-- a recorded call, as a JSON object
abbrev pub call_data : RecordedCall → Data
call_data call = object
    (member (codes "event") (number_data call.event)
    (member (codes "replica") (number_data call.replica)
    (member (codes "request") (string (asked_text call.asked))
    (member (codes "thread") (number_data call.thread) no_members))))

-- a recorded reply, as a JSON object
abbrev pub reply_data : RecordedReply → Data
reply_data reply = object
    (member (codes "answer") (string (answer_text reply.answer))
    (member (codes "at") (number_data reply.at)
    (member (codes "call") (number_data reply.call)
    (member (codes "event") (number_data reply.event) no_members))))

-- the reply to a call, or null
abbrev pub own_data : Option RecordedReply → Data
own_data None = null
own_data (Some reply) = reply_data reply

-- the event that a number names: a call, a touch, a release, a reply, or null
abbrev pub event_data : ℕ → Option Event → Data
event_data index None = null
event_data index (Some (Call replica thread asked)) = call_data record { event = index; replica = replica; thread = thread; asked = asked }
event_data index (Some (Reply call at answer)) = reply_data record { event = index; call = call; at = at; answer = answer }

-- an update and its place, or null
abbrev pub changed_data : Option PlacedUpdate → Data
changed_data None = null
changed_data (Some update) = object
    (member (codes "call") (call_data update.call)
    (member (codes "place") (number_data update.place) no_members))

-- the update that takes away that an address leads somewhere, its place, and the reply to it
abbrev pub taken_data : OpenUpdate → Data
taken_data taken = object
    (member (codes "call") (call_data taken.update.call)
    (member (codes "place") (number_data taken.update.place)
    (member (codes "reply") (own_data taken.reply) no_members)))

-- an entry of a table
abbrev pub step_data : TableEntry → Data
step_data step = object
    (member (codes "frame") (number_data step.frame)
    (member (codes "index") (number_data step.index)
    (member (codes "level") (number_data step.level)
    (member (codes "word") (string (hexadecimal step.word)) no_members))))

-- the entries on a way
abbrev pub way_data : List TableEntry → Data
way_data steps = array (items_of (map step_data steps))
