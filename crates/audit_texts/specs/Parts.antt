-- What is said of a fault, as a list of parts: words, and facts with their names. One walk makes lines of it, another a JSON object.
use Rattle.std.specs.Prelude.{ℕ, ◌++◌, List, [], codes, decimal, flat_map, fold, Option}
use Rattle.serde_json.specs.Data.{Data, Members, no_members, null, object, put, string}
use Rattle.vs_types.specs.declared.requests.answer.Answer.{Answer}
use Rattle.vs_text.specs.Words.{hexadecimal}
use Rattle.vs_walk.specs.declared.walk.Walk.{Walk}
use Rattle.nr_trace.specs.declared.recordings.event.Event.{Event}
use Rattle.nr_trace.specs.declared.refusals.fault.Format.{Format}
use Rattle.nr_trace.specs.declared.refusals.refusal.TraceUnit.{TraceUnit}
use Rattle.nr_explain.specs.declared.trace.evidence.RecordedCall.{RecordedCall}
use Rattle.nr_explain.specs.declared.trace.evidence.RecordedReply.{RecordedReply}
use Rattle.nr_explain.specs.declared.trace.evidence.PlacedUpdate.{PlacedUpdate}
use Rattle.nr_explain.specs.declared.trace.evidence.TableEntry.{TableEntry}
use Rattle.nr_explain.specs.declared.chain.evidence.MissedUpdate.{MissedUpdate}
use Rattle.nr_explain.specs.declared.chain.evidence.OpenUpdate.{OpenUpdate}
use Rattle.nr_explain.specs.declared.trace.nearby.NamedMemory.{NamedMemory}
use Rattle.nr_explain.specs.declared.trace.nearby.RightAfter.{RightAfter}
use Rattle.audit_texts.specs.Text.{answer_text, format_text, walk_words}
use Rattle.audit_texts.specs.EvidenceText.{bytes_text, call_line, changed_line, event_line, format_lines, option_text, own_line}
use Rattle.audit_texts.specs.EvidenceText.{read_text, reply_line, reserved_text, step_line, steps_lines, taken_lines, unit_text, way_lines}
use Rattle.audit_texts.specs.EvidenceJson.{call_data, changed_data, event_data, number_data, option_data, own_data, reply_data, step_data}
use Rattle.audit_texts.specs.EvidenceJson.{taken_data, way_data}
use Rattle.audit_texts.specs.NearbyText.{later_line, memory_data, memory_line, missed_data, missed_lines, open_data, open_lines, right_data, right_text}
use Rattle.audit_texts.specs.declared.lines.parts.Says.{Says as Spoken}
use Rattle.audit_texts.specs.declared.lines.parts.Says.TheVariants as spoken
use Rattle.audit_texts.specs.declared.lines.parts.Part.{Part as Spelled}
use Rattle.audit_texts.specs.declared.lines.parts.Part.TheVariants.{Words, InLines, InBoth, InJson}

-- what a fact says
pub data Says : Type 0 where
  nothing : Says
  call : RecordedCall → Says
  reply : RecordedReply → Says
  own : Option RecordedReply → Says
  event : ℕ → Option Event → Says
  changed : Option PlacedUpdate → Says
  taken : OpenUpdate → Says
  step : TableEntry → Says
  steps : List TableEntry → Says
  way : List TableEntry → Says
  count : ℕ → Says
  place : Option ℕ → Says
  frame : ℕ → Says
  address : ℕ → Says
  answer : Answer → Says
  walk : Walk → Says
  unit : TraceUnit → Says
  bytes : List ℕ → Says
  allowed : Format → Says
  reserved : ℕ → Says
  text : List ℕ → Says
  right : RightAfter → Says
  memory : Option NamedMemory → Says
  missed : Option MissedUpdate → Says
  still_open : Option OpenUpdate → Says
  later : Option PlacedUpdate → Says

-- the text of a fact, as it comes in the lines
unfoldable pub says_text : Says → List ℕ
says_text nothing = codes "none"
says_text (call it) = call_line it
says_text (reply it) = reply_line it
says_text (own it) = own_line it
says_text (event number it) = event_line number it
says_text (changed it) = changed_line it
says_text (taken it) = taken_lines it
says_text (step it) = step_line it
says_text (steps it) = steps_lines it
says_text (way it) = way_lines it
says_text (count it) = decimal it
says_text (place it) = option_text it
says_text (frame it) = hexadecimal it
says_text (address it) = hexadecimal it
says_text (answer it) = answer_text it
says_text (walk it) = walk_words it
says_text (unit it) = unit_text it
says_text (bytes it) = read_text it
says_text (allowed it) = format_lines it
says_text (reserved it) = reserved_text it
says_text (text it) = it
says_text (right it) = right_text it
says_text (memory it) = memory_line it
says_text (missed it) = missed_lines it
says_text (still_open it) = open_lines it
says_text (later it) = later_line it

-- the value of a fact, as it comes in JSON
unfoldable pub says_data : Says → Data
says_data nothing = null
says_data (call it) = call_data it
says_data (reply it) = reply_data it
says_data (own it) = own_data it
says_data (event number it) = event_data number it
says_data (changed it) = changed_data it
says_data (taken it) = taken_data it
says_data (step it) = step_data it
says_data (steps it) = way_data it
says_data (way it) = way_data it
says_data (count it) = number_data it
says_data (place it) = option_data it
says_data (frame it) = number_data it
says_data (address it) = string (hexadecimal it)
says_data (answer it) = string (answer_text it)
says_data (walk it) = string (walk_words it)
says_data (unit it) = string (unit_text it)
says_data (bytes it) = string (bytes_text it)
says_data (allowed it) = string (format_text it)
says_data (reserved it) = string (reserved_text it)
says_data (text it) = string it
says_data (right it) = right_data it
says_data (memory it) = memory_data it
says_data (missed it) = missed_data it
says_data (still_open it) = open_data it
says_data (later it) = changed_data it

-- a part of what is printed: words in the lines alone, or a fact in the lines, in both or in JSON, with its name there
pub data Part : Type 0 where
  words : List ℕ → Part
  in_lines : Says → Part
  in_both : List ℕ → Says → Part
  in_json : List ℕ → Says → Part

-- the text of a part in the lines
abbrev pub part_text : Part → List ℕ
part_text (words it) = it
part_text (in_lines it) = says_text it
part_text (in_both name it) = says_text it
part_text (in_json name it) = []

-- the parts one after the other
abbrev pub parts_text : List Part → List ℕ
parts_text parts = flat_map part_text parts

-- the members with that of a part
abbrev pub put_part : Members → Part → Members
put_part members (words it) = members
put_part members (in_lines it) = members
put_part members (in_both name it) = put name (says_data it) members
put_part members (in_json name it) = put name (says_data it) members

-- the object with the members of all parts
abbrev pub parts_data : List Part → Data
parts_data parts = object (fold put_part no_members parts)

-- what takes parts has: lines, or the members of an object
pub data Put : Type 0 where
  lines : List ℕ → Put
  members : Members → Put

-- with these parts behind
unfoldable pub put_all : List Part → Put → Put
put_all parts (lines it) = lines (it ++ parts_text parts)
put_all parts (members them) = members (fold put_part them parts)

-- what the values of the code are
abbrev pub says_of : Spoken → Says
says_of spoken.Nothing = nothing
says_of (spoken.Call it) = call it
says_of (spoken.Reply it) = reply it
says_of (spoken.Own it) = own it
says_of (spoken.Event number it) = event number it
says_of (spoken.Changed it) = changed it
says_of (spoken.Taken it) = taken it
says_of (spoken.Step it) = step it
says_of (spoken.Steps it) = steps it.now
says_of (spoken.Way it) = way it.now
says_of (spoken.Count it) = count it
says_of (spoken.Place it) = place it
says_of (spoken.Frame it) = frame it
says_of (spoken.Address it) = address it
says_of (spoken.Answer it) = answer it
says_of (spoken.Walk it) = walk it
says_of (spoken.Unit it) = unit it
says_of (spoken.Bytes it) = bytes it.now
says_of (spoken.Allowed it) = allowed it
says_of (spoken.Reserved it) = reserved it
says_of (spoken.Text it) = text it.now
says_of (spoken.Right it) = right it
says_of (spoken.Memory it) = memory it
says_of (spoken.Missed it) = missed it
says_of (spoken.Open it) = still_open it
says_of (spoken.Later it) = later it

-- the part that a value of the code is
abbrev pub part_of : Spelled → Part
part_of (Words it) = words it.now
part_of (InLines it) = in_lines (says_of it)
part_of (InBoth name it) = in_both name.now (says_of it)
part_of (InJson name it) = in_json name.now (says_of it)
