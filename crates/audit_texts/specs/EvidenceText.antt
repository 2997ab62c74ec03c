-- The texts of facts that show a fault: calls, replies, entries of tables, units of a trace.
use Rattle.std.specs.Prelude.{ℕ, ◌/◌, ◌%◌, ◌==◌, ◌++◌, false, List, [], ◌∷◌, take, codes, decimal, flat_map, if◌then◌else◌, Option, Some, None}
use Rattle.std.specs.Fmt.{digits}
use Rattle.vs_types.specs.declared.addresses.access.Access.{Access}
use Rattle.vs_types.specs.declared.addresses.access.Mode.{Mode}
use Rattle.vs_types.specs.declared.addresses.page.Size.{Size}
use Rattle.vs_text.specs.Requests.{request_text}
use Rattle.vs_text.specs.Words.{access_text, hexadecimal, mode_text, size_text, space}
use Rattle.nr_trace.specs.declared.recordings.event.Event.{Event}
use Rattle.nr_trace.specs.declared.recordings.event.Event.TheVariants.{Call, Reply}
use Rattle.nr_trace.specs.declared.recordings.event.Asked.{Asked}
use Rattle.nr_trace.specs.declared.recordings.event.Asked.TheVariants as askeds
use Rattle.nr_trace.specs.declared.refusals.fault.Format.{Format}
use Rattle.nr_trace.specs.declared.refusals.fault.Format.TheVariants as formats
use Rattle.nr_trace.specs.declared.refusals.refusal.TraceUnit.{TraceUnit}
use Rattle.nr_trace.specs.declared.refusals.refusal.TraceUnit.TheVariants as units
use Rattle.nr_explain.specs.declared.chain.evidence.OpenUpdate.{OpenUpdate}
use Rattle.nr_explain.specs.declared.trace.evidence.RecordedCall.{RecordedCall}
use Rattle.nr_explain.specs.declared.trace.evidence.RecordedReply.{RecordedReply}
use Rattle.nr_explain.specs.declared.trace.evidence.PlacedUpdate.{PlacedUpdate}
use Rattle.nr_explain.specs.declared.trace.evidence.TableEntry.{TableEntry}
use Rattle.audit_texts.specs.Text.{answer_text, line_end}

-- what a touch asks, which a script has not: in the words of an access
abbrev pub touch_text : ℕ → Mode → Access → List ℕ
touch_text address mode access = codes "touch " ++ (mode_text mode ++ (space ++ (access_text access ++ (space ++ hexadecimal address))))

-- what a release gives away: how much memory, and from which physical address on
abbrev pub release_text : Size → ℕ → List ℕ
release_text size phys = codes "release " ++ (size_text size ++ (space ++ hexadecimal phys))

-- what is asked, in the words of a script; of a touch and of a release, which a script has not, in those of an access and of a map
unfoldable pub asked_text : Asked → List ℕ
asked_text (askeds.Request request) = request_text request
asked_text (askeds.Touch address mode access) = touch_text address mode access
asked_text (askeds.Release size phys) = release_text size phys

-- the line of a call: its number, its thread, its replica and what it asks
unfoldable pub call_line : RecordedCall → List ℕ
call_line call = codes "call " ++ (decimal call.event ++ (codes ", thread " ++ (decimal call.thread ++ (codes ", replica " ++ (decimal call.replica
    ++ (codes ": " ++ (asked_text call.asked ++ line_end)))))))

-- the line of a reply: its event, the call that it answers, its `at` and its answer
unfoldable pub reply_line : RecordedReply → List ℕ
reply_line reply = codes "reply " ++ (decimal reply.event ++ (codes " to call " ++ (decimal reply.call ++ (codes ", at " ++ (decimal reply.at
    ++ (codes ": " ++ (answer_text reply.answer ++ line_end)))))))

-- the line of the reply to a call, if there is one
unfoldable pub own_line : Option RecordedReply → List ℕ
own_line None = codes "no reply to it\n"
own_line (Some reply) = reply_line reply

-- the line of the event that a number names, if there is one
unfoldable pub event_line : ℕ → Option Event → List ℕ
event_line number None = codes "event " ++ (decimal number ++ codes ": none\n")
event_line number (Some (Call replica thread asked)) =
    call_line record { event = number; replica = replica; thread = thread; asked = asked }
event_line number (Some (Reply call at answer)) = reply_line record { event = number; call = call; at = at; answer = answer }

-- a number, if there is one
unfoldable pub option_text : Option ℕ → List ℕ
option_text None = codes "none"
option_text (Some number) = decimal number

-- the last update that changed how an address looks, to the end of its line
unfoldable pub changed_line : Option PlacedUpdate → List ℕ
changed_line None = codes "last changed by: none\n"
changed_line (Some update) = codes "last changed by place " ++ (decimal update.place ++ (codes ", " ++ call_line update.call))

-- the update that takes away that an address leads somewhere, and the reply to it
unfoldable pub taken_lines : OpenUpdate → List ℕ
taken_lines taken = codes "taken away by place " ++ (decimal taken.update.place ++ (codes ", " ++ (call_line taken.update.call ++ own_line taken.reply)))

-- the line of an entry of a table
unfoldable pub step_line : TableEntry → List ℕ
step_line step = codes "level " ++ (decimal step.level ++ (codes ", frame " ++ (hexadecimal step.frame ++ (codes ", index " ++ (decimal step.index
    ++ (codes ": " ++ (hexadecimal step.word ++ line_end)))))))

-- the lines of entries
abbrev pub steps_lines : List TableEntry → List ℕ
steps_lines steps = flat_map step_line steps

-- the lines of the entries on a way from the root; the way to the root itself has none
unfoldable pub way_lines : List TableEntry → List ℕ
way_lines [] = codes "it is the root\n"
way_lines (step ∷ steps) = steps_lines (step ∷ steps)

-- what is reserved in an entry of this level that has a reserved bit set
unfoldable pub reserved_text : ℕ → List ℕ
reserved_text level =
    if level == 2 then codes "bits 13 to 20 are reserved in an entry that maps 2M"
    else if level == 3 then codes "bits 13 to 29 are reserved in an entry that maps 1G"
    else codes "bit 7 is reserved in an entry of level " ++ decimal level

-- what is allowed there
unfoldable pub format_lines : Format → List ℕ
format_lines formats.Truncated = codes "the bytes end before the last unit does\n"
format_lines formats.BadMagic = codes "bytes 0 to 3 are NRVT\n"
format_lines formats.BadVersion = codes "bytes 4 and 5 are the version, 1 or 2\n"
format_lines formats.BadCount =
    codes "levels 4 (version 2: or 5), replicas 1 to 4, threads 1 to 64, tables 1 to 4096, places to 65536, events to 131072, frames 1 to 4096\n"
format_lines formats.BadChain = codes "levels, replicas, threads and tables are those of the segment before\n"
format_lines (formats.BadStart index) =
    codes "start, frame " ++ (decimal index ++ codes ": its number is above the one before it, and below 0x10000000000\n")
format_lines (formats.BadEvent index) = codes "event " ++ (decimal index ++ codes ": 24 bytes that spell no call and no reply here\n")
format_lines (formats.BadFrame replica index) =
    codes "replica " ++ (decimal replica ++ (codes ", frame " ++ (decimal index
    ++ codes ": its number is above the one before it, and below 0x10000000000\n")))
format_lines formats.Trailing = codes "nothing stands after the last unit\n"

-- which unit of a trace or of a segment it is
unfoldable pub unit_text : TraceUnit → List ℕ
unit_text units.Magic = codes "magic"
unit_text units.Version = codes "version"
unit_text units.Counts = codes "counts"
unit_text units.SegmentCounts = codes "counts"
unit_text units.StartRoot = codes "root of the start"
unit_text (units.StartNumber index) = codes "number of frame " ++ (decimal index ++ codes " of the start")
unit_text (units.StartWords index) = codes "words of frame " ++ (decimal index ++ codes " of the start")
unit_text (units.Place place) = codes "place " ++ decimal place
unit_text (units.Event index) = codes "event " ++ decimal index
unit_text (units.DumpHead replica) = codes "head of dump " ++ decimal replica
unit_text (units.FrameNumber replica index) = codes "number of frame " ++ (decimal index ++ (codes " of dump " ++ decimal replica))
unit_text (units.FrameWords replica index) = codes "words of frame " ++ (decimal index ++ (codes " of dump " ++ decimal replica))
unit_text units.Behind = codes "behind the last unit"

-- two lower case digits for each byte
abbrev pub byte_text : ℕ → List ℕ
byte_text byte = digits 16 false (byte / 16) ++ digits 16 false (byte % 16)

-- the first bytes, at most 24: a whole unit, but for the words of a frame
abbrev pub bytes_text : List ℕ → List ℕ
bytes_text bytes = flat_map byte_text (take 24 bytes)

-- what was read of a unit, if anything was
unfoldable pub read_text : List ℕ → List ℕ
read_text [] = codes "none"
read_text (byte ∷ bytes) = bytes_text (byte ∷ bytes)
