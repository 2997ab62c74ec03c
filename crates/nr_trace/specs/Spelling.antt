-- How a trace or a segment is spelled, unit by unit. All numbers are big-endian, and a field that is not used is 0.
use Rattle.std.specs.Prelude.{◌≡◌, ℕ, ◌++◌, List, [], length, codes, flat_map, Option, None, Some}
use Rattle.std.specs.Int.{w8, w16, w32, w64, to_be_bytes}
use Rattle.std.specs.FinMap as finite
use Rattle.vs_types.specs.Config.{Layout}
use Rattle.vs_types.specs.Depth.{levels}
use Rattle.vs_types.specs.Codes.{size_code, rights_code, answer_code}
use Rattle.vs_types.specs.Fields.{request_fields}
use Rattle.vs_types.specs.declared.addresses.page.Size.{Size}
use Rattle.vs_types.specs.declared.addresses.page.Rights.{Rights}
use Rattle.vs_types.specs.declared.requests.answer.Answer.{Answer}
use Rattle.vs_types.specs.declared.requests.answer.Answer.TheVariants.{Done, Overlap, Full, Removed, NotMapped, Inside, Changed, Mapped, Allowed, Fault}
use Rattle.vs_walk.specs.Dump.{Image}
use Rattle.nr_trace.specs.Versions.{version_code, Follows, IsVersionOf}
use Rattle.nr_trace.specs.Recording.{Recording, IsRecording, start_frames}
use Rattle.nr_trace.specs.declared.formats.version.Version.{Version}
use Rattle.nr_trace.specs.declared.formats.version.Version.TheVariants.{Segment}
use Rattle.nr_trace.specs.declared.formats.version.Form.{Form}
use Rattle.nr_trace.specs.declared.formats.version.Form.TheVariants as forms
use Rattle.vs_types.specs.declared.addresses.access.Access.{Access}
use Rattle.vs_types.specs.declared.addresses.access.Mode.{Mode}
use Rattle.vs_types.specs.declared.requests.fields.RequestFields.{RequestFields}
use Rattle.vs_types.specs.declared.requests.request.Query.TheVariants as queries
use Rattle.nr_trace.specs.declared.formats.fields.Counts.{Counts}
use Rattle.nr_trace.specs.declared.formats.fields.DumpHead.{DumpHead}
use Rattle.nr_trace.specs.declared.formats.fields.AnswerFields.{AnswerFields}
use Rattle.nr_trace.specs.declared.recordings.event.Event.{Event}
use Rattle.nr_trace.specs.declared.recordings.event.Event.TheVariants.{Call, Reply}
use Rattle.nr_trace.specs.declared.recordings.event.Asked.{Asked}
use Rattle.nr_trace.specs.declared.recordings.event.Asked.TheVariants.{Request, Touch, Release}

-- the magic, 4 bytes
abbrev pub magic : Version → List ℕ
magic Segment = codes "NRVS"
magic version = codes "NRVT"

-- the version, 2 bytes
abbrev pub version_word : Version → List ℕ
version_word version = to_be_bytes w16 (version_code version)

-- 14 bytes: levels, replicas, threads, tables, places, events; and 4 of a segment: frames of the start
abbrev pub start_count : Version → ℕ → List ℕ
start_count Segment start = to_be_bytes w32 start
start_count version start = []

abbrev pub counts_front : Counts → List ℕ
counts_front numbers =
    let layout = numbers.layout in
    to_be_bytes w8 (levels layout.depth) ++ to_be_bytes w8 layout.replicas ++ to_be_bytes w16 layout.threads ++ to_be_bytes w16 layout.tables
    ++ to_be_bytes w32 numbers.places ++ to_be_bytes w32 numbers.events

abbrev pub counts : Version → Counts → List ℕ
counts version numbers = counts_front numbers ++ start_count version numbers.start

-- 4 bytes for a place of the log: its call
abbrev pub log_word : ℕ → List ℕ
log_word call = to_be_bytes w32 call

-- the fields of an answer: its code, and what it uses; the other fields are 0
abbrev pub value_fields : Answer → ℕ → AnswerFields
value_fields answer value = record { code = answer_code answer; size = 0; rights = 0; value = value }

abbrev pub page_fields : Answer → ℕ → Size → Rights → AnswerFields
page_fields answer phys size rights = record { code = answer_code answer; size = size_code size; rights = rights_code rights; value = phys }

abbrev pub answer_fields : Answer → AnswerFields
answer_fields Done = value_fields Done 0
answer_fields (Overlap base) = value_fields (Overlap base) base
answer_fields (Full need) = value_fields (Full need) need
answer_fields (Removed phys size rights) = page_fields (Removed phys size rights) phys size rights
answer_fields NotMapped = value_fields NotMapped 0
answer_fields (Inside base) = value_fields (Inside base) base
answer_fields (Changed rights) = record { code = answer_code (Changed rights); size = 0; rights = rights_code rights; value = 0 }
answer_fields (Mapped phys size rights) = page_fields (Mapped phys size rights) phys size rights
answer_fields (Allowed phys) = value_fields (Allowed phys) phys
answer_fields (Fault code) = value_fields (Fault code) code

-- the fields of a touch are those of an access, but for the kind
abbrev pub touch_fields : ℕ → Mode → Access → RequestFields
touch_fields address mode access = record (request_fields (queries.Access address mode access)) { kind = 5 }

-- the fields of a release: kind 6, the size of the memory, and where it begins
abbrev pub release_fields : Size → ℕ → RequestFields
release_fields size phys = record { kind = 6; size = size_code size; rights = 0; address = 0; physical = phys }

-- the fields of what a call asks
abbrev pub asked_fields : Asked → RequestFields
asked_fields (Request request) = request_fields request
asked_fields (Touch address mode access) = touch_fields address mode access
asked_fields (Release size phys) = release_fields size phys

-- tag 0, replica, thread, kind, size, rights, a 0, address, physical address
abbrev pub asked : ℕ → ℕ → RequestFields → List ℕ
asked replica thread fields =
    to_be_bytes w8 0 ++ to_be_bytes w8 replica ++ to_be_bytes w16 thread ++ to_be_bytes w8 fields.kind ++ to_be_bytes w8 fields.size
    ++ to_be_bytes w8 fields.rights ++ to_be_bytes w8 0 ++ to_be_bytes w64 fields.address ++ to_be_bytes w64 fields.physical

-- 24 bytes: what is asked; or tag 1, answer, size, rights, call, at, four 0, value
abbrev pub event : Event → List ℕ
event (Call replica thread what) = asked replica thread (asked_fields what)
event (Reply call at answer) =
    let fields = answer_fields answer in
    to_be_bytes w8 1 ++ to_be_bytes w8 fields.code ++ to_be_bytes w8 fields.size ++ to_be_bytes w8 fields.rights
    ++ to_be_bytes w32 call ++ to_be_bytes w32 at ++ to_be_bytes w32 0 ++ to_be_bytes w64 fields.value

-- 16 bytes: applied, how many frames, root
abbrev pub dump_head : DumpHead → List ℕ
dump_head head = to_be_bytes w32 head.applied ++ to_be_bytes w32 head.frames ++ to_be_bytes w64 head.root

-- the number of a frame, 8 bytes
abbrev pub frame_number : ℕ → List ℕ
frame_number number = to_be_bytes w64 number

-- the words of a frame, 4,096 bytes
abbrev pub frame_words : List ℕ → List ℕ
frame_words words = flat_map (to_be_bytes w64) words

-- how a dump begins
abbrev pub head_of : Image → DumpHead
head_of image = record { applied = image.applied; frames = finite.len image.frames; root = image.root }

-- each frame by rising number
abbrev pub frames : Image → List ℕ
frames image = flat_map (λ frame. frame_number frame.0 ++ frame_words frame.1) (finite.entries image.frames)

-- a head, and then the frames
abbrev pub dump : Image → List ℕ
dump image = dump_head (head_of image) ++ frames image

-- the root of a start, 8 bytes, and then its frames
abbrev pub start_units : Option Image → List ℕ
start_units None = []
start_units (Some start) = frame_number start.root ++ frames start

-- the numbers of the counts unit
abbrev pub counts_of : Recording → Counts
counts_of trace =
    record { layout = trace.layout; places = length trace.log; events = length trace.events; start = start_frames trace.start }

abbrev pub spelling : Recording → List ℕ
spelling trace =
    magic trace.version ++ version_word trace.version ++ counts trace.version (counts_of trace) ++ start_units trace.start
    ++ flat_map log_word trace.log ++ flat_map event trace.events ++ flat_map dump trace.dumps

-- the bytes spell what has this form: it is of a version of that, a further segment is laid out as the one before it, all is in range, and
-- they are its spelling
pub record SpellsAs (form : Form) (bytes : List ℕ) (trace : Recording) : Type 0 where
  pub of_form : IsVersionOf form trace.version
  pub follows : Follows form trace.layout
  pub in_range : IsRecording trace
  pub spelled : bytes ≡ spelling trace

-- the bytes spell the trace; or the segment, where the one before it has this layout
abbrev pub Spells : List ℕ → Recording → Type 0
Spells bytes trace = SpellsAs forms.Trace bytes trace

abbrev pub SpellsSegment : Option Layout → List ℕ → Recording → Type 0
SpellsSegment before bytes segment = SpellsAs (forms.Segment before) bytes segment
