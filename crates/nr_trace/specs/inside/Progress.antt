-- How far a reader has come: what it has read, and what would be wrong with the bytes ahead.
use Rattle.std.specs.Prelude.{◌≡◌, ℕ, ◌+◌, ◌*◌, ◌-◌, ◌<◌, ◌≤◌, ◌^◌, ◌++◌, nat_lt, List, [], length, flat_map, All, Option, Some, None, IfSome, Result}
use Rattle.std.specs.Prelude.{MatchResult, ⊤, if◌then◌else◌}
use Rattle.std.specs.FinMap as finite
use Rattle.vs_types.specs.Config.{IsLayoutWithin}
use Rattle.vs_types.specs.declared.limits.TheConstants.{LOG_PLACES, CALLS, FRAMES}
use Rattle.vs_types.specs.declared.requests.refusal.Fail.{Fail}
use Rattle.vs_types.specs.Refusal.{IfRefused}
use Rattle.vs_types.specs.Frame.{IsFrame}
use Rattle.vs_walk.specs.Dump.{Image}
use Rattle.nr_trace.specs.Versions.{Follows, IsVersionOf, KnowsDepth, most_frames, most_start, most_tables, most_threads}
use Rattle.nr_trace.specs.Recording.{IsEvent, IsImage, IsStart, start_frames}
use Rattle.nr_trace.specs.Spelling.{magic, version_word, counts, log_word, event, dump_head, frame_number, frame_words, frames, dump, start_units}
use Rattle.nr_trace.specs.FirstFault.{AtUnit, AtVersion, AtCounts, AtStart, AtLog, AtEvents, AtDumps, AtFrames, IsCounts, IsNext, HasRefusalAs, IsRefusedBy, OfFrames}
use Rattle.nr_trace.specs.FirstFault.{counts_bytes, counts_unit, magic_of, of_dump, of_start, refusal_at}
use Rattle.nr_trace.specs.declared.refusals.fault.Format.TheVariants.{Truncated}
use Rattle.nr_trace.specs.declared.refusals.refusal.Refusal.{Refusal}
use Rattle.nr_trace.specs.declared.refusals.refusal.TraceUnit.{TraceUnit}
use Rattle.nr_trace.specs.declared.refusals.refusal.TraceUnit.TheVariants as units
use Rattle.nr_trace.specs.declared.formats.fields.Counts.{Counts}
use Rattle.nr_trace.specs.declared.formats.version.Form.{Form}
use Rattle.nr_trace.specs.declared.reading.reader.Owner.{Owner}
use Rattle.nr_trace.specs.declared.reading.reader.Owner.TheVariants as owners
use Rattle.nr_trace.specs.declared.reading.reader.Parts.{Parts}
use Rattle.nr_trace.specs.declared.reading.reader.Opened.{Opened}
use Rattle.nr_trace.specs.declared.reading.reader.OpenFrame.{OpenFrame}
use Rattle.nr_trace.specs.declared.reading.reader.Reader.{Reader}
use Rattle.nr_trace.specs.declared.reading.reader.Reader.TheVariants.{Magic, Version, Header, Root, Log, Events, Dumps, Frame, Words}

-- how many bytes the next unit has
abbrev pub unit_bytes : Reader → Option ℕ
unit_bytes (Magic alloc form) = Some 4
unit_bytes (Version alloc form) = Some 2
unit_bytes (Header alloc form version) = Some (counts_bytes version)
unit_bytes (Root parts numbers) = Some 8
unit_bytes (Log parts places events) = Some 4
unit_bytes (Events parts events) = Some 24
unit_bytes (Dumps parts) = if nat_lt (length parts.dumps.items) parts.layout.replicas then Some 16 else None
unit_bytes (Frame parts opened last) = Some 8
unit_bytes (Words parts frame) = Some 8

-- at least one unit of this many bytes, and at most so many
pub record AreUnits (unit most bytes : ℕ) : Type 0 where
  pub count : ℕ
  pub some : 1 ≤ count
  pub few : count ≤ most
  pub all : bytes ≡ unit * count

-- so many bytes are a run
abbrev pub IsRun : Reader → ℕ → Type 0
IsRun (Magic alloc form) bytes = bytes ≡ 4
IsRun (Version alloc form) bytes = bytes ≡ 2
IsRun (Header alloc form version) bytes = bytes ≡ counts_bytes version
IsRun (Root parts numbers) bytes = bytes ≡ 8
IsRun (Log parts places events) bytes = AreUnits 4 places bytes
IsRun (Events parts events) bytes = AreUnits 24 events bytes
IsRun (Dumps parts) bytes = (length parts.dumps.items < parts.layout.replicas) × (bytes ≡ 16)
IsRun (Frame parts opened last) bytes = bytes ≡ 8
IsRun (Words parts frame) bytes = AreUnits 8 (512 - length frame.dump.coming) bytes

-- the units up to the counts
abbrev pub header_units : Counts → Parts → List ℕ
header_units numbers parts = magic parts.version ++ version_word parts.version ++ counts parts.version numbers

-- the numbers of the counts, where there are so many places and events, and so many frames of the start
abbrev pub numbers_of : ℕ → ℕ → ℕ → Parts → Counts
numbers_of start places events parts = record { layout = parts.layout; places = places; events = events; start = start }

-- the spelling of the parts, where there are so many places and events in all
abbrev pub parts_spelling : ℕ → ℕ → Parts → List ℕ
parts_spelling places events parts =
    header_units (numbers_of (start_frames parts.start) places events parts) parts ++ start_units parts.start
    ++ flat_map log_word parts.log.items ++ flat_map event parts.events.items ++ flat_map dump parts.dumps.items

abbrev pub whole_spelling : Parts → List ℕ
whole_spelling parts = parts_spelling (length parts.log.items) (length parts.events.items) parts

-- what comes before the frames of a dump, of which there are so many in all: of a start the counts and its root, of a replica's dump all
-- before it and its head
abbrev pub front_with : Parts → Owner → Image → ℕ → List ℕ
front_with parts (owners.Start places events) dump all = header_units (numbers_of all places events parts) parts ++ frame_number dump.root
front_with parts owners.Replica dump all = whole_spelling parts ++ dump_head (record { applied = dump.applied; frames = all; root = dump.root })

-- the spelling up to a dump as far as it has come, where so many frames are left
abbrev pub opened_spelling : Parts → Opened → List ℕ
opened_spelling parts opened = front_with parts opened.owner opened.dump (finite.len opened.dump.frames + opened.left) ++ frames opened.dump

-- a dump that is whole
abbrev pub whole_of : Owner → Image → Opened
whole_of owner dump = record { dump = dump; left = 0; owner = owner }

-- the dump without the frame that is coming, and how many frames it lacks then
abbrev pub opened_of : OpenFrame → Opened
opened_of frame = record { dump = frame.dump.dump; left = frame.left; owner = frame.owner }

-- the dump with a frame of this number coming, of which there is no word
abbrev pub begun : Opened → ℕ → OpenFrame
begun opened number = record {
  dump = record { dump = opened.dump; number = number; coming = [] };
  index = finite.len opened.dump.frames;
  left = opened.left;
  owner = opened.owner;
}

-- the spelling up to the words of the frame that is coming, and the words of it that have come
abbrev pub frame_begun : Parts → OpenFrame → List ℕ
frame_begun parts frame = opened_spelling parts (opened_of frame) ++ frame_number frame.dump.number

abbrev pub words_begun : OpenFrame → List ℕ
words_begun frame = frame_words frame.dump.coming

-- the bytes that were read
abbrev pub said : Reader → List ℕ
said (Magic alloc form) = []
said (Version alloc form) = magic_of form
said (Header alloc form version) = magic version ++ version_word version
said (Root parts numbers) = header_units numbers parts
said (Log parts places events) = parts_spelling (length parts.log.items + places) events parts
said (Events parts events) = parts_spelling (length parts.log.items) (length parts.events.items + events) parts
said (Dumps parts) = whole_spelling parts
said (Frame parts opened last) = opened_spelling parts opened
said (Words parts frame) = frame_begun parts frame ++ words_begun frame

-- the refusals of the bytes after the dumps that there are
abbrev pub BehindDumps : Parts → ℕ → List ℕ → Refusal → Type 0
BehindDumps parts more = AtDumps parts.version (length parts.dumps.items + more) (parts.layout.replicas - (length parts.dumps.items + more))

-- whose frames they are, and the refusals of the bytes after the last one
abbrev pub frames_of : Parts → Owner → OfFrames
frames_of parts (owners.Start places events) = of_start
frames_of parts owners.Replica = of_dump (length parts.dumps.items)

abbrev pub BehindFrames : Parts → Owner → List ℕ → Refusal → Type 0
BehindFrames parts (owners.Start places events) = AtLog parts.version parts.layout 0 places events
BehindFrames parts owners.Replica = BehindDumps parts 1

-- the refusals of the bytes after the number of the frame that is coming
abbrev pub AtWords : Parts → OpenFrame → List ℕ → Refusal → Type 0
AtWords parts frame rest refusal =
    let own = frames_of parts frame.owner in
    let index = finite.len frame.dump.dump.frames in
    AtUnit 4096 (own.words index) None IsFrame frame_words (λ words.
    AtFrames own (index + 1) (frame.left - 1) (Some frame.dump.number) (BehindFrames parts frame.owner))
    rest refusal

-- the refusal of the bytes ahead
abbrev pub Ahead : Reader → List ℕ → Refusal → Type 0
Ahead (Magic alloc form) rest refusal = HasRefusalAs form rest refusal
Ahead (Version alloc form) rest refusal = AtVersion form rest refusal
Ahead (Header alloc form version) rest refusal = AtCounts form version rest refusal
Ahead (Root parts numbers) rest refusal = AtStart numbers.start (AtLog parts.version parts.layout 0 numbers.places numbers.events) rest refusal
Ahead (Log parts places events) rest refusal = AtLog parts.version parts.layout (length parts.log.items) places events rest refusal
Ahead (Events parts events) rest refusal = AtEvents parts.version parts.layout (length parts.events.items) events rest refusal
Ahead (Dumps parts) rest refusal = BehindDumps parts 0 rest refusal
Ahead (Frame parts opened last) rest refusal =
    AtFrames (frames_of parts opened.owner) (finite.len opened.dump.frames) opened.left last (BehindFrames parts opened.owner) rest refusal
Ahead (Words parts frame) rest refusal = AtWords parts frame (words_begun frame ++ rest) refusal

-- the unit that comes next, or has begun; and how the reader is refused where no more bytes come than these, which begin it
abbrev pub unit_of : Reader → TraceUnit
unit_of (Magic alloc form) = units.Magic
unit_of (Version alloc form) = units.Version
unit_of (Header alloc form version) = counts_unit version
unit_of (Root parts numbers) = units.StartRoot
unit_of (Log parts places events) = units.Place (length parts.log.items)
unit_of (Events parts events) = units.Event (length parts.events.items)
unit_of (Dumps parts) = units.DumpHead (length parts.dumps.items)
unit_of (Frame parts opened last) = (frames_of parts opened.owner).number (finite.len opened.dump.frames)
unit_of (Words parts frame) = (frames_of parts frame.owner).words frame.index

abbrev pub cut_off : Reader → List ℕ → Refusal
cut_off (Words parts frame) begun = refusal_at (unit_of (Words parts frame)) (words_begun frame ++ begun) Truncated
cut_off reader begun = refusal_at (unit_of reader) begun Truncated

-- parts in their ranges
pub record AreInRange (parts : Parts) : Type 0 where
  pub of_form : IsVersionOf parts.form parts.version
  pub follows : Follows parts.form parts.layout
  pub layout : IsLayoutWithin (most_threads parts.version) (most_tables parts.version) parts.layout
  pub depth : KnowsDepth parts.version parts.layout.depth
  pub start : IfSome parts.start IsStart
  pub few_start : start_frames parts.start ≤ most_start parts.version
  pub few_places : length parts.log.items ≤ LOG_PLACES
  pub log : All (λ call. call < 2 ^ 32) parts.log.items
  pub few_events : length parts.events.items ≤ CALLS
  pub events : All (IsEvent parts.version parts.layout) parts.events.items
  pub few_dumps : length parts.dumps.items ≤ parts.layout.replicas
  pub dumps : All (IsImage parts.version) parts.dumps.items

-- nothing has come behind the counts
pub record IsEmpty (parts : Parts) : Type 0 where
  pub no_start : parts.start ≡ None
  pub no_log : parts.log.items ≡ []
  pub no_events : parts.events.items ≡ []
  pub no_dumps : parts.dumps.items ≡ []

-- whose frames may come, and how many: those of the start, or those of a dump that is missing
abbrev pub IsOwner : Parts → Owner → ℕ → ℕ → Type 0
IsOwner parts (owners.Start places events) applied all =
    IsEmpty parts × (places ≤ LOG_PLACES) × (events ≤ CALLS) × (applied ≡ 0) × (all ≤ most_start parts.version)
IsOwner parts owners.Replica applied all = (length parts.dumps.items < parts.layout.replicas) × (all ≤ most_frames parts.version)

-- a whole dump that may be the start's, or that of the next replica
abbrev pub Belongs : Parts → Owner → Image → Type 0
Belongs parts (owners.Start places events) dump =
    IsEmpty parts × (places ≤ LOG_PLACES) × (events ≤ CALLS) × IsStart dump × (finite.len dump.frames ≤ most_start parts.version)
Belongs parts owners.Replica dump = (length parts.dumps.items < parts.layout.replicas) × IsImage parts.version dump

-- a dump of which some frames are left, beside the parts
pub record IsOpened (parts : Parts) (opened : Opened) : Type 0 where
  pub in_range : AreInRange parts
  pub owner : IsOwner parts opened.owner opened.dump.applied (finite.len opened.dump.frames + opened.left)
  pub applied : opened.dump.applied < 2 ^ 32
  pub root : opened.dump.root < 2 ^ 64
  pub numbers : All (λ number. number < 2 ^ 40) (finite.keys opened.dump.frames)
  pub words : All IsFrame (finite.values opened.dump.frames)
  pub some_left : 1 ≤ opened.left
  pub few_frames : finite.len opened.dump.frames + opened.left ≤ FRAMES

-- all frames that there are have lower numbers
abbrev pub AreBelow : Opened → ℕ → Type 0
AreBelow opened number = All (λ held. held < number) (finite.keys opened.dump.frames)

-- the reader goes on as its state says
abbrev pub IsReady : Reader → Type 0
IsReady (Magic alloc form) = ⊤
IsReady (Version alloc form) = ⊤
IsReady (Header alloc form version) = IsVersionOf form version
IsReady (Root parts numbers) =
    AreInRange parts × IsEmpty parts × IsCounts parts.version numbers × (numbers.layout ≡ parts.layout) × (1 ≤ numbers.start)
IsReady (Log parts places events) =
    AreInRange parts × (1 ≤ places) × (length parts.log.items + places ≤ LOG_PLACES) × (events ≤ CALLS) × (parts.events.items ≡ []) × (parts.dumps.items ≡ [])
IsReady (Events parts events) = AreInRange parts × (1 ≤ events) × (length parts.events.items + events ≤ CALLS) × (parts.dumps.items ≡ [])
IsReady (Dumps parts) = AreInRange parts
IsReady (Frame parts opened last) = IsOpened parts opened × ((number : ℕ) → IsNext last number → AreBelow opened number)
IsReady (Words parts frame) =
    IsOpened parts (opened_of frame) × (frame.dump.number < 2 ^ 40) × AreBelow (opened_of frame) frame.dump.number
    × All (λ word. word < 2 ^ 64) frame.dump.coming × (length frame.dump.coming < 512) × (frame.index ≡ finite.len frame.dump.dump.frames)

-- what a reader is to read
abbrev pub form_of : Reader → Form
form_of (Magic alloc form) = form
form_of (Version alloc form) = form
form_of (Header alloc form version) = form
form_of (Root parts numbers) = parts.form
form_of (Log parts places events) = parts.form
form_of (Events parts events) = parts.form
form_of (Dumps parts) = parts.form
form_of (Frame parts opened last) = parts.form
form_of (Words parts frame) = parts.form

-- the reader of what is to have this form has read these bytes, and a refusal of the bytes ahead is one by this relation
pub record HasRead (form : Form) (bytes : List ℕ) (Behind : List ℕ → Refusal → Type 0) (reader : Reader) : Type 0 where
  pub form_is : form_of reader ≡ form
  pub ready : IsReady reader
  pub bytes_are : said reader ≡ bytes
  pub faults : (rest : List ℕ) (refusal : Refusal) → Ahead reader rest refusal → Behind rest refusal

-- a reader took a run, or refused it
abbrev pub Takes : Reader → List ℕ → Result Reader (Fail Refusal) → Type 0
Takes reader run result =
    MatchResult result (HasRead (form_of reader) (said reader ++ run) (λ rest refusal. Ahead reader (run ++ rest) refusal))
    (IfRefused (IsRefusedBy (Ahead reader) run))
