-- What keeps bytes from spelling a trace, or a segment. The bytes are cut into units from the left: a unit is read whole, and then has to
-- be the spelling of something in range. The bytes are refused at the first unit for which this fails, with its fault.
use Rattle.std.specs.Prelude.{◌≡◌, ◌≢◌, ℕ, zero, suc, ◌+◌, ◌<◌, ◌≤◌, ◌^◌, ◌⊎◌, ◌++◌, List, [], length, take, Option, Some, None, IfSome, ⊤}
use Rattle.vs_types.specs.Config.{Layout, IsLayoutWithin}
use Rattle.vs_types.specs.Frame.{IsFrame}
use Rattle.vs_types.specs.declared.limits.TheConstants.{LOG_PLACES, CALLS}
use Rattle.nr_trace.specs.Versions.{Follows, IsVersionOf, KnowsDepth, least_frames, most_frames, most_start, most_tables, most_threads}
use Rattle.nr_trace.specs.Recording.{IsEvent}
use Rattle.nr_trace.specs.Spelling.{magic, version_word, counts, log_word, event, dump_head, frame_number, frame_words}
use Rattle.nr_trace.specs.declared.formats.version.Version.{Version}
use Rattle.nr_trace.specs.declared.formats.version.Version.TheVariants.{V1, Segment}
use Rattle.nr_trace.specs.declared.formats.version.Form.{Form}
use Rattle.nr_trace.specs.declared.formats.version.Form.TheVariants as forms
use Rattle.nr_trace.specs.declared.formats.fields.Counts.{Counts}
use Rattle.nr_trace.specs.declared.formats.fields.DumpHead.{DumpHead}
use Rattle.nr_trace.specs.declared.refusals.fault.Format.{Format}
use Rattle.nr_trace.specs.declared.refusals.refusal.Refusal.{Refusal}
use Rattle.nr_trace.specs.declared.refusals.refusal.TraceUnit.{TraceUnit}
use Rattle.nr_trace.specs.declared.refusals.refusal.TraceUnit.TheVariants as units
use Rattle.nr_trace.specs.declared.refusals.fault.Format.TheVariants.{Truncated, BadMagic, BadVersion, BadCount, BadChain, BadStart, BadEvent, BadFrame, Trailing}

-- how many bytes a unit has; behind the last one a byte is looked at
abbrev pub unit_size : TraceUnit → ℕ
unit_size units.Magic = 4
unit_size units.Version = 2
unit_size units.Counts = 14
unit_size units.SegmentCounts = 18
unit_size units.StartRoot = 8
unit_size (units.StartNumber index) = 8
unit_size (units.StartWords index) = 4096
unit_size (units.Place place) = 4
unit_size (units.Event index) = 24
unit_size (units.DumpHead replica) = 16
unit_size (units.FrameNumber replica index) = 8
unit_size (units.FrameWords replica index) = 4096
unit_size units.Behind = 1

-- the refusal of the unit that the rest begins with
abbrev pub refusal_at : TraceUnit → List ℕ → Format → Refusal
refusal_at unit rest fault = record { fault = fault; unit = unit; left = length rest }

-- that of a unit that spells nothing that fits, where there are such
abbrev pub own_at : TraceUnit → List ℕ → Option Format → Option Refusal
own_at unit rest None = None
own_at unit rest (Some fault) = Some (refusal_at unit rest fault)

-- the same refusal, where these bytes come after
abbrev pub and_then : List ℕ → Refusal → Refusal
and_then rest refusal = record refusal { left = refusal.left + length rest }

-- at a unit of this many bytes the rest is refused: it is shorter; or its front spells nothing that fits; or its front
-- spells a value, and what comes after is refused
abbrev pub AtUnit : {A : Type 0} → ℕ → TraceUnit → Option Format → (A → Type 0) → (A → List ℕ) → (A → List ℕ → Refusal → Type 0) → List ℕ → Refusal → Type 0
AtUnit {A} bytes unit own Fits spelled Behind rest refusal =
    ((length rest < bytes) × (refusal ≡ refusal_at unit rest Truncated))
    ⊎ (((bytes ≤ length rest) × (own_at unit rest own ≡ Some refusal) × ((value : A) → Fits value → take bytes rest ≢ spelled value))
    ⊎ ((value : A) × (more : List ℕ) × Fits value × (rest ≡ spelled value ++ more) × Behind value more refusal))

-- the numbers of the counts unit, and of the head of a dump
pub record IsCounts (version : Version) (numbers : Counts) : Type 0 where
  pub layout : IsLayoutWithin (most_threads version) (most_tables version) numbers.layout
  pub depth : KnowsDepth version numbers.layout.depth
  pub few_places : numbers.places ≤ LOG_PLACES
  pub few_events : numbers.events ≤ CALLS
  pub few_start : numbers.start ≤ most_start version

-- the numbers of the head of a dump
pub record IsDumpHead (version : Version) (head : DumpHead) : Type 0 where
  pub applied : head.applied < 2 ^ 32
  pub some_frame : least_frames version ≤ head.frames
  pub few_frames : head.frames ≤ most_frames version
  pub root : head.root < 2 ^ 64
  pub nothing : head.frames ≡ 0 → (head.applied ≡ 0) × (head.root ≡ 0)

-- nothing may come after a trace; what comes after a segment is not of it
abbrev pub AtEnd : Version → List ℕ → Refusal → Type 0
AtEnd Segment rest refusal = ⊥
AtEnd version rest refusal = (rest ≢ []) × (refusal ≡ refusal_at units.Behind rest Trailing)

-- a frame's number is above the one before it, and below 2 ^ 40
pub record IsNext (before : Option ℕ) (number : ℕ) : Type 0 where
  pub rises : IfSome before (λ last. last < number)
  pub in_range : number < 2 ^ 40

-- whose frames they are: the fault of the number of the frame of an index, and its units
pub record OfFrames : Type 0 where
  pub fault : ℕ → Format
  pub number : ℕ → TraceUnit
  pub words : ℕ → TraceUnit

-- the frames of a start
abbrev pub of_start : OfFrames
of_start = record { fault = BadStart; number = units.StartNumber; words = units.StartWords }

-- the frames of the dump of a replica
abbrev pub of_dump : ℕ → OfFrames
of_dump replica = record { fault = BadFrame replica; number = units.FrameNumber replica; words = units.FrameWords replica }

-- this many frames, counted from this index, the last of which had this number
unfoldable pub AtFrames : OfFrames → ℕ → ℕ → Option ℕ → (List ℕ → Refusal → Type 0) → List ℕ → Refusal → Type 0
AtFrames own index zero before Behind rest refusal = Behind rest refusal
AtFrames own index (suc frames) before Behind rest refusal =
    AtUnit 8 (own.number index) (Some (own.fault index)) (IsNext before) frame_number (λ number.
    AtUnit 4096 (own.words index) None IsFrame frame_words (λ words. AtFrames own (index + 1) frames (Some number) Behind))
    rest refusal

-- this many dumps, counted from this replica
unfoldable pub AtDumps : Version → ℕ → ℕ → List ℕ → Refusal → Type 0
AtDumps version replica zero rest refusal = AtEnd version rest refusal
AtDumps version replica (suc dumps) rest refusal =
    AtUnit 16 (units.DumpHead replica) (Some BadCount) (IsDumpHead version) dump_head (λ head.
    AtFrames (of_dump replica) 0 head.frames None (AtDumps version (replica + 1) dumps))
    rest refusal

-- this many events, counted from this index
unfoldable pub AtEvents : Version → Layout → ℕ → ℕ → List ℕ → Refusal → Type 0
AtEvents version layout index zero rest refusal = AtDumps version 0 layout.replicas rest refusal
AtEvents version layout index (suc events) rest refusal =
    AtUnit 24 (units.Event index) (Some (BadEvent index)) (IsEvent version layout) event (λ _. AtEvents version layout (index + 1) events) rest refusal

-- this many places of the log, counted from this one, and then this many events
unfoldable pub AtLog : Version → Layout → ℕ → ℕ → ℕ → List ℕ → Refusal → Type 0
AtLog version layout place zero events rest refusal = AtEvents version layout 0 events rest refusal
AtLog version layout place (suc places) events rest refusal =
    AtUnit 4 (units.Place place) None (λ call. call < 2 ^ 32) log_word (λ _. AtLog version layout (place + 1) places events) rest refusal

-- a start of this many frames, where it has any: its root, and the frames
abbrev pub AtStart : ℕ → (List ℕ → Refusal → Type 0) → List ℕ → Refusal → Type 0
AtStart zero Behind rest refusal = Behind rest refusal
AtStart (suc frames) Behind rest refusal =
    AtUnit 8 units.StartRoot None (λ root. root < 2 ^ 64) frame_number (λ _. AtFrames of_start 0 (suc frames) None Behind) rest refusal

-- the unit that has the counts
abbrev pub counts_unit : Version → TraceUnit
counts_unit Segment = units.SegmentCounts
counts_unit version = units.Counts

-- how many bytes the counts have
abbrev pub counts_bytes : Version → ℕ
counts_bytes Segment = 18
counts_bytes version = 14

-- the counts before the rest have the fault
abbrev pub refusal_of_counts : Version → List ℕ → Format → Refusal
refusal_of_counts version rest fault = record { fault = fault; unit = counts_unit version; left = counts_bytes version + length rest }

-- a further segment that is laid out otherwise is refused
abbrev pub AtLayout : Form → Version → Layout → (List ℕ → Refusal → Type 0) → List ℕ → Refusal → Type 0
AtLayout form version layout Behind rest refusal =
    ((Follows form layout → ⊥) × (refusal ≡ refusal_of_counts version rest BadChain)) ⊎ (Follows form layout × Behind rest refusal)

-- the counts, and what comes after them
abbrev pub AtCounts : Form → Version → List ℕ → Refusal → Type 0
AtCounts form version rest refusal =
    AtUnit (counts_bytes version) (counts_unit version) (Some BadCount) (IsCounts version) (counts version) (λ numbers.
    AtLayout form version numbers.layout (AtStart numbers.start (AtLog version numbers.layout 0 numbers.places numbers.events)))
    rest refusal

-- the version, and what comes after it
abbrev pub AtVersion : Form → List ℕ → Refusal → Type 0
AtVersion form rest refusal = AtUnit 2 units.Version (Some BadVersion) (IsVersionOf form) version_word (AtCounts form) rest refusal

-- the magic of what has this form
abbrev pub magic_of : Form → List ℕ
magic_of forms.Trace = magic V1
magic_of (forms.Segment before) = magic Segment

-- bytes that are to have this form are refused so: they have the fault, at this unit, from whose first byte on so many are left
abbrev pub HasRefusalAs : Form → List ℕ → Refusal → Type 0
HasRefusalAs form bytes refusal =
    AtUnit {A = Unit {0}} 4 units.Magic (Some BadMagic) (λ _. ⊤) (λ _. magic_of form) (λ _. AtVersion form) bytes refusal

-- bytes are refused by the relation, whatever comes after them, at a unit that is whole in them
pub record IsRefusedBy (Behind : List ℕ → Refusal → Type 0) (bytes : List ℕ) (refusal : Refusal) : Type 0 where
  pub within : refusal.left ≤ length bytes
  pub whole : unit_size refusal.unit ≤ refusal.left
  pub lasts : (rest : List ℕ) → Behind (bytes ++ rest) (and_then rest refusal)

-- the first fault of bytes that are to have this form
abbrev pub HasFaultAs : Form → List ℕ → Format → Type 0
HasFaultAs form bytes fault = (unit : TraceUnit) × (left : ℕ) × HasRefusalAs form bytes (record { fault = fault; unit = unit; left = left })

-- the first fault of the bytes as a trace, and as a segment
abbrev pub HasFormatFault : List ℕ → Format → Type 0
HasFormatFault bytes fault = HasFaultAs forms.Trace bytes fault

-- the first fault of the bytes as a segment
abbrev pub HasSegmentFault : Option Layout → List ℕ → Format → Type 0
HasSegmentFault before bytes fault = HasFaultAs (forms.Segment before) bytes fault
