-- What a trace says, and the ranges of its numbers.
use Rattle.std.specs.Prelude.{◌≡◌, ℕ, ◌+◌, ◌%◌, ◌<◌, ◌≤◌, ◌^◌, List, length, All, Option, None, Some, IfSome}
use Rattle.std.specs.FinMap as finite
use Rattle.vs_types.specs.Config.{Layout, IsLayoutWithin}
use Rattle.vs_types.specs.Frame.{IsFrame}
use Rattle.vs_types.specs.declared.limits.TheConstants.{LOG_PLACES, CALLS}
use Rattle.vs_types.specs.Page.{bytes_of}
use Rattle.vs_types.specs.declared.addresses.page.TheConstants.Page.{PHYS_END}
use Rattle.vs_types.specs.Query.{IsQuery}
use Rattle.vs_types.specs.declared.addresses.depth.Depth.{Depth}
use Rattle.vs_types.specs.declared.requests.request.Query.TheVariants.{Access}
use Rattle.vs_types.specs.declared.requests.answer.Answer.{Answer}
use Rattle.vs_types.specs.declared.addresses.page.Size.{Size}
use Rattle.vs_types.specs.declared.requests.answer.Answer.TheVariants.{Done, Overlap, Full, Removed, NotMapped, Inside, Changed, Mapped, Allowed, Fault}
use Rattle.vs_walk.specs.Dump.{Image}
use Rattle.nr_trace.specs.Versions.{KnowsDepth, KnowsAsked, KnowsAnswer, least_frames, most_frames, most_start, most_tables, most_threads}
use Rattle.nr_trace.specs.declared.formats.version.Version.{Version}
use Rattle.nr_trace.specs.declared.formats.version.Version.TheVariants.{Segment}
use Rattle.nr_trace.specs.declared.recordings.event.Event.{Event}
use Rattle.nr_trace.specs.declared.recordings.event.Event.TheVariants.{Call, Reply}
use Rattle.nr_trace.specs.declared.recordings.event.Asked.{Asked}
use Rattle.nr_trace.specs.declared.recordings.event.Asked.TheVariants.{Request, Touch, Release}

-- the version of the format, the layout of the service, and the page table with which the run begins if that is given. Then the call
-- number at each place of the log, the events in order, and a dump of each replica
pub record Recording : Type 0 where
  pub version : Version
  pub layout : Layout
  pub start : Option Image
  pub log : List ℕ
  pub events : List Event
  pub dumps : List Image

-- the numbers of an answer are of 64 bits
abbrev pub IsAnswer : Answer → Type 0
IsAnswer Done = Unit {0}
IsAnswer (Overlap base) = base < 2 ^ 64
IsAnswer (Full need) = need < 2 ^ 64
IsAnswer (Removed phys size rights) = phys < 2 ^ 64
IsAnswer NotMapped = Unit {0}
IsAnswer (Inside base) = base < 2 ^ 64
IsAnswer (Changed rights) = Unit {0}
IsAnswer (Mapped phys size rights) = phys < 2 ^ 64
IsAnswer (Allowed phys) = phys < 2 ^ 64
IsAnswer (Fault code) = code < 2 ^ 64

-- memory of a size may begin at the physical address: that is a multiple of the size, and the memory ends in time
abbrev pub IsMemory : Size → ℕ → Type 0
IsMemory size phys = (phys % bytes_of size ≡ 0) × (phys + bytes_of size ≤ PHYS_END)

-- what a call asks is well formed at the depth
abbrev pub IsAskable : Depth → Asked → Type 0
IsAskable depth (Request request) = IsQuery depth request
IsAskable depth (Touch address mode access) = IsQuery depth (Access address mode access)
IsAskable depth (Release size phys) = IsMemory size phys

-- what the version knows: a well-formed call of a replica and a thread that there are; a reply to any call, at any place
abbrev pub IsEvent : Version → Layout → Event → Type 0
IsEvent version layout (Call replica thread asked) =
    (replica < layout.replicas) × (thread < layout.threads) × IsAskable layout.depth asked × KnowsAsked version asked
IsEvent version layout (Reply call at answer) = (call < 2 ^ 32) × (at < 2 ^ 32) × IsAnswer answer × KnowsAnswer version answer

-- as many frames as the version has, with numbers below 2 ^ 40; the root may have any number; without frames all is 0
pub record IsImage (version : Version) (dump : Image) : Type 0 where
  pub applied : dump.applied < 2 ^ 32
  pub root : dump.root < 2 ^ 64
  pub some_frame : least_frames version ≤ finite.len dump.frames
  pub few_frames : finite.len dump.frames ≤ most_frames version
  pub nothing : finite.len dump.frames ≡ 0 → (dump.applied ≡ 0) × (dump.root ≡ 0)
  pub numbers : All (λ number. number < 2 ^ 40) (finite.keys dump.frames)
  pub words : All IsFrame (finite.values dump.frames)

-- a dump is there where it has a frame: in a segment some may be left out
abbrev pub IsThere : Image → Type 0
IsThere dump = 1 ≤ finite.len dump.frames

-- a start has a frame, and comes before all entries
pub record IsStart (start : Image) : Type 0 where
  pub image : IsImage Segment start
  pub some_frame : 1 ≤ finite.len start.frames
  pub applied : start.applied ≡ 0

-- how many frames a start has, where there is one
abbrev pub start_frames : Option Image → ℕ
start_frames None = 0
start_frames (Some start) = finite.len start.frames

-- at most 65,536 places and 131,072 events, and one dump for each replica
pub record IsRecording (trace : Recording) : Type 0 where
  pub layout : IsLayoutWithin (most_threads trace.version) (most_tables trace.version) trace.layout
  pub depth : KnowsDepth trace.version trace.layout.depth
  pub start : IfSome trace.start IsStart
  pub few_start : start_frames trace.start ≤ most_start trace.version
  pub few_places : length trace.log ≤ LOG_PLACES
  pub log : All (λ call. call < 2 ^ 32) trace.log
  pub few_events : length trace.events ≤ CALLS
  pub events : All (IsEvent trace.version trace.layout) trace.events
  pub one_dump_each : length trace.dumps ≡ trace.layout.replicas
  pub dumps : All (IsImage trace.version) trace.dumps
