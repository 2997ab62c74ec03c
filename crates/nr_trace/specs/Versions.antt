-- The versions of the format: two of traces, and that of segments; the number of each, and what it knows.
use Rattle.std.specs.Prelude.{◌≡◌, ℕ, List, All, Some, ⊤}
use Rattle.vs_types.specs.Config.{Layout}
use Rattle.vs_types.specs.declared.limits.TheConstants.{FRAMES, TABLES, THREADS}
use Rattle.vs_types.specs.declared.addresses.depth.Depth.{Depth}
use Rattle.vs_types.specs.declared.addresses.depth.Depth.TheVariants.{Five}
use Rattle.vs_types.specs.declared.requests.request.Query.{Query}
use Rattle.vs_types.specs.declared.requests.request.Query.TheVariants.{Access}
use Rattle.vs_types.specs.declared.requests.answer.Answer.{Answer}
use Rattle.vs_types.specs.declared.requests.answer.Answer.TheVariants.{Allowed, Fault}
use Rattle.nr_trace.specs.declared.recordings.event.Event.{Event}
use Rattle.nr_trace.specs.declared.recordings.event.Event.TheVariants.{Call, Reply}
use Rattle.nr_trace.specs.declared.recordings.event.Asked.{Asked}
use Rattle.nr_trace.specs.declared.recordings.event.Asked.TheVariants.{Request, Touch, Release}
use Rattle.nr_trace.specs.declared.formats.version.Version.{Version}
use Rattle.nr_trace.specs.declared.formats.version.Version.TheVariants.{V1, V2, Segment}
use Rattle.nr_trace.specs.declared.formats.version.Form.{Form}
use Rattle.nr_trace.specs.declared.formats.version.Form.TheVariants as forms

abbrev pub version_code : Version → ℕ
version_code V1 = 1
version_code V2 = 2
version_code Segment = 1

-- what has this form is spelled in this version: a trace in version 1 or 2
abbrev pub IsVersionOf : Form → Version → Type 0
IsVersionOf forms.Trace Segment = ⊥
IsVersionOf forms.Trace version = ⊤
IsVersionOf (forms.Segment before) Segment = ⊤
IsVersionOf (forms.Segment before) version = ⊥

-- what has this form is laid out so: a further segment as the one before it
abbrev pub Follows : Form → Layout → Type 0
Follows (forms.Segment (Some before)) layout = before ≡ layout
Follows form layout = ⊤

-- how many threads, tables of each replica, and frames of a dump there are at most
abbrev pub most_threads : Version → ℕ
most_threads Segment = FRAMES
most_threads version = THREADS

abbrev pub most_tables : Version → ℕ
most_tables Segment = FRAMES
most_tables version = TABLES

abbrev pub most_frames : Version → ℕ
most_frames Segment = FRAMES
most_frames version = TABLES

-- how many frames a dump has at least: one of a segment may have none, and then no dump of the replica is there
abbrev pub least_frames : Version → ℕ
least_frames Segment = 0
least_frames version = 1

-- how many frames the start has at most: a trace has none
abbrev pub most_start : Version → ℕ
most_start Segment = FRAMES
most_start version = 0

-- version 1 knows no depth but four levels
abbrev pub KnowsDepth : Version → Depth → Type 0
KnowsDepth V1 Five = ⊥
KnowsDepth version depth = ⊤

-- only a segment has touches and releases
abbrev pub KnowsTouch : Version → Type 0
KnowsTouch Segment = ⊤
KnowsTouch version = ⊥

-- version 1 knows no access
abbrev pub KnowsQuery : Version → Query → Type 0
KnowsQuery V1 (Access address mode access) = ⊥
KnowsQuery version query = ⊤

-- version 1 knows no answer to an access
abbrev pub KnowsAnswer : Version → Answer → Type 0
KnowsAnswer V1 (Allowed phys) = ⊥
KnowsAnswer V1 (Fault code) = ⊥
KnowsAnswer version answer = ⊤

-- the version knows what a call asks
abbrev pub KnowsAsked : Version → Asked → Type 0
KnowsAsked version (Request request) = KnowsQuery version request
KnowsAsked version (Touch address mode access) = KnowsTouch version
KnowsAsked version (Release size phys) = KnowsTouch version

-- the version knows what is asked, or answered
abbrev pub KnowsEvent : Version → Event → Type 0
KnowsEvent version (Call replica thread asked) = KnowsAsked version asked
KnowsEvent version (Reply call at answer) = KnowsAnswer version answer

-- version 1 knows the depth and each event
abbrev pub FitsFirst : Depth → List Event → Type 0
FitsFirst depth events = KnowsDepth V1 depth × All (KnowsEvent V1) events
