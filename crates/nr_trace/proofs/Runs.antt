-- The trace of a run, in a version that knows it, is a recording.
use Rattle.std.proofs.Common.{◌≡◌, List, All, get_or, refl}
use Rattle.vs_types.specs.Config.{Layout, IsLayout, IsLayoutWithin}
use Rattle.vs_walk.specs.Dump.{Image}
use Rattle.nr_trace.specs.Parts.{HasFrames}
use Rattle.nr_trace.specs.Recording.{IsEvent}
use Rattle.nr_trace.specs.Versions.{FitsFirst, IsVersionOf, KnowsDepth, KnowsEvent, most_tables, most_threads}
use Rattle.nr_trace.specs.declared.recordings.event.Event.{Event}
use Rattle.nr_trace.specs.declared.recordings.event.Event.TheVariants.{Call, Reply}
use Rattle.nr_trace.specs.declared.formats.version.Version.{Version}
use Rattle.nr_trace.specs.declared.formats.version.Version.TheVariants.{V1, V2, Segment}
use Rattle.nr_trace.specs.declared.formats.version.Form.TheVariants as forms

-- the dumps of a trace have as many frames in each version, and the layout of a configuration is one of each
pub as_first : (version : Version) (dump : Image) → IsVersionOf forms.Trace version → HasFrames V1 dump → HasFrames version dump
as_first V1 dump is_trace has = has
as_first V2 dump is_trace has = has
as_first Segment dump is_trace has = absurd is_trace

pub of_config : (version : Version) (layout : Layout) → IsVersionOf forms.Trace version → IsLayout layout
    → IsLayoutWithin (most_threads version) (most_tables version) layout
of_config V1 layout is_trace is = is
of_config V2 layout is_trace is = is
of_config Segment layout is_trace is = absurd is_trace

-- version 2 knows all that there is, and version 1 what fits it
known_in_first : (layout : Layout) (event : Event) → IsEvent V2 layout event → KnowsEvent V1 event → IsEvent V1 layout event
known_in_first layout (Call replica thread asked) fits known = (fits.0, fits.1, fits.2, known)
known_in_first layout (Reply call at answer) fits known = (fits.0, fits.1, fits.2, known)

pub known_in_least : (version : Version) (layout : Layout) (events : List Event) → IsVersionOf forms.Trace version → All (IsEvent V2 layout) events
    → (version ≡ V1 → FitsFirst layout.depth events) → KnowsDepth version layout.depth × All (IsEvent version layout) events
known_in_least V2 layout events is_trace fits first = (tt, fits)
known_in_least Segment layout events is_trace fits first = absurd is_trace
known_in_least V1 layout events is_trace fits first =
    let known = first refl in
    (known.0, λ k d lt. known_in_first layout (get_or events k d) (fits k d lt) (known.1 k d lt))
