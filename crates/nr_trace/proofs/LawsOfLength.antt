-- No trace is spelled by more bytes than 70,647,892.
use Rattle.std.proofs.Common.{◌≡◌, ℕ, ◌+◌, ◌*◌, ◌≤◌, List, [], ◌∷◌, ◌++◌, length, refl, ap, ◌∙◌, arith}
use Rattle.std.specs.Prelude.{flat_map, Option, None, Some, IfSome}
use Rattle.std.specs.List.{AllByRecursion}
use Rattle.std.specs.FinMap as finite
use Rattle.std.proofs.lemmas.List.{length-append}
use Rattle.std.proofs.lemmas.List.Elements.{recursion_from_All}
use Rattle.vs_walk.specs.Dump.{Image}
use Rattle.nr_trace.specs.Recording.{Recording, IsImage, IsRecording, IsStart, start_frames}
use Rattle.nr_trace.specs.Versions.{IsVersionOf, most_frames, most_start}
use Rattle.nr_trace.specs.FirstFault.{counts_bytes}
use Rattle.nr_trace.specs.Spelling.{spelling, start_units, Spells, magic, version_word, counts, counts_of, dump_head, head_of, log_word, event, dump}
use Rattle.nr_trace.specs.Spelling.{frame_number, frame_words}
use Rattle.nr_trace.proofs.LawsOfUnits.{length-counts, length-head, length-event, length_of_units, length-frame_words}
use Rattle.nr_trace.proofs.LawsOfSpelling.{Frame, FrameFits, frame, image_frames_fit, frames_of, logs, events, dumps, counted, magic_is, numbered, spelling_is}
use Rattle.nr_trace.proofs.LawsOfSpelling.{starts, versioned}
use Rattle.nr_trace.specs.declared.formats.version.Version.{Version}
use Rattle.nr_trace.specs.declared.formats.version.Version.TheVariants.{Segment}
use Rattle.nr_trace.specs.declared.formats.version.Form.TheVariants as forms

-- units of at most so many bytes each
length_at_most : {A : Type 0} (Fits : A → Type 0) (spelled : A → List ℕ) (n : ℕ) → ((a : A) → Fits a → length (spelled a) ≤ n) → (xs : List A)
    → AllByRecursion Fits xs → length (flat_map spelled xs) ≤ n * length xs
length_at_most Fits spelled n each [] h = omega arith
length_at_most Fits spelled n each (x ∷ xs) h =
    let first = each x h.0 in
    let rest = length_at_most Fits spelled n each xs h.1 in
    let both = length-append (spelled x) (flat_map spelled xs) in
    omega arith

length-frame : (f : Frame) → FrameFits f → length (frame f) ≤ 4104
length-frame f h =
    let both = length-append (frame_number f.0) (frame_words f.1) in
    let words = length-frame_words f.1 h.1 in
    let number : length (frame_number f.0) ≡ 8 = refl in
    omega arith

few_of_trace : (version : Version) → IsVersionOf forms.Trace version → (most_frames version ≤ 4096) × (most_start version ≡ 0) × (counts_bytes version ≡ 14)
few_of_trace Segment of = absurd of
few_of_trace _ of = (omega arith, refl, refl)

-- those of a trace
length-dump : (version : Version) → IsVersionOf forms.Trace version → (image : Image) → IsImage version image → length (dump image) ≤ 16810000
length-dump version of image h =
    let both = length-append (dump_head (head_of image)) (frames_of image) in
    let head = length-head (head_of image) in
    let frames = length_at_most FrameFits frame 4104 length-frame (finite.entries image.frames) (image_frames_fit version image h) in
    let most = few_of_trace version of in
    let few = h.few_frames in
    let counted = finite.len-entries image.frames in
    omega arith

no_units : (start : Option Image) → IfSome start IsStart → start_frames start ≤ 0 → length (start_units start) ≡ 0
no_units None fit none = refl
no_units (Some start) fit none = absurd (omega (arith, fit.some_frame, none))

length-parts : (trace : Recording) → IsVersionOf forms.Trace trace.version → IsRecording trace
    → length (spelling trace) ≡ 20 + (length (logs trace) + (length (events trace) + length (dumps trace)))
length-parts trace of range =
    let most = few_of_trace trace.version of in
    let whole = ap length (spelling_is trace) in
    let front = length-append (magic trace.version) (versioned trace) in
    let four = ap length (magic_is forms.Trace trace.version of) in
    let two : length (version_word trace.version) ≡ 2 = refl in
    let version = length-append (version_word trace.version) (numbered trace) in
    let number = length-append (counts trace.version (counts_of trace)) (counted trace) in
    let counts = length-counts trace.version (counts_of trace) in
    let start = length-append (starts trace) (logs trace ++ (events trace ++ dumps trace)) in
    let none = no_units trace.start range.start (omega (arith, range.few_start, most.1)) in
    let log = length-append (logs trace) (events trace ++ dumps trace) in
    let rest = length-append (events trace) (dumps trace) in
    omega (arith, most.2)

pub no_longer : (bytes : List ℕ) (trace : Recording) → Spells bytes trace → length bytes ≤ 70647892
no_longer bytes trace h =
    let range = h.in_range in
    let parts = ap length h.spelled ∙ length-parts trace h.of_form range in
    let log : length (logs trace) ≡ 4 * length trace.log = length_of_units log_word 4 (λ n. refl) trace.log in
    let calls : length (events trace) ≡ 24 * length trace.events = length_of_units event 24 length-event trace.events in
    let images = length_at_most (IsImage trace.version) dump 16810000 (length-dump trace.version h.of_form) trace.dumps (recursion_from_All _ _ range.dumps) in
    let places = range.few_places in
    let few = range.few_events in
    let each = range.one_dump_each in
    let replicas = range.layout.few_replicas in
    omega arith
