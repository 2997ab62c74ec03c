-- Bytes spell at most one trace.
use Rattle.std.proofs.Common.{◌≡◌, ℕ, ◌<◌, ◌^◌, List, [], ◌∷◌, ◌++◌, Option, Some, None, drop, map, refl, arith, ap, sym, subst, subst₂, ◌∙◌}
use Rattle.std.specs.Prelude.{flat_map, IfSome}
use Rattle.std.specs.List.{AllByRecursion}
use Rattle.std.specs.FinMap as finite
use Rattle.std.proofs.lemmas.List.{append_assoc, append_cancel_left}
use Rattle.std.proofs.lemmas.List.Elements.{recursion_from_All}
use Rattle.vs_types.specs.Config.{Layout}
use Rattle.vs_walk.specs.Dump.{Image}
use Rattle.vs_types.specs.Frame.{IsFrame}
use Rattle.nr_trace.specs.Recording.{Recording, IsRecording, IsImage, IsStart, IsEvent, start_frames}
use Rattle.nr_trace.specs.Versions.{IsVersionOf}
use Rattle.nr_trace.specs.Spelling.{spelling, Spells, SpellsAs, magic, start_units, version_word, counts, counts_of, log_word, event, dump, dump_head, head_of}
use Rattle.nr_trace.specs.Spelling.{frame_number, frame_words}
use Rattle.nr_trace.specs.FirstFault.{IsCounts, IsDumpHead, magic_of}
use Rattle.nr_trace.specs.declared.formats.fields.Counts.{Counts}
use Rattle.nr_trace.specs.declared.formats.fields.DumpHead.{DumpHead}
use Rattle.nr_trace.specs.declared.formats.version.Version.{Version}
use Rattle.nr_trace.specs.declared.formats.version.Version.TheVariants.{V1, V2, Segment}
use Rattle.nr_trace.specs.declared.formats.version.Form.{Form}
use Rattle.nr_trace.specs.declared.formats.version.Form.TheVariants as forms
use Rattle.nr_trace.proofs.LawsOfUnits.{ToldApart, versions_apart, counts_apart, heads_apart, frame_numbers_apart, words_apart, lists_apart, log_words_apart}
use Rattle.nr_trace.proofs.LawsOfUnits.{is_wide, number_64}
use Rattle.nr_trace.proofs.EventsApart.{events_apart}

abbrev pub Frame : Type 0
Frame = ℕ × List ℕ

abbrev pub FrameFits : Frame → Type 0
FrameFits frame = (frame.0 < 2 ^ 40) × IsFrame frame.1

abbrev pub frame : Frame → List ℕ
frame f = frame_number f.0 ++ frame_words f.1

pub frames_apart : ToldApart FrameFits frame
frames_apart a b us vs h k e =
    let f = sym (append_assoc (frame_number a.0) (frame_words a.1) us) ∙ e ∙ append_assoc (frame_number b.0) (frame_words b.1) vs in
    let number = frame_numbers_apart a.0 b.0 _ _ h.0 k.0 f in
    let words = words_apart a.1 b.1 us vs h.1 k.1 number.1 in
    (λ i. (number.0 i, words.0 i), words.1)

both_parts : (P : ℕ → Type 0) (Q : List ℕ → Type 0) (frames : List Frame) → AllByRecursion P (map (λ f. f.0) frames) → AllByRecursion Q (map (λ f. f.1) frames)
    → AllByRecursion (λ (f : Frame). P f.0 × Q f.1) frames
both_parts P Q [] h k = tt
both_parts P Q (f ∷ fs) h k = ((h.0, k.0), both_parts P Q fs h.1 k.1)

pub image_frames_fit : (version : Version) (image : Image) → IsImage version image → AllByRecursion FrameFits (finite.entries image.frames)
image_frames_fit version image h = both_parts (λ n. n < 2 ^ 40) IsFrame (finite.entries image.frames) (recursion_from_All _ _ h.numbers)
    (recursion_from_All _ _ h.words)

pub head_fits : (version : Version) (image : Image) → IsImage version image → IsDumpHead version (head_of image)
head_fits version image h =
    record { applied = h.applied; some_frame = h.some_frame; few_frames = h.few_frames; root = h.root; nothing = h.nothing }

abbrev pub frames_of : Image → List ℕ
frames_of image = flat_map frame (finite.entries image.frames)

pub images_apart : (version : Version) → ToldApart (IsImage version) dump
images_apart version a b us vs h k e =
    let f = sym (append_assoc (dump_head (head_of a)) (frames_of a) us) ∙ e ∙ append_assoc (dump_head (head_of b)) (frames_of b) vs in
    let heads = heads_apart version (head_of a) (head_of b) (frames_of a ++ us) (frames_of b ++ vs) (head_fits version a h) (head_fits version b k) f in
    let lengths = sym (finite.len-entries a.frames) ∙ ap (λ (head : DumpHead). head.frames) heads.0 ∙ finite.len-entries b.frames in
    let entries = lists_apart FrameFits frame frames_apart (finite.entries a.frames) (finite.entries b.frames) us vs (image_frames_fit version a h)
    (image_frames_fit version b k) lengths heads.1 in
    let frames = finite.same_entries_map a.frames b.frames entries.0 in
    (λ i. record { applied = (heads.0 i).applied; root = (heads.0 i).root; frames = frames i }, entries.1)

pub counts_fit : (trace : Recording) → IsRecording trace → IsCounts trace.version (counts_of trace)
counts_fit trace h = record { layout = h.layout; depth = h.depth; few_places = h.few_places; few_events = h.few_events; few_start = h.few_start }

abbrev pub logs : Recording → List ℕ
logs trace = flat_map log_word trace.log

abbrev pub events : Recording → List ℕ
events trace = flat_map event trace.events

abbrev pub dumps : Recording → List ℕ
dumps trace = flat_map dump trace.dumps

abbrev pub starts : Recording → List ℕ
starts trace = start_units trace.start

-- the spelling after the counts, after the version, and after the magic
abbrev pub counted : Recording → List ℕ
counted trace = starts trace ++ (logs trace ++ (events trace ++ dumps trace))

abbrev pub numbered : Recording → List ℕ
numbered trace = counts trace.version (counts_of trace) ++ counted trace

abbrev pub versioned : Recording → List ℕ
versioned trace = version_word trace.version ++ numbered trace

regrouped : (a b c d e f g : List ℕ) → a ++ b ++ c ++ d ++ e ++ f ++ g ≡ a ++ (b ++ (c ++ (d ++ (e ++ (f ++ g)))))
regrouped a b c d e f g = simp append_assoc

pub spelling_is : (trace : Recording) → spelling trace ≡ magic trace.version ++ versioned trace
spelling_is trace =
    regrouped (magic trace.version) (version_word trace.version) (counts trace.version (counts_of trace)) (starts trace) (logs trace) (events trace)
    (dumps trace)

-- what comes after the version is the same in each version that has these counts
behind_six : (version : Version) (rest : List ℕ) → drop 6 (magic version ++ (version_word version ++ rest)) ≡ rest
behind_six V1 rest = refl
behind_six _ rest = refl

pub spelling_behind_version : (trace : Recording) → drop 6 (spelling trace) ≡ numbered trace
spelling_behind_version trace = ap (drop 6) (spelling_is trace) ∙ behind_six trace.version (numbered trace)

pub magic_is : (form : Form) (version : Version) → IsVersionOf form version → magic version ≡ magic_of form
magic_is forms.Trace Segment h = absurd h
magic_is (forms.Segment before) V1 h = absurd h
magic_is (forms.Segment before) V2 h = absurd h
magic_is _ _ h = refl

-- starts with as many frames
pub start_apart : (s t : Option Image) (us vs : List ℕ) → IfSome s IsStart → IfSome t IsStart → start_frames s ≡ start_frames t
    → start_units s ++ us ≡ start_units t ++ vs → (s ≡ t) × (us ≡ vs)
start_apart None None us vs h k n e = (refl, e)
start_apart None (Some t) us vs h k n e = absurd (omega (arith, k.some_frame, n))
start_apart (Some s) None us vs h k n e = absurd (omega (arith, h.some_frame, n))
start_apart (Some s) (Some t) us vs h k n e =
    let f = sym (append_assoc (frame_number s.root) (frames_of s) us) ∙ e ∙ append_assoc (frame_number t.root) (frames_of t) vs in
    let root = number_64 s.root t.root _ _ h.image.root k.image.root f in
    let lengths = sym (finite.len-entries s.frames) ∙ n ∙ finite.len-entries t.frames in
    let entries = lists_apart FrameFits frame frames_apart (finite.entries s.frames) (finite.entries t.frames) us vs
    (image_frames_fit Segment s h.image) (image_frames_fit Segment t k.image) lengths root.1 in
    let frames = finite.same_entries_map s.frames t.frames entries.0 in
    let applied : s.applied ≡ t.applied = h.applied ∙ sym k.applied in
    (λ i. Some (record { applied = applied i; root = root.0 i; frames = frames i }), entries.1)

recordings_apart : (form : Form) (s t : Recording) → IsVersionOf form s.version → IsVersionOf form t.version → IsRecording s → IsRecording t
    → spelling s ≡ spelling t → s ≡ t
recordings_apart form s t of also_of h k e =
    let both = sym (spelling_is s) ∙ e ∙ spelling_is t in
    let same_magic = magic_is form s.version of ∙ sym (magic_is form t.version also_of) in
    let f : versioned s ≡ versioned t = append_cancel_left (magic s.version) (versioned s) (versioned t)
    (both ∙ ap (λ (l : List ℕ). l ++ versioned t) (sym same_magic)) in
    let (version, g) = versions_apart form s.version t.version (numbered s) (numbered t) of also_of f in
    let also = subst (λ (v : Version). IsCounts v (counts_of t)) (sym version) (counts_fit t k) in
    let g' = subst (λ (v : Version). counts s.version (counts_of s) ++ counted s ≡ counts v (counts_of t) ++ counted t) (sym version) g in
    let numbers = counts_apart s.version (counts_of s) (counts_of t) _ _ (counts_fit s h) also g' in
    let layout = ap (λ (c : Counts). c.layout) numbers.0 in
    let start = start_apart s.start t.start _ _ h.start k.start (ap (λ (c : Counts). c.start) numbers.0) numbers.1 in
    let log = lists_apart (λ call. call < 2 ^ 32) log_word log_words_apart s.log t.log _ _ (recursion_from_All _ _ h.log) (recursion_from_All _ _ k.log)
    (ap (λ (c : Counts). c.places) numbers.0) start.1 in
    let in_one : AllByRecursion (IsEvent s.version s.layout) t.events =
    subst₂ (λ (v : Version) (l : Layout). AllByRecursion (IsEvent v l) t.events) (sym version) (sym layout)
    (recursion_from_All (IsEvent t.version t.layout) t.events k.events) in
    let calls = lists_apart (IsEvent s.version s.layout) event (events_apart s.version s.layout (is_wide s.version s.layout h.layout)) s.events t.events _ _
    (recursion_from_All _ _ h.events) in_one (ap (λ (c : Counts). c.events) numbers.0) log.1 in
    let lengths = h.one_dump_each ∙ ap (λ (c : Counts). c.layout.replicas) numbers.0 ∙ sym k.one_dump_each in
    let in_version : AllByRecursion (IsImage s.version) t.dumps =
    subst (λ (v : Version). AllByRecursion (IsImage v) t.dumps) (sym version) (recursion_from_All (IsImage t.version) t.dumps k.dumps) in
    let images = lists_apart (IsImage s.version) dump (images_apart s.version) s.dumps t.dumps [] [] (recursion_from_All _ _ h.dumps) in_version lengths
    (ap (λ rest. rest ++ []) calls.1) in
    λ i. record { version = version i; layout = layout i; start = start.0 i; log = log.0 i; events = calls.0 i; dumps = images.0 i }

-- bytes spell at most one trace, and one segment
pub one_recording : (form : Form) (bytes : List ℕ) (s t : Recording) → SpellsAs form bytes s → SpellsAs form bytes t → s ≡ t
one_recording form bytes s t h k = recordings_apart form s t h.of_form k.of_form h.in_range k.in_range (sym h.spelled ∙ k.spelled)

pub one_trace : (bytes : List ℕ) (s t : Recording) → Spells bytes s → Spells bytes t → s ≡ t
one_trace bytes s t h k = one_recording forms.Trace bytes s t h k
