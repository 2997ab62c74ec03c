-- A reader that has taken a unit of a dump.
use Rattle.std.proofs.Common.{◌≡◌, ◌≢◌, ℕ, zero, suc, ◌+◌, ◌-◌, ◌^◌, ◌<◌, ◌≤◌, List, [], ◌∷◌, ◌++◌, length, map, All, Option, Some, None, refl, sym, ap}
use Rattle.std.proofs.Common.{subst, ◌∙◌, arith, append_assoc}
use Rattle.std.specs.Global.{Vec}
use Rattle.std.specs.List.{flat_map}
use Rattle.std.specs.FinMap as finite
use Rattle.std.specs.Cmp.{nat_cmp_total}
use Rattle.std.proofs.lemmas.List.{append-nil, length-append, map-append}
use Rattle.std.proofs.lemmas.List.Concat.{flat_map-cons}
use Rattle.std.proofs.lemmas.Grind.{flat_map-append}
use Rattle.std.proofs.lemmas.List.Elements.{All-push, All-nil}
use Rattle.vs_walk.specs.Memory.{Memory}
use Rattle.vs_walk.specs.Dump.{Image, OpenImage}
use Rattle.vs_types.specs.Frame.{IsFrame}
use Rattle.nr_trace.specs.Versions.{least_frames, most_frames}
use Rattle.nr_trace.specs.Recording.{IsImage, start_frames}
use Rattle.nr_trace.specs.Spelling.{dump, dump_head, event, frame_number, frame_words, frames, log_word, start_units}
use Rattle.nr_trace.specs.inside.Reading.{HasWords}
use Rattle.nr_trace.specs.FirstFault.{AtUnit, AtFrames, AtDumps, AtLog, AtStart, IsNext, OfFrames, and_then, refusal_at}
use Rattle.vs_types.specs.Config.{Layout}
use Rattle.nr_trace.specs.inside.Progress.{HasRead, AreInRange, IsEmpty, IsOpened, IsOwner, IsReady, AreBelow, BehindDumps, BehindFrames, Belongs, AtWords}
use Rattle.nr_trace.specs.inside.Progress.{Ahead}
use Rattle.nr_trace.specs.inside.Progress.{front_with, header_units, numbers_of, opened_spelling, frames_of, parts_spelling, said, whole_of, whole_spelling}
use Rattle.nr_trace.specs.inside.Progress.{begun, opened_of, frame_begun, words_begun}
use Rattle.nr_trace.specs.declared.refusals.refusal.Refusal.{Refusal}
use Rattle.nr_trace.specs.declared.reading.reader.Parts.{Parts}
use Rattle.nr_trace.specs.declared.reading.reader.Opened.{Opened}
use Rattle.nr_trace.specs.declared.reading.reader.OpenFrame.{OpenFrame}
use Rattle.nr_trace.specs.declared.reading.reader.Reader.{Reader}
use Rattle.nr_trace.specs.declared.reading.reader.Reader.TheVariants.{Dumps, Frame, Words}
use Rattle.nr_trace.specs.declared.reading.reader.Owner.{Owner}
use Rattle.nr_trace.specs.declared.reading.reader.Owner.TheVariants as owners
use Rattle.nr_trace.specs.declared.recordings.event.Event.{Event}
use Rattle.nr_trace.specs.declared.formats.fields.Counts.{Counts}
use Rattle.nr_trace.specs.declared.formats.version.Version.{Version}
use Rattle.nr_trace.specs.declared.formats.version.Version.TheVariants.{V1, Segment}
use Rattle.vs_walk.proofs.Dumps.{put_last, numbers_push, count_push}
use Rattle.nr_trace.proofs.Spelled.{front_of, spelling_of, more_dump}
use Rattle.nr_trace.proofs.Units.{refused, passed, goes_on}

-- ---- memories that grow by a frame above all others

pub entries_more : (memory : Memory) (k : ℕ) (v : List ℕ) → All (λ held. held < k) (finite.keys memory)
    → finite.entries (finite.insert memory k v) ≡ finite.entries memory ++ (k, v) ∷ []
entries_more memory k v above = finite.entries-insert nat_cmp_total memory k v ∙ put_last (finite.entries memory) k v above

pub values_more : (memory : Memory) (k : ℕ) (v : List ℕ) → All (λ held. held < k) (finite.keys memory)
    → finite.values (finite.insert memory k v) ≡ finite.values memory ++ v ∷ []
values_more memory k v above =
    ap (map (λ (e : ℕ × List ℕ). e.1)) (entries_more memory k v above) ∙ map-append (λ (e : ℕ × List ℕ). e.1) (finite.entries memory) ((k, v) ∷ [])

-- ---- the number of a frame

pub number_passed : (own : OfFrames) (index frames : ℕ) (last : Option ℕ) (Behind : List ℕ → Refusal → Type 0)
    (number : ℕ) (unit rest : List ℕ) (fault : Refusal)
    → 1 ≤ frames → IsNext last number → unit ≡ frame_number number
    → AtUnit 4096 (own.words index) None IsFrame frame_words (λ words. AtFrames own (index + 1) (frames - 1) (Some number) Behind) rest fault
    → AtFrames own index frames last Behind (unit ++ rest) fault
unfolding AtFrames
number_passed own index zero last Behind number unit rest fault some next is h = absurd (omega arith)
number_passed own index (suc frames) last Behind number unit rest fault some next is h =
    let down : suc frames - 1 ≡ frames = omega arith in
    passed 8 (own.number index) (Some (own.fault index)) (IsNext last) frame_number
    (λ n. AtUnit 4096 (own.words index) None IsFrame frame_words (λ words. AtFrames own (index + 1) frames (Some n) Behind)) fault unit rest number next is
    (subst (λ (n : ℕ). AtUnit 4096 (own.words index) None IsFrame frame_words (λ words. AtFrames own (index + 1) n (Some number) Behind) rest fault) down h)

pub number_refused : (own : OfFrames) (index frames : ℕ) (last : Option ℕ) (Behind : List ℕ → Refusal → Type 0) (unit rest : List ℕ)
    → 1 ≤ frames → length unit ≡ 8
    → ((number : ℕ) → IsNext last number → unit ≢ frame_number number)
    → AtFrames own index frames last Behind (unit ++ rest) (and_then rest (refusal_at (own.number index) unit (own.fault index)))
unfolding AtFrames
number_refused own index zero last Behind unit rest some whole none = absurd (omega arith)
number_refused own index (suc frames) last Behind unit rest some whole none =
    refused 8 (own.number index) (own.fault index) (IsNext last) frame_number
    (λ n. AtUnit 4096 (own.words index) None IsFrame frame_words (λ words. AtFrames own (index + 1) frames (Some n) Behind))
    unit rest (refusal_at (own.number index) unit (own.fault index)) refl whole none

pub number_taken : (parts : Parts) (opened : Opened) (last : Option ℕ) (number : ℕ) (unit : List ℕ) → IsOpened parts opened
    → ((n : ℕ) → IsNext last n → AreBelow opened n) → IsNext last number → unit ≡ frame_number number
    → HasRead parts.form (said (Frame parts opened last) ++ unit) (λ rest fault. Ahead (Frame parts opened last) (unit ++ rest) fault)
    (Words parts (begun opened number))
number_taken parts opened last number unit is_opened below next is = record {
  form_is = refl;
  ready = (is_opened, next.in_range, below number next, All-nil (λ word. word < 2 ^ 64), omega arith, refl);
  bytes_are = append-nil (frame_begun parts (begun opened number)) ∙ ap (λ (l : List ℕ). said (Frame parts opened last) ++ l) (sym is);
  faults = λ rest fault h. number_passed (frames_of parts opened.owner) (finite.len opened.dump.frames) opened.left last
      (BehindFrames parts opened.owner) number unit rest fault is_opened.some_left next is h;
}

-- ---- the words of a frame

abbrev pub frame_bytes : ℕ × List ℕ → List ℕ
frame_bytes frame = frame_number frame.0 ++ frame_words frame.1

-- the dump with the frame that has come, which then lacks fewer
abbrev pub grown : OpenFrame → Opened
grown frame = record {
  dump = record frame.dump.dump { frames = finite.insert frame.dump.dump.frames frame.dump.number frame.dump.coming };
  left = frame.left - 1;
  owner = frame.owner;
}

frames_spelled : (memory : Memory) (number : ℕ) (words : List ℕ) → All (λ held. held < number) (finite.keys memory)
    → flat_map frame_bytes (finite.entries (finite.insert memory number words))
    ≡ flat_map frame_bytes (finite.entries memory) ++ (frame_number number ++ frame_words words)
frames_spelled memory number words above =
    ap (flat_map frame_bytes) (entries_more memory number words above)
    ∙ flat_map-append frame_bytes (finite.entries memory) ((number, words) ∷ [])
    ∙ ap (λ (l : List ℕ). flat_map frame_bytes (finite.entries memory) ++ l) (flat_map-cons frame_bytes (number, words) []
    ∙ append-nil (frame_bytes (number, words)))

-- as many frames in all
grown_count : (frame : OpenFrame) → 1 ≤ frame.left → AreBelow (opened_of frame) frame.dump.number
    → finite.len (grown frame).dump.frames + (frame.left - 1) ≡ finite.len frame.dump.dump.frames + frame.left
grown_count frame some above = omega (arith, some, count_push frame.dump.dump.frames frame.dump.number frame.dump.coming above)

-- what comes before the frames says nothing of them, but how many there are
same_front : (parts : Parts) (owner : Owner) (image : Image) (memory : Memory) (all : ℕ)
    → front_with parts owner (record { applied = image.applied; root = image.root; frames = memory }) all ≡ front_with parts owner image all
same_front parts (owners.Start places events) image memory all = refl
same_front parts owners.Replica image memory all = refl

grown_spelled : (parts : Parts) (frame : OpenFrame) → 1 ≤ frame.left → AreBelow (opened_of frame) frame.dump.number
    → opened_spelling parts (grown frame) ≡ frame_begun parts frame ++ words_begun frame
grown_spelled parts frame some above =
    let image = frame.dump.dump in
    let memory = image.frames in
    let number = frame.dump.number in
    let words = frame.dump.coming in
    let front : ℕ → List ℕ = front_with parts frame.owner image in
    let all = finite.len memory + frame.left in
    ap (λ (l : List ℕ). l ++ flat_map frame_bytes (finite.entries (finite.insert memory number words)))
    (same_front parts frame.owner image (finite.insert memory number words) (finite.len (grown frame).dump.frames + (frame.left - 1)))
    ∙ ap (λ (n : ℕ). front n ++ flat_map frame_bytes (finite.entries (finite.insert memory number words))) (grown_count frame some above)
    ∙ ap (λ (l : List ℕ). front all ++ l) (frames_spelled memory number words above)
    ∙ sym (append_assoc (front all) (flat_map frame_bytes (finite.entries memory)) (frame_number number ++ frame_words words))
    ∙ sym (append_assoc (opened_spelling parts (opened_of frame)) (frame_number number) (frame_words words))

-- the frame goes after the others, whatever the reader does then
words_faults : (parts : Parts) (frame : OpenFrame) (rest : List ℕ) (fault : Refusal) → AreBelow (opened_of frame) frame.dump.number
    → IsFrame frame.dump.coming
    → AtFrames (frames_of parts frame.owner) (finite.len (grown frame).dump.frames) (frame.left - 1) (Some frame.dump.number)
    (BehindFrames parts frame.owner) rest fault
    → AtWords parts frame (words_begun frame ++ rest) fault
words_faults parts frame rest fault above are h =
    let memory = frame.dump.dump.frames in
    passed 4096 ((frames_of parts frame.owner).words (finite.len memory)) None IsFrame frame_words
    (λ _. AtFrames (frames_of parts frame.owner) (finite.len memory + 1) (frame.left - 1) (Some frame.dump.number) (BehindFrames parts frame.owner)) fault
    (words_begun frame) rest frame.dump.coming are refl
    (subst (λ (n : ℕ). AtFrames (frames_of parts frame.owner) n (frame.left - 1) (Some frame.dump.number) (BehindFrames parts frame.owner) rest fault)
    (count_push memory frame.dump.number frame.dump.coming above) h)

grown_numbers : (frame : OpenFrame) → All (λ n. n < 2 ^ 40) (finite.keys frame.dump.dump.frames) → frame.dump.number < 2 ^ 40
    → AreBelow (opened_of frame) frame.dump.number → All (λ n. n < 2 ^ 40) (finite.keys (grown frame).dump.frames)
grown_numbers frame fit fits above =
    let memory = frame.dump.dump.frames in
    subst (All (λ n. n < 2 ^ 40)) (sym (numbers_push memory frame.dump.number frame.dump.coming above))
    (All-push (λ n. n < 2 ^ 40) (finite.keys memory) frame.dump.number fit fits)

grown_words : (frame : OpenFrame) → All IsFrame (finite.values frame.dump.dump.frames) → IsFrame frame.dump.coming
    → AreBelow (opened_of frame) frame.dump.number → All IsFrame (finite.values (grown frame).dump.frames)
grown_words frame fit fits above =
    let memory = frame.dump.dump.frames in
    subst (All IsFrame) (sym (values_more memory frame.dump.number frame.dump.coming above))
    (All-push IsFrame (finite.values memory) frame.dump.coming fit fits)

grown_below : (frame : OpenFrame) → AreBelow (opened_of frame) frame.dump.number → (next : ℕ) → IsNext (Some frame.dump.number) next
    → AreBelow (grown frame) next
grown_below frame above next is_next =
    let number = frame.dump.number in
    let memory = frame.dump.dump.frames in
    subst (All (λ held. held < next)) (sym (numbers_push memory number frame.dump.coming above))
    (All-push (λ held. held < next) (finite.keys memory) number (λ k d within. let one = above k d within in
    omega (arith, one, is_next.rises)) is_next.rises)

-- a frame is left
pub frame_taken : (parts : Parts) (frame : OpenFrame) → IsOpened parts (opened_of frame) → frame.dump.number < 2 ^ 40
    → AreBelow (opened_of frame) frame.dump.number → IsFrame frame.dump.coming → 1 ≤ frame.left - 1
    → HasRead parts.form (frame_begun parts frame ++ words_begun frame) (λ rest fault. AtWords parts frame (words_begun frame ++ rest) fault)
    (Frame parts (grown frame) (Some frame.dump.number))
frame_taken parts frame is_opened fits above are more = record {
  form_is = refl;
  ready = (
    record {
      in_range = is_opened.in_range;
      owner = subst (IsOwner parts frame.owner frame.dump.dump.applied) (sym (grown_count frame is_opened.some_left above)) is_opened.owner;
      applied = is_opened.applied;
      root = is_opened.root;
      numbers = grown_numbers frame is_opened.numbers fits above;
      words = grown_words frame is_opened.words are above;
      some_left = more;
      few_frames = omega (arith, count_push frame.dump.dump.frames frame.dump.number frame.dump.coming above, is_opened.few_frames, is_opened.some_left);
    },
    grown_below frame above,
  );
  bytes_are = grown_spelled parts frame is_opened.some_left above;
  faults = λ rest fault h. words_faults parts frame rest fault above are h;
}

pub no_frame : (own : OfFrames) (index frames : ℕ) (last : Option ℕ) (Behind : List ℕ → Refusal → Type 0) (rest : List ℕ) (fault : Refusal)
    → frames ≡ 0 → Behind rest fault → AtFrames own index frames last Behind rest fault
unfolding AtFrames
no_frame own index frames last Behind rest fault none h = subst (λ (n : ℕ). AtFrames own index n last Behind rest fault) (sym none) h

least_one : (version : Version) → least_frames version ≤ 1
least_one V1 = omega arith
least_one _ = omega arith

-- a dump of which no frame is left is whole
module _ (parts : Parts) (frame : OpenFrame) (is_opened : IsOpened parts (opened_of frame)) (fits : frame.dump.number < 2 ^ 40)
    (above : AreBelow (opened_of frame) frame.dump.number) (are : IsFrame frame.dump.coming) (none : frame.left - 1 ≡ 0) where
  grown_is_image : (version : Version) → finite.len frame.dump.dump.frames + frame.left ≤ most_frames version → IsImage version (grown frame).dump
  grown_is_image version few =
      let count = count_push frame.dump.dump.frames frame.dump.number frame.dump.coming above in
      let least = least_one version in
      record {
        applied = is_opened.applied;
        root = is_opened.root;
        some_frame = omega (arith, count, least);
        few_frames = omega (arith, count, few, is_opened.some_left);
        nothing = λ empty. absurd (omega (arith, count, empty));
        numbers = grown_numbers frame is_opened.numbers fits above;
        words = grown_words frame is_opened.words are above;
      }

  belongs_to : (owner : Owner) → IsOwner parts owner frame.dump.dump.applied (finite.len frame.dump.dump.frames + frame.left)
      → Belongs parts owner (grown frame).dump
  belongs_to (owners.Start places events) is =
      let count = count_push frame.dump.dump.frames frame.dump.number frame.dump.coming above in (
        is.0,
        is.1,
        is.2,
        record { image = grown_is_image Segment is_opened.few_frames; some_frame = omega (arith, count); applied = is.3 },
        omega (arith, count, is.4, is_opened.some_left),
      )
  belongs_to owners.Replica is = (is.0, grown_is_image parts.version is.1)

  pub grown_belongs : Belongs parts frame.owner (grown frame).dump
  grown_belongs = belongs_to frame.owner is_opened.owner

  -- the frame was the last one
  pub dump_taken : (reader : Reader) → HasRead parts.form (opened_spelling parts (whole_of frame.owner (grown frame).dump))
      (BehindFrames parts frame.owner) reader
      → HasRead parts.form (frame_begun parts frame ++ words_begun frame) (λ rest fault. AtWords parts frame (words_begun frame ++ rest) fault) reader
  dump_taken reader has =
      let image = (grown frame).dump in
      goes_on parts.form reader _ _ _ _ has
      (ap (λ (n : ℕ). front_with parts frame.owner image (finite.len image.frames + n) ++ flat_map frame_bytes (finite.entries image.frames)) (sym none)
      ∙ grown_spelled parts frame is_opened.some_left above)
      (λ rest fault h. words_faults parts frame rest fault above are
      (no_frame (frames_of parts frame.owner) (finite.len image.frames) (frame.left - 1) (Some frame.dump.number) (BehindFrames parts frame.owner)
      rest fault none h))

-- a dump goes after the others
pub dump_put : (parts next : Parts) (held : Vec Image) (dump : Image) → next ≡ record parts { dumps = held }
    → held.items ≡ parts.dumps.items ++ dump ∷ [] → AreInRange parts → length parts.dumps.items < parts.layout.replicas → IsImage parts.version dump
    → HasRead parts.form (opened_spelling parts (whole_of owners.Replica dump)) (BehindDumps parts 1) (Dumps next)
dump_put parts next held dump is one_more in_range one_left image =
    let count : length held.items ≡ length parts.dumps.items + 1 = ap length one_more ∙ length-append parts.dumps.items (dump ∷ []) in
    let front = front_of parts (length parts.log.items) (length parts.events.items) in
    let whole = whole_spelling parts in
    let made : HasRead parts.form (opened_spelling parts (whole_of owners.Replica dump)) (BehindDumps parts 1) (Dumps (record parts { dumps = held })) =
    record {
      form_is = refl;
      ready = record {
        of_form = in_range.of_form;
        follows = in_range.follows;
        layout = in_range.layout;
        depth = in_range.depth;
        start = in_range.start;
        few_start = in_range.few_start;
        few_places = in_range.few_places;
        log = in_range.log;
        few_events = in_range.few_events;
        events = in_range.events;
        few_dumps = omega (arith, count, one_left);
        dumps = subst (All (IsImage parts.version)) (sym one_more) (All-push (IsImage parts.version) parts.dumps.items dump in_range.dumps image);
      };
      bytes_are = ap (spelling_of front parts.log.items parts.events.items) one_more
          ∙ more_dump front parts.log.items parts.events.items parts.dumps.items dump
          ∙ ap (λ (n : ℕ). whole ++ (dump_head (record { applied = dump.applied; frames = n; root = dump.root }) ++ frames dump))
          (let all : finite.len dump.frames ≡ finite.len dump.frames + 0 = omega arith in all)
          ∙ sym (append_assoc whole (dump_head (record { applied = dump.applied; frames = finite.len dump.frames + 0; root = dump.root })) (frames dump));
      faults = λ rest fault h.
          let place : length held.items + 0 ≡ length parts.dumps.items + 1 = omega (arith, count) in
          subst (λ (n : ℕ). AtDumps parts.version n (parts.layout.replicas - n) rest fault) place h;
    } in
    subst (λ (p : Parts). HasRead parts.form (opened_spelling parts (whole_of owners.Replica dump)) (BehindDumps parts 1) (Dumps p)) (sym is) made

-- nothing has come behind a start
nothing_behind : (front : List ℕ) (log : List ℕ) (recorded : List Event) (dumps : List Image) → log ≡ [] → recorded ≡ [] → dumps ≡ []
    → spelling_of front log recorded dumps ≡ front
nothing_behind front log recorded dumps no_log no_events no_dumps =
    ap (λ (l : List ℕ). front ++ flat_map log_word l ++ flat_map event recorded ++ flat_map dump dumps) no_log
    ∙ ap (λ (es : List Event). front ++ [] ++ flat_map event es ++ flat_map dump dumps) no_events
    ∙ ap (λ (ds : List Image). front ++ [] ++ [] ++ flat_map dump ds) no_dumps
    ∙ append-nil (front ++ [] ++ []) ∙ append-nil (front ++ []) ∙ append-nil front

-- a start without frames is none
pub no_start : (parts : Parts) (numbers : Counts) (reader : Reader) → IsEmpty parts → numbers.layout ≡ parts.layout → numbers.start ≡ 0
    → HasRead parts.form (parts_spelling (length parts.log.items + numbers.places) numbers.events parts)
    (AtLog parts.version parts.layout (length parts.log.items) numbers.places numbers.events) reader
    → HasRead parts.form (header_units numbers parts) (AtStart numbers.start (AtLog parts.version parts.layout 0 numbers.places numbers.events)) reader
no_start parts numbers reader empty layout none has =
    let places = length parts.log.items + numbers.places in
    let all : places ≡ numbers.places = omega (arith, ap length empty.no_log) in
    let Behind : List ℕ → Refusal → Type 0 = AtLog parts.version parts.layout 0 numbers.places numbers.events in
    goes_on parts.form reader _ _ _ _ has
    (nothing_behind (front_of parts places numbers.events) parts.log.items parts.events.items parts.dumps.items empty.no_log empty.no_events empty.no_dumps
    ∙ ap (λ (s : Option Image). header_units (numbers_of (start_frames s) places numbers.events parts) parts ++ start_units s) empty.no_start
    ∙ append-nil (header_units (numbers_of 0 places numbers.events parts) parts)
    ∙ ap (λ (n : ℕ). header_units (numbers_of 0 n numbers.events parts) parts) all
    ∙ ap (λ (n : ℕ). header_units (numbers_of n numbers.places numbers.events parts) parts) (sym none)
    ∙ ap (λ (l : Layout). header_units (record { layout = l; places = numbers.places; events = numbers.events; start = numbers.start }) parts) (sym layout))
    (λ rest fault h. subst (λ (n : ℕ). AtStart n Behind rest fault) (sym none)
    (subst (λ (n : ℕ). AtLog parts.version parts.layout n numbers.places numbers.events rest fault) (ap length empty.no_log) h))

-- ---- some words of a frame

-- the frame with the words of a run after those that had come
abbrev pub filled : OpenFrame → OpenImage → OpenFrame
filled frame dump = record {
  dump = record { dump = frame.dump.dump; number = frame.dump.number; coming = dump.coming };
  index = frame.index;
  left = frame.left;
  owner = frame.owner;
}

-- what is ahead of some words is ahead of the frame that they go into
run_faults : (parts : Parts) (frame : OpenFrame) (dump : OpenImage) (run rest : List ℕ) (fault : Refusal) → HasWords frame.dump run dump
    → AtWords parts (filled frame dump) (words_begun (filled frame dump) ++ rest) fault → Ahead (Words parts frame) (run ++ rest) fault
run_faults parts frame dump run rest fault has h =
    subst (λ (l : List ℕ). AtWords parts frame l fault)
    (ap (λ (l : List ℕ). l ++ rest) has.spelled ∙ append_assoc (words_begun frame) run rest) h

run_said : (parts : Parts) (frame : OpenFrame) (dump : OpenImage) (run : List ℕ) → HasWords frame.dump run dump
    → frame_begun parts frame ++ words_begun (filled frame dump) ≡ said (Words parts frame) ++ run
run_said parts frame dump run has =
    ap (λ (l : List ℕ). frame_begun parts frame ++ l) has.spelled
    ∙ sym (append_assoc (frame_begun parts frame) (words_begun frame) run)

-- words are left
pub run_taken : (parts : Parts) (frame next : OpenFrame) (run : List ℕ) → IsReady (Words parts frame) → HasWords frame.dump run next.dump
    → next.index ≡ frame.index → next.left ≡ frame.left → next.owner ≡ frame.owner → length next.dump.coming < 512
    → HasRead parts.form (said (Words parts frame) ++ run) (λ rest fault. Ahead (Words parts frame) (run ++ rest) fault) (Words parts next)
run_taken parts frame next run ready has at_index same own few =
    let made : HasRead parts.form (said (Words parts frame) ++ run) (λ rest fault. Ahead (Words parts frame) (run ++ rest) fault)
    (Words parts (filled frame next.dump)) =
    record {
      form_is = refl;
      ready = (ready.0, ready.1, ready.2, has.fit ready.3, few, ready.5);
      bytes_are = run_said parts frame next.dump run has;
      faults = λ rest fault h. run_faults parts frame next.dump run rest fault has h;
    } in
    subst (λ (f : OpenFrame). HasRead parts.form (said (Words parts frame) ++ run)
    (λ rest fault. Ahead (Words parts frame) (run ++ rest) fault) (Words parts f))
    (λ i. record { dump = (sym has.same) i; index = (sym at_index) i; left = (sym same) i; owner = (sym own) i }) made

-- no word is left
pub words_taken : (parts : Parts) (frame next : OpenFrame) (run : List ℕ) (reader : Reader) → HasWords frame.dump run next.dump
    → next.index ≡ frame.index → next.left ≡ frame.left → next.owner ≡ frame.owner → HasRead parts.form (frame_begun parts next ++ words_begun next)
    (λ rest fault. AtWords parts next (words_begun next ++ rest) fault) reader
    → HasRead parts.form (said (Words parts frame) ++ run) (λ rest fault. Ahead (Words parts frame) (run ++ rest) fault) reader
words_taken parts frame next run reader has at_index same own read =
    let is : next ≡ filled frame next.dump = λ i. record { dump = has.same i; index = at_index i; left = same i; owner = own i } in
    let read_so : HasRead parts.form (frame_begun parts frame ++ words_begun (filled frame next.dump))
    (λ rest fault. AtWords parts (filled frame next.dump) (words_begun (filled frame next.dump) ++ rest) fault) reader =
    subst (λ (f : OpenFrame). HasRead parts.form (frame_begun parts f ++ words_begun f) (λ rest fault. AtWords parts f (words_begun f ++ rest) fault) reader) is
    read in
    goes_on parts.form reader _ _ _ _ read_so (run_said parts frame next.dump run has)
    (λ rest fault h. run_faults parts frame next.dump run rest fault has h)
