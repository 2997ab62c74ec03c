-- A reader that has taken the head of a dump, or the root of a start.
use Rattle.std.proofs.Common.{◌≡◌, ◌≢◌, ℕ, zero, suc, ◌+◌, ◌-◌, ◌^◌, ◌<◌, ◌≤◌, List, [], ◌++◌, length, map, All, Some, None, refl, sym, ap}
use Rattle.std.proofs.Common.{subst, ◌∙◌, arith}
use Rattle.std.specs.List.{flat_map}
use Rattle.std.specs.FinMap as finite
use Rattle.std.specs.Ordering.{nat_cmp}
use Rattle.std.proofs.lemmas.List.{append-nil, nil_from_length}
use Rattle.std.proofs.lemmas.List.Elements.{All-nil}
use Rattle.vs_walk.specs.Dump.{Image}
use Rattle.vs_types.specs.Frame.{IsFrame}
use Rattle.nr_trace.specs.Recording.{IsImage}
use Rattle.nr_trace.specs.Spelling.{dump_head, frame_number, frames}
use Rattle.nr_trace.specs.inside.Reading.{SpellsHead}
use Rattle.nr_trace.specs.declared.formats.fields.DumpHead.{DumpHead}
use Rattle.nr_trace.specs.FirstFault.{AtFrames, AtDumps, AtLog, AtStart, IsDumpHead, and_then, of_dump, of_start, refusal_at}
use Rattle.vs_types.specs.Config.{Layout}
use Rattle.nr_trace.specs.inside.Progress.{HasRead, AreInRange, IsOwner, IsReady, BehindDumps, Ahead}
use Rattle.nr_trace.specs.inside.Progress.{front_with, header_units, opened_spelling, said, whole_of, whole_spelling}
use Rattle.nr_trace.specs.declared.refusals.refusal.Refusal.{Refusal}
use Rattle.nr_trace.specs.declared.refusals.refusal.TraceUnit.TheVariants as units
use Rattle.nr_trace.specs.declared.refusals.fault.Format.TheVariants.{BadCount}
use Rattle.nr_trace.specs.declared.reading.reader.Parts.{Parts}
use Rattle.nr_trace.specs.declared.reading.reader.Reader.{Reader}
use Rattle.nr_trace.specs.declared.reading.reader.Reader.TheVariants.{Dumps, Frame, Root}
use Rattle.nr_trace.specs.declared.reading.reader.Owner.{Owner}
use Rattle.nr_trace.specs.declared.reading.reader.Owner.TheVariants as owners
use Rattle.nr_trace.specs.declared.formats.fields.Counts.{Counts}
use Rattle.nr_trace.specs.declared.formats.version.Version.{Version}
use Rattle.vs_types.specs.declared.limits.TheConstants.{FRAMES}
use Rattle.nr_trace.proofs.LawsOfUnits.{few_of, few_of_start}
use Rattle.nr_trace.proofs.Units.{refused, passed, goes_on}
use Rattle.nr_trace.proofs.Frames.{frame_bytes, no_frame}

dump_passed : (version : Version) (replica dumps index behind left : ℕ) (head : DumpHead) (unit rest : List ℕ) (fault : Refusal) → index ≡ 0
    → behind ≡ replica + 1
    → left + 1 ≡ dumps → IsDumpHead version head → unit ≡ dump_head head
    → AtFrames (of_dump replica) index head.frames None (AtDumps version behind left) rest fault → AtDumps version replica dumps (unit ++ rest) fault
unfolding AtDumps
dump_passed version replica zero index behind left head unit rest fault first next one_less fits is h = absurd (omega arith)
dump_passed version replica (suc dumps) index behind left head unit rest fault first next one_less fits is h =
    let same : left ≡ dumps = omega arith in
    passed 16 (units.DumpHead replica) (Some BadCount) (IsDumpHead version) dump_head
    (λ head. AtFrames (of_dump replica) 0 head.frames None (AtDumps version (replica + 1) dumps)) fault unit rest head fits is
    (subst (λ (n : ℕ). AtFrames (of_dump replica) 0 head.frames None (AtDumps version (replica + 1) n) rest fault) same
    (subst (λ (n : ℕ). AtFrames (of_dump replica) 0 head.frames None (AtDumps version n left) rest fault) next
    (subst (λ (n : ℕ). AtFrames (of_dump replica) n head.frames None (AtDumps version behind left) rest fault) first h)))

dump_refused : (version : Version) (replica dumps : ℕ) (unit rest : List ℕ) → 1 ≤ dumps → length unit ≡ 16
    → ((head : DumpHead) → IsDumpHead version head → unit ≢ dump_head head)
    → AtDumps version replica dumps (unit ++ rest) (and_then rest (refusal_at (units.DumpHead replica) unit BadCount))
unfolding AtDumps
dump_refused version replica zero unit rest some whole none = absurd (omega arith)
dump_refused version replica (suc dumps) unit rest some whole none =
    refused 16 (units.DumpHead replica) BadCount (IsDumpHead version) dump_head
    (λ head. AtFrames (of_dump replica) 0 head.frames None (AtDumps version (replica + 1) dumps))
    unit rest (refusal_at (units.DumpHead replica) unit BadCount) refl whole none

pub head_refused : (parts : Parts) (unit rest : List ℕ) (refusal : Refusal) → length parts.dumps.items < parts.layout.replicas → length unit ≡ 16
    → ((head : DumpHead) → SpellsHead parts.version unit head → ⊥) → refusal ≡ refusal_at (units.DumpHead (length parts.dumps.items)) unit BadCount
    → Ahead (Dumps parts) (unit ++ rest) (and_then rest refusal)
head_refused parts unit rest refusal one_left whole none is =
    let here : length parts.dumps.items + 0 ≡ length parts.dumps.items = omega arith in
    subst (λ (r : Refusal). Ahead (Dumps parts) (unit ++ rest) (and_then rest r))
    (ap (λ (n : ℕ). refusal_at (units.DumpHead n) unit BadCount) here ∙ sym is)
    (dump_refused parts.version (length parts.dumps.items + 0) (parts.layout.replicas - (length parts.dumps.items + 0)) unit rest
    (omega (arith, one_left)) whole
    (λ head fits e. none head (record { in_range = fits; spelled = e })))

no_entries : finite.entries (finite.empty {X = List ℕ} {R = nat_cmp}) ≡ []
no_entries = nil_from_length (finite.entries (finite.empty {X = List ℕ} {R = nat_cmp})) (sym (finite.len-entries (finite.empty {X = List ℕ} {R = nat_cmp}))
    ∙ finite.len-empty nat_cmp (List ℕ))

abbrev pub first_image : DumpHead → Image
first_image head = record { applied = head.applied; root = head.root; frames = finite.empty }

no_frames : finite.len (finite.empty {X = List ℕ} {R = nat_cmp}) ≡ 0
no_frames = finite.len-empty nat_cmp (List ℕ)

no_keys : finite.keys (finite.empty {X = List ℕ} {R = nat_cmp}) ≡ []
no_keys = ap (map (λ (e : ℕ × List ℕ). e.0)) no_entries

no_values : finite.values (finite.empty {X = List ℕ} {R = nat_cmp}) ≡ []
no_values = ap (map (λ (e : ℕ × List ℕ). e.1)) no_entries

-- a dump of which no frame has come yet
none_come : (parts : Parts) (owner : Owner) (head : DumpHead) → AreInRange parts → IsOwner parts owner head.applied head.frames → head.applied < 2 ^ 32
    → head.root < 2 ^ 64 → 1 ≤ head.frames → head.frames ≤ FRAMES
    → IsReady (Frame parts (record { dump = first_image head; left = head.frames; owner = owner }) None)
none_come parts owner head in_range is applied root some few = (
  record {
    in_range = in_range;
    owner = let all : head.frames ≡ finite.len (finite.empty {X = List ℕ} {R = nat_cmp}) + head.frames = omega (arith, no_frames) in
        subst (IsOwner parts owner head.applied) all is;
    applied = applied;
    root = root;
    numbers = subst (All (λ n. n < 2 ^ 40)) (sym no_keys) (All-nil (λ n. n < 2 ^ 40));
    words = subst (All IsFrame) (sym no_values) (All-nil IsFrame);
    some_left = some;
    few_frames = omega (arith, no_frames, few);
  },
  λ number next. subst (All (λ held. held < number)) (sym no_keys) (All-nil (λ held. held < number)),
)

none_spelled : (parts : Parts) (owner : Owner) (head : DumpHead)
    → opened_spelling parts (record { dump = first_image head; left = head.frames; owner = owner })
    ≡ front_with parts owner (first_image head) head.frames
none_spelled parts owner head =
    ap (λ (n : ℕ). front_with parts owner (first_image head) n ++ flat_map frame_bytes (finite.entries (finite.empty {X = List ℕ} {R = nat_cmp})))
    (let all : finite.len (finite.empty {X = List ℕ} {R = nat_cmp}) + head.frames ≡ head.frames = omega (arith, no_frames) in all)
    ∙ ap (λ (es : List (ℕ × List ℕ)). front_with parts owner (first_image head) head.frames ++ flat_map frame_bytes es) no_entries
    ∙ append-nil (front_with parts owner (first_image head) head.frames)

-- what is ahead of the head of a dump
head_faults : (parts : Parts) (head : DumpHead) (unit rest : List ℕ) (fault : Refusal) → length parts.dumps.items < parts.layout.replicas
    → SpellsHead parts.version unit head
    → AtFrames (of_dump (length parts.dumps.items)) 0 head.frames None (BehindDumps parts 1) rest fault
    → Ahead (Dumps parts) (unit ++ rest) fault
head_faults parts head unit rest fault one_left spells h =
    let replica = length parts.dumps.items in
    let same : replica ≡ replica + 0 = omega arith in
    let left : parts.layout.replicas - (replica + 1) + 1 ≡ parts.layout.replicas - replica = omega (arith, one_left) in
    subst (λ (n : ℕ). AtDumps parts.version n (parts.layout.replicas - n) (unit ++ rest) fault) same
    (dump_passed parts.version replica (parts.layout.replicas - replica) 0 (replica + 1) (parts.layout.replicas - (replica + 1))
    head unit rest fault refl refl left spells.in_range spells.spelled h)

pub head_taken : (parts : Parts) (head : DumpHead) (image : Image) (unit : List ℕ) → image ≡ first_image head → AreInRange parts
    → length parts.dumps.items < parts.layout.replicas → SpellsHead parts.version unit head → 1 ≤ head.frames
    → HasRead parts.form (said (Dumps parts) ++ unit) (λ rest fault. Ahead (Dumps parts) (unit ++ rest) fault)
    (Frame parts (record { dump = image; left = head.frames; owner = owners.Replica }) None)
head_taken parts head image unit begins in_range one_left spells some =
    let made : HasRead parts.form (said (Dumps parts) ++ unit) (λ rest fault. Ahead (Dumps parts) (unit ++ rest) fault)
    (Frame parts (record { dump = first_image head; left = head.frames; owner = owners.Replica }) None) = record {
      form_is = refl;
      ready = none_come parts owners.Replica head in_range (one_left, spells.in_range.few_frames) spells.in_range.applied spells.in_range.root some
          (omega (arith, spells.in_range.few_frames, few_of parts.version));
      bytes_are = none_spelled parts owners.Replica head ∙ ap (λ (l : List ℕ). whole_spelling parts ++ l) (sym spells.spelled);
      faults = λ rest fault h. head_faults parts head unit rest fault one_left spells
          (subst (λ (n : ℕ). AtFrames (of_dump (length parts.dumps.items)) n head.frames None (BehindDumps parts 1) rest fault) no_frames h);
    } in
    subst (λ (d : Image). HasRead parts.form (said (Dumps parts) ++ unit) (λ rest fault. Ahead (Dumps parts) (unit ++ rest) fault)
    (Frame parts (record { dump = d; left = head.frames; owner = owners.Replica }) None)) (sym begins) made

-- a dump without frames is whole
pub head_belongs : (version : Version) (head : DumpHead) (image : Image) → image ≡ first_image head → IsDumpHead version head → head.frames ≡ 0
    → IsImage version image
head_belongs version head image begins fits none = subst (IsImage version) (sym begins) (record {
  applied = fits.applied;
  root = fits.root;
  some_frame = omega (arith, no_frames, fits.some_frame, none);
  few_frames = omega (arith, no_frames);
  nothing = λ _. fits.nothing none;
  numbers = subst (All (λ n. n < 2 ^ 40)) (sym no_keys) (All-nil (λ n. n < 2 ^ 40));
  words = subst (All IsFrame) (sym no_values) (All-nil IsFrame);
})

pub head_whole : (parts : Parts) (head : DumpHead) (image : Image) (unit : List ℕ) (reader : Reader) → image ≡ first_image head
    → length parts.dumps.items < parts.layout.replicas → SpellsHead parts.version unit head → head.frames ≡ 0
    → HasRead parts.form (opened_spelling parts (whole_of owners.Replica image)) (BehindDumps parts 1) reader
    → HasRead parts.form (said (Dumps parts) ++ unit) (λ rest fault. Ahead (Dumps parts) (unit ++ rest) fault) reader
head_whole parts head image unit reader begins one_left spells none has =
    let read : HasRead parts.form (opened_spelling parts (whole_of owners.Replica (first_image head))) (BehindDumps parts 1) reader =
    subst (λ (d : Image). HasRead parts.form (opened_spelling parts (whole_of owners.Replica d)) (BehindDumps parts 1) reader) begins has in
    goes_on parts.form reader _ _ _ _ read
    (ap (λ (n : ℕ). opened_spelling parts (record { dump = first_image head; left = n; owner = owners.Replica })) (sym none)
    ∙ none_spelled parts owners.Replica head ∙ ap (λ (l : List ℕ). whole_spelling parts ++ l) (sym spells.spelled))
    (λ rest fault h. head_faults parts head unit rest fault one_left spells
    (no_frame (of_dump (length parts.dumps.items)) 0 head.frames None (BehindDumps parts 1) rest fault none h))

-- the root of a start
pub root_taken : (parts : Parts) (numbers : Counts) (image : Image) (root : ℕ) (unit : List ℕ)
    → image ≡ first_image (record { applied = 0; frames = numbers.start; root = root }) → IsReady (Root parts numbers) → root < 2 ^ 64
    → unit ≡ frame_number root
    → HasRead parts.form (said (Root parts numbers) ++ unit) (λ rest fault. Ahead (Root parts numbers) (unit ++ rest) fault)
    (Frame parts (record { dump = image; left = numbers.start; owner = owners.Start numbers.places numbers.events }) None)
root_taken parts numbers image root unit begins ready fits is =
    let owner = owners.Start numbers.places numbers.events in
    let head : DumpHead = record { applied = 0; frames = numbers.start; root = root } in
    let given = ready.2 in
    let layout = ready.3 in
    let behind = AtLog parts.version parts.layout 0 numbers.places numbers.events in
    let made : HasRead parts.form (said (Root parts numbers) ++ unit) (λ rest fault. Ahead (Root parts numbers) (unit ++ rest) fault)
    (Frame parts (record { dump = first_image head; left = numbers.start; owner = owner }) None) = record {
      form_is = refl;
      ready = none_come parts owner head ready.0 (ready.1, given.few_places, given.few_events, refl, given.few_start) (omega arith) fits ready.4
          (omega (arith, given.few_start, few_of_start parts.version));
      bytes_are = none_spelled parts owner head
          ∙ ap (λ (l : Layout). header_units (record { layout = l; places = numbers.places; events = numbers.events; start = numbers.start }) parts
          ++ frame_number root) (sym layout)
          ∙ ap (λ (l : List ℕ). header_units numbers parts ++ l) (sym is);
      faults = λ rest fault h. root_passed numbers.start behind root unit rest fault ready.4 fits is
          (subst (λ (n : ℕ). AtFrames of_start n numbers.start None behind rest fault) no_frames h);
    } in
    subst (λ (d : Image). HasRead parts.form (said (Root parts numbers) ++ unit) (λ rest fault. Ahead (Root parts numbers) (unit ++ rest) fault)
    (Frame parts (record { dump = d; left = numbers.start; owner = owner }) None)) (sym begins) made where
      root_passed : (frames : ℕ) (Behind : List ℕ → Refusal → Type 0) (root : ℕ) (unit rest : List ℕ) (fault : Refusal) → 1 ≤ frames → root < 2 ^ 64
          → unit ≡ frame_number root → AtFrames of_start 0 frames None Behind rest fault → AtStart frames Behind (unit ++ rest) fault
      root_passed zero Behind root unit rest fault some fits is h = absurd (omega arith)
      root_passed (suc frames) Behind root unit rest fault some fits is h =
          passed 8 units.StartRoot None (λ root. root < 2 ^ 64) frame_number (λ _. AtFrames of_start 0 (suc frames) None Behind) fault unit rest root fits is h
