-- Bytes beside the spelling of a trace, unit by unit: those with more after it, and those that are a front of it.
use Rattle.std.proofs.Common.{◌≡◌, ◌≢◌, ℕ, zero, suc, ◌+◌, ◌<◌, ◌≤◌, ◌^◌, ◌⊎◌, inl, inr, List, [], ◌∷◌, ◌++◌, length, Option, Some, None, refl, ap, ap₂, sym}
use Rattle.std.proofs.Common.{◌∙◌, subst, arith}
use Rattle.std.specs.Prelude.{flat_map, IfSome, ⊤}
use Rattle.std.specs.List.{AllByRecursion}
use Rattle.std.specs.FinMap as finite
use Rattle.std.proofs.lemmas.List.{append_assoc, append-nil}
use Rattle.std.proofs.lemmas.List.Elements.{recursion_from_All}
use Rattle.vs_types.specs.Config.{Layout}
use Rattle.vs_types.specs.Frame.{IsFrame}
use Rattle.vs_walk.specs.Dump.{Image}
use Rattle.nr_trace.specs.Recording.{Recording, IsRecording, IsImage, IsStart, IsEvent, start_frames}
use Rattle.nr_trace.specs.Versions.{Follows, IsVersionOf}
use Rattle.nr_trace.specs.Spelling.{version_word, counts, counts_of, dump_head, head_of, spelling, start_units, Spells, SpellsAs, SpellsSegment, log_word}
use Rattle.nr_trace.specs.Spelling.{event}
use Rattle.nr_trace.specs.Spelling.{dump}
use Rattle.nr_trace.specs.Spelling.{frame_number, frame_words}
use Rattle.nr_trace.specs.FirstFault.{AtUnit, AtEnd, IsCounts, IsDumpHead, IsNext, AtFrames, AtDumps, AtEvents, AtLog, AtStart, HasFaultAs, HasFormatFault, OfFrames}
use Rattle.nr_trace.specs.FirstFault.{counts_bytes, counts_unit, magic_of, of_dump, of_start, refusal_at}
use Rattle.nr_trace.specs.declared.refusals.fault.Format.{Format}
use Rattle.nr_trace.specs.declared.refusals.refusal.Refusal.{Refusal}
use Rattle.nr_trace.specs.declared.refusals.refusal.TraceUnit.{TraceUnit}
use Rattle.nr_trace.specs.declared.refusals.refusal.TraceUnit.TheVariants as units
use Rattle.nr_trace.specs.declared.refusals.fault.Format.TheVariants.{Truncated, BadMagic, BadVersion, BadCount, BadEvent, Trailing}
use Rattle.nr_trace.specs.declared.recordings.event.Event.{Event}
use Rattle.nr_trace.specs.declared.formats.version.Version.{Version}
use Rattle.nr_trace.specs.declared.formats.version.Version.TheVariants.{Segment}
use Rattle.nr_trace.specs.declared.formats.version.Form.{Form}
use Rattle.nr_trace.specs.declared.formats.version.Form.TheVariants as forms
use Rattle.nr_trace.proofs.LawsOfSpelling.{Frame, FrameFits, frame, image_frames_fit, head_fits, frames_of, counts_fit, logs, events, dumps, numbered}
use Rattle.nr_trace.proofs.LawsOfSpelling.{counted, magic_is, one_recording, spelling_is, versioned}
use Rattle.nr_trace.proofs.LawsOfUnits.{length-counts, length-frame_words, length-event}
use Rattle.nr_trace.proofs.LawsOfFormat.{RisesFrom, rising_from_none, BehindCounts, BehindVersion, BehindMagic, length-magic, no_fault}

-- a unit has the fault by the relation
abbrev IsFaulty : (List ℕ → Refusal → Type 0) → List ℕ → Format → Type 0
IsFaulty Behind rest fault = (unit : TraceUnit) × (left : ℕ) × Behind rest (record { fault = fault; unit = unit; left = left })

-- bytes go along with those of a spelling: of a unit they have too few, or all of it; and at the end they have the fault
record GoesAlong (form : Form) (Beside : List ℕ → List ℕ → Type 0) (fault : Format) : Type 0 where
  pub unit : (front behind rest : List ℕ) → Beside rest (front ++ behind)
      → ((length rest < length front) × (fault ≡ Truncated)) ⊎ ((more : List ℕ) × (rest ≡ front ++ more) × Beside more behind)
  pub end : (version : Version) (rest : List ℕ) → IsVersionOf form version → Beside rest [] → IsFaulty (AtEnd version) rest fault

module _ {form : Form} {Beside : List ℕ → List ℕ → Type 0} {fault : Format} (along : GoesAlong form Beside fault) where
  at_unit : {A : Type 0} (bytes : ℕ) (named : TraceUnit) (own : Option Format) (Fits : A → Type 0) (spelled : A → List ℕ) (Behind : A → List ℕ
      → Refusal → Type 0)
      (v : A) (behind rest : List ℕ) → Fits v → length (spelled v) ≡ bytes → ((more : List ℕ) → Beside more behind → IsFaulty (Behind v) more fault)
      → Beside rest (spelled v ++ behind) → IsFaulty (AtUnit bytes named own Fits spelled Behind) rest fault
  at_unit {A} bytes named own Fits spelled Behind v behind rest fits long then h = by_front (along.unit (spelled v) behind rest h) where
    by_rest : (more : List ℕ) → rest ≡ spelled v ++ more → IsFaulty (Behind v) more fault → IsFaulty (AtUnit bytes named own Fits spelled Behind) rest fault
    by_rest more is (unit, left, behind) = (unit, left, inr (inr (v, more, fits, is, behind)))

    by_front : ((length rest < length (spelled v)) × (fault ≡ Truncated)) ⊎ ((more : List ℕ) × (rest ≡ spelled v ++ more) × Beside more behind)
        → IsFaulty (AtUnit bytes named own Fits spelled Behind) rest fault
    by_front (inl short) = (named, length rest, inl (subst (λ (n : ℕ). length rest < n) long short.0, ap (refusal_at named rest) short.1))
    by_front (inr (more, is, beside)) = by_rest more is (then more beside)

  at_frames : (own : OfFrames) (index : ℕ) (frames : List Frame) (before : Option ℕ) (Behind : List ℕ → Refusal → Type 0) (behind rest : List ℕ)
      → AllByRecursion FrameFits frames → RisesFrom before frames → ((more : List ℕ) → Beside more behind → IsFaulty Behind more fault)
      → Beside rest (flat_map frame frames ++ behind) → IsFaulty (AtFrames own index (length frames) before Behind) rest fault
  unfolding AtFrames
  at_frames own index [] before Behind behind rest fit rise then h = then rest h
  at_frames own index (f ∷ fs) before Behind behind rest fit rise then h =
      at_unit 8 (own.number index) (Some (own.fault index)) (IsNext before) frame_number
      (λ number. AtUnit 4096 (own.words index) None IsFrame frame_words (λ words. AtFrames own (index + 1) (length fs) (Some number) Behind))
      f.0 (frame_words f.1 ++ (flat_map frame fs ++ behind)) rest (record { rises = rise.0; in_range = fit.0.0 }) refl
      (λ more. at_unit 4096 (own.words index) None IsFrame frame_words (λ words. AtFrames own (index + 1) (length fs) (Some f.0) Behind)
      f.1 (flat_map frame fs ++ behind) more fit.0.1 (length-frame_words f.1 fit.0.1)
      (λ less. at_frames own (index + 1) fs (Some f.0) Behind behind less fit.1 rise.1 then))
      (subst (Beside rest) (append_assoc (frame f) (flat_map frame fs) behind
      ∙ append_assoc (frame_number f.0) (frame_words f.1) (flat_map frame fs ++ behind)) h)

  at_dumps : (version : Version) → IsVersionOf form version → (replica : ℕ) (images : List Image) (rest : List ℕ) → AllByRecursion (IsImage version) images
      → Beside rest (flat_map dump images) → IsFaulty (AtDumps version replica (length images)) rest fault
  unfolding AtDumps
  at_dumps version of replica [] rest fit h = along.end version rest of h
  at_dumps version of replica (image ∷ images) rest fit h =
      at_unit 16 (units.DumpHead replica) (Some BadCount) (IsDumpHead version) dump_head
      (λ head. AtFrames (of_dump replica) 0 head.frames None (AtDumps version (replica + 1) (length images)))
      (head_of image) (frames_of image ++ flat_map dump images) rest (head_fits version image fit.0) refl
      (λ more g. subst (λ (n : ℕ). IsFaulty (AtFrames (of_dump replica) 0 n None (AtDumps version (replica + 1) (length images))) more fault)
      (sym (finite.len-entries image.frames))
      (at_frames (of_dump replica) 0 (finite.entries image.frames) None (AtDumps version (replica + 1) (length images)) (flat_map dump images) more
      (image_frames_fit version image fit.0) (rising_from_none (finite.entries image.frames) (finite.entries_sorted image.frames))
      (λ less. at_dumps version of (replica + 1) images less fit.1) g))
      (subst (Beside rest) (append_assoc (dump_head (head_of image)) (frames_of image) (flat_map dump images)) h)

  at_events : (version : Version) → IsVersionOf form version → (layout : Layout) (index : ℕ) (es : List Event) (images : List Image) (rest : List ℕ)
      → AllByRecursion (IsEvent version layout) es → AllByRecursion (IsImage version) images → length images ≡ layout.replicas
      → Beside rest (flat_map event es ++ flat_map dump images) → IsFaulty (AtEvents version layout index (length es)) rest fault
  unfolding AtEvents
  at_events version of layout index [] images rest fit images_fit each h =
      subst (λ (n : ℕ). IsFaulty (AtDumps version 0 n) rest fault) each (at_dumps version of 0 images rest images_fit h)
  at_events version of layout index (e ∷ es) images rest fit images_fit each h =
      at_unit 24 (units.Event index) (Some (BadEvent index)) (IsEvent version layout) event (λ _. AtEvents version layout (index + 1) (length es))
      e (flat_map event es ++ flat_map dump images) rest fit.0 (length-event e)
      (λ more. at_events version of layout (index + 1) es images more fit.1 images_fit each)
      (subst (Beside rest) (append_assoc (event e) (flat_map event es) (flat_map dump images)) h)

  at_log : (version : Version) → IsVersionOf form version → (layout : Layout) (place : ℕ) (calls : List ℕ) (es : List Event) (images : List Image)
      (rest : List ℕ)
      → AllByRecursion (λ call. call < 2 ^ 32) calls → AllByRecursion (IsEvent version layout) es → AllByRecursion (IsImage version) images
      → length images ≡ layout.replicas → Beside rest (flat_map log_word calls ++ (flat_map event es ++ flat_map dump images))
      → IsFaulty (AtLog version layout place (length calls) (length es)) rest fault
  unfolding AtLog
  at_log version of layout place [] es images rest fit events_fit images_fit each h = at_events version of layout 0 es images rest events_fit images_fit each h
  at_log version of layout place (call ∷ calls) es images rest fit events_fit images_fit each h =
      at_unit 4 (units.Place place) None (λ call. call < 2 ^ 32) log_word (λ _. AtLog version layout (place + 1) (length calls) (length es))
      call (flat_map log_word calls ++ (flat_map event es ++ flat_map dump images)) rest fit.0 refl
      (λ more. at_log version of layout (place + 1) calls es images more fit.1 events_fit images_fit each)
      (subst (Beside rest) (append_assoc (log_word call) (flat_map log_word calls) (flat_map event es ++ flat_map dump images)) h)

  at_start : (start : Option Image) (Behind : List ℕ → Refusal → Type 0) (behind rest : List ℕ) → IfSome start IsStart
      → ((more : List ℕ) → Beside more behind → IsFaulty Behind more fault) → Beside rest (start_units start ++ behind)
      → IsFaulty (AtStart (start_frames start) Behind) rest fault
  at_start None Behind behind rest fit then h = then rest h
  at_start (Some start) Behind behind rest fit then h =
      by_count (finite.len start.frames) refl fit.some_frame where
        by_count : (n : ℕ) → finite.len start.frames ≡ n → 1 ≤ n → IsFaulty (AtStart n Behind) rest fault
        by_count zero count some = absurd (omega arith)
        by_count (suc n) count some =
            at_unit 8 units.StartRoot None (λ root. root < 2 ^ 64) frame_number (λ _. AtFrames of_start 0 (suc n) None Behind) start.root
            (frames_of start ++ behind) rest
            fit.image.root refl
            (λ more g. subst (λ (k : ℕ). IsFaulty (AtFrames of_start 0 k None Behind) more fault) (sym (finite.len-entries start.frames) ∙ count)
            (at_frames of_start 0 (finite.entries start.frames) None Behind behind more (image_frames_fit Segment start fit.image)
            (rising_from_none (finite.entries start.frames) (finite.entries_sorted start.frames)) then g))
            (subst (Beside rest) (append_assoc (frame_number start.root) (frames_of start) behind) h)

  at_counts : (trace : Recording) → IsVersionOf form trace.version → Follows form trace.layout → IsRecording trace → (rest : List ℕ)
      → Beside rest (numbered trace) → IsFaulty (BehindVersion form trace.version) rest fault
  at_counts trace of follows h rest =
      at_unit (counts_bytes trace.version) (counts_unit trace.version) (Some BadCount) (IsCounts trace.version) (counts trace.version)
      (BehindCounts form trace.version)
      (counts_of trace) (counted trace) rest (counts_fit trace h) (length-counts trace.version (counts_of trace))
      (λ more g. follows_then more (at_start trace.start (AtLog trace.version trace.layout 0 (length trace.log) (length trace.events))
      (logs trace ++ (events trace ++ dumps trace)) more h.start
      (λ less. at_log trace.version of trace.layout 0 trace.log trace.events trace.dumps less (recursion_from_All _ _ h.log)
      (recursion_from_All (IsEvent trace.version trace.layout) trace.events h.events) (recursion_from_All _ _ h.dumps) h.one_dump_each) g)) where
        follows_then : (more : List ℕ)
            → IsFaulty (AtStart (start_frames trace.start) (AtLog trace.version trace.layout 0 (length trace.log) (length trace.events))) more fault
            → IsFaulty (BehindCounts form trace.version (counts_of trace)) more fault
        follows_then more (unit, left, behind) = (unit, left, inr (follows, behind))

  -- what goes along with the spelling of a trace, or a segment, has the fault
  beside_a_spelling : (bytes : List ℕ) (trace : Recording) → IsVersionOf form trace.version → Follows form trace.layout → IsRecording trace
      → Beside bytes (spelling trace) → HasFaultAs form bytes fault
  beside_a_spelling bytes trace of follows h beside =
      at_unit {A = Unit {0}} 4 units.Magic (Some BadMagic) (λ _. ⊤) (λ _. magic_of form) (λ _. BehindMagic form) tt (versioned trace) bytes tt
      (length-magic form)
      (λ more. at_unit 2 units.Version (Some BadVersion) (IsVersionOf form) version_word (BehindVersion form) trace.version (numbered trace) more of refl
      (at_counts trace of follows h))
      (subst (Beside bytes) (spelling_is trace ∙ ap (λ (l : List ℕ). l ++ versioned trace) (magic_is form trace.version of)) beside)

-- ---- more after a spelling

pub trailing : (version : Version) (rest : List ℕ) → IsVersionOf forms.Trace version → rest ≢ [] → IsFaulty (AtEnd version) rest Trailing
trailing Segment rest of some = absurd of
trailing _ rest of some = (units.Behind, length rest, (some, refl))

goes_past : (more : List ℕ) → more ≢ [] → GoesAlong forms.Trace (λ rest whole. rest ≡ whole ++ more) Trailing
goes_past more some = record {
  unit = λ front behind rest e. inr (behind ++ more, e ∙ append_assoc front behind more, refl);
  end = λ version rest of e. trailing version rest of (λ none. some (sym e ∙ none));
}

pub trailing_after : (front more : List ℕ) (trace : Recording) → Spells front trace → more ≢ [] → HasFormatFault (front ++ more) Trailing
trailing_after front more trace spells some =
    beside_a_spelling (goes_past more some) (front ++ more) trace spells.of_form spells.follows spells.in_range (ap (λ (l : List ℕ). l ++ more) spells.spelled)

-- ---- a front of a spelling

cut_front : (front behind rest more : List ℕ) → rest ++ more ≡ front ++ behind
    → (length rest < length front) ⊎ ((less : List ℕ) × (rest ≡ front ++ less) × (less ++ more ≡ behind))
cut_front [] behind rest more e = inr (rest, refl, e)
cut_front (x ∷ front) behind [] more e = inl (omega arith)
cut_front (x ∷ front) behind (y ∷ rest) more e =
    let first : y ≡ x = cc in
    let others : rest ++ more ≡ front ++ behind = cc in
    elim (cut_front front behind rest more others) [ inl short ↦ inl (omega arith) | inr on ↦ inr (on.0, ap₂ ◌∷◌ first on.1, on.2) ]

no_front : (rest more : List ℕ) → more ≢ [] → rest ++ more ≡ [] → ⊥
no_front [] more some e = some e
no_front (x ∷ rest) more some e = absurd cc

goes_before : (form : Form) (more : List ℕ) → more ≢ [] → GoesAlong form (λ rest whole. rest ++ more ≡ whole) Truncated
goes_before form more some = record {
  unit = λ front behind rest e. elim (cut_front front behind rest more e) [ inl short ↦ inl (short, refl) | inr on ↦ inr on ];
  end = λ version rest of e. absurd (no_front rest more some e);
}

pub front_is_short : (form : Form) (front more : List ℕ) (trace : Recording) → SpellsAs form (front ++ more) trace → more ≢ []
    → HasFaultAs form front Truncated
front_is_short form front more trace spells some =
    beside_a_spelling (goes_before form more some) front trace spells.of_form spells.follows spells.in_range spells.spelled

pub front_is_truncated : (front more : List ℕ) (trace : Recording) → Spells (front ++ more) trace → more ≢ [] → HasFormatFault front Truncated
front_is_truncated front more trace spells some = front_is_short forms.Trace front more trace spells some

-- bytes begin with one segment at most
pub one_segment : (before : Option Layout) (front other more rest : List ℕ) (first second : Recording) → SpellsSegment before front first
    → SpellsSegment before other second → front ++ more ≡ other ++ rest → (front ≡ other) × (first ≡ second)
one_segment before front other more rest first second h k e = by_cut (cut_front other rest front more e) (cut_front front more other rest (sym e)) where
  longer : (some less : List ℕ) (segment whole : Recording) → SpellsSegment before some segment → SpellsSegment before (some ++ less) whole → less ≢ [] → ⊥
  longer some less segment whole a b rest_of =
      no_fault (forms.Segment before) some segment Truncated a (front_is_short (forms.Segment before) some less whole b rest_of)

  by_less : (less : List ℕ) → front ≡ other ++ less → (front ≡ other) × (first ≡ second)
  by_less [] is =
      let same : front ≡ other = is ∙ append-nil other in
      (same, one_recording (forms.Segment before) other first second (subst (λ (l : List ℕ). SpellsSegment before l first) same h) k)
  by_less (byte ∷ less) is =
      absurd (longer other (byte ∷ less) second first k (subst (λ (l : List ℕ). SpellsSegment before l first) is h) (λ none. absurd cc))

  by_more : (less : List ℕ) → length front < length other → other ≡ front ++ less → ⊥
  by_more [] short is = let long = ap length (is ∙ append-nil front) in omega arith
  by_more (byte ∷ less) short is =
      longer front (byte ∷ less) first second h (subst (λ (l : List ℕ). SpellsSegment before l second) is k) (λ none. absurd cc)

  by_cut : (length front < length other) ⊎ ((less : List ℕ) × (front ≡ other ++ less) × (less ++ more ≡ rest))
      → (length other < length front) ⊎ ((less : List ℕ) × (other ≡ front ++ less) × (less ++ rest ≡ more)) → (front ≡ other) × (first ≡ second)
  by_cut (inr on) there = by_less on.0 on.1
  by_cut (inl short) (inl long) = absurd (omega arith)
  by_cut (inl short) (inr on) = absurd (by_more on.0 short on.1)
