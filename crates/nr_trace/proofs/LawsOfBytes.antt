-- Bytes have a front that spells a trace, or a fault of the format that is not `Trailing`.
use Rattle.std.proofs.Common.{◌≡◌, ◌≢◌, ℕ, zero, suc, ◌+◌, ◌^◌, ◌<◌, ◌≤◌, ◌⊎◌, inl, inr, List, [], ◌∷◌, ◌++◌, length, take, drop, Option, Some, None}
use Rattle.std.proofs.Common.{refl, ap, sym, ◌∙◌, subst, arith}
use Rattle.std.specs.Prelude.{⊤}
use Rattle.std.specs.List.{AllByRecursion}
use Rattle.std.proofs.lemmas.List.{append-nil, take-append-drop, length-take-le}
use Rattle.std.proofs.lemmas.List.Elements.{All-take, All-drop}
use Rattle.vs_types.specs.Config.{Layout}
use Rattle.vs_types.specs.Frame.{IsFrame}
use Rattle.nr_trace.specs.Recording.{Recording, IsImage, IsEvent}
use Rattle.nr_trace.specs.Versions.{Follows, IsVersionOf}
use Rattle.nr_trace.specs.Spelling.{version_word, counts, dump_head, Spells, log_word, event, dump, frame_number, frame_words}
use Rattle.nr_trace.specs.FirstFault.{AtUnit, IsCounts, IsDumpHead, IsNext, AtFrames, AtDumps, AtEvents, AtLayout, AtLog, AtStart, HasFormatFault, HasRefusalAs}
use Rattle.nr_trace.specs.FirstFault.{HasSegmentFault, OfFrames, counts_bytes, counts_unit, magic_of, of_dump, of_start, own_at, refusal_at, refusal_of_counts}
use Rattle.nr_trace.specs.declared.refusals.fault.Format.{Format}
use Rattle.nr_trace.specs.declared.refusals.refusal.Refusal.{Refusal}
use Rattle.nr_trace.specs.declared.refusals.refusal.TraceUnit.{TraceUnit}
use Rattle.nr_trace.specs.declared.refusals.refusal.TraceUnit.TheVariants as units
use Rattle.nr_trace.specs.declared.refusals.fault.Format.TheVariants.{Truncated, BadMagic, BadVersion, BadCount, BadChain, BadEvent, Trailing}
use Rattle.nr_trace.specs.declared.formats.version.Version.{Version}
use Rattle.nr_trace.specs.declared.formats.version.Form.{Form}
use Rattle.nr_trace.specs.declared.formats.version.Form.TheVariants as forms
use Rattle.nr_trace.specs.declared.formats.fields.Counts.{Counts}
use Rattle.std.proofs.lemmas.Option.{same_Some}
use Rattle.nr_trace.proofs.LawsOfUnits.{IsWide, is_wide}
use Rattle.nr_trace.proofs.LawsOfSpelling.{frame}
use Rattle.nr_trace.proofs.LawsOfFormat.{BehindCounts, BehindVersion, BehindMagic, no_fault, one_fault}
use Rattle.nr_trace.proofs.LawsOfFronts.{trailing_after}
use Rattle.nr_trace.proofs.Assembled.{HasUnits, FramesFit, HasDumps, HasEvents, HasLog, HasFrames, HasFront, HasStart, no_unit, one_unit, one_frame, one_dump}
use Rattle.nr_trace.proofs.Assembled.{one_front}
use Rattle.nr_trace.proofs.Known.{Known, below, same_layout}
use Rattle.nr_trace.proofs.UnitsOfBytes.{IsTold, AreBytes, magic_told, version_told, counts_told, event_told, head_told, number_told, place_told, word_told}
use Rattle.nr_trace.proofs.UnitsOfBytes.{words_told}

-- the property holds of the rest, or the rest is refused by the relation for another fault than `Trailing`
abbrev Either : (List ℕ → Type 0) → (List ℕ → Refusal → Type 0) → List ℕ → Type 0
Either Then Behind rest = Then rest ⊎ ((refusal : Refusal) × (refusal.fault ≢ Trailing) × Behind rest refusal)

-- the rest has the fault `Trailing` by the relation
abbrev IsTrailing : (List ℕ → Refusal → Type 0) → List ℕ → Type 0
IsTrailing Behind rest = (refusal : Refusal) × (refusal.fault ≡ Trailing) × Behind rest refusal

-- the same of all bytes, and of whatever has that fault
abbrev AlwaysEither : (List ℕ → Type 0) → (List ℕ → Refusal → Type 0) → Type 0
AlwaysEither Then Behind = (rest : List ℕ) → AreBytes rest ⊎ IsTrailing Behind rest → Either Then Behind rest

either_as : {P Q F : Type 0} → (P → Q) → P ⊎ F → Q ⊎ F
either_as there (inl p) = inl (there p)
either_as there (inr fault) = inr fault

-- ---- one unit

-- the unit spells a value that fits, or is refused with this fault
abbrev IsJudged : {A : Type 0} → ℕ → Option Format → (A → Type 0) → (A → List ℕ) → Type 0
IsJudged {A} bytes own Fits spelled = (unit : List ℕ) → AreBytes unit → length unit ≡ bytes
    → ((value : A) × Fits value × (unit ≡ spelled value))
    ⊎ ((fault : Format) × (own ≡ Some fault) × ((value : A) → Fits value → unit ≢ spelled value))

judged : {A : Type 0} {bytes : ℕ} {fault : Format} {Fits : A → Type 0} {spelled : A → List ℕ} → ((unit : List ℕ) → IsTold Fits spelled unit)
    → IsJudged bytes (Some fault) Fits spelled
judged {fault = fault} told unit all long = elim (told unit) [ inl some ↦ inl some | inr none ↦ inr (fault, refl, none) ]

-- the unit is at the front, and what comes after has the property
abbrev HasUnit : {A : Type 0} → (A → Type 0) → (A → List ℕ) → (A → List ℕ → Type 0) → List ℕ → Type 0
HasUnit {A} Fits spelled Then rest = (value : A) × (more : List ℕ) × Fits value × (rest ≡ spelled value ++ more) × Then value more

at_unit : {A : Type 0} (bytes : ℕ) (named : TraceUnit) (own : Option Format) (Fits : A → Type 0) (spelled : A → List ℕ) (Behind : A → List ℕ → Refusal → Type 0)
    (Then : A → List ℕ → Type 0) → own ≢ Some Trailing → IsJudged bytes own Fits spelled
    → ((value : A) → Fits value → AlwaysEither (Then value) (Behind value))
    → AlwaysEither (HasUnit Fits spelled Then) (AtUnit bytes named own Fits spelled Behind)
at_unit {A} bytes named own Fits spelled Behind Then other judged on rest from = by_source from where
  Result : Type 0
  Result = Either (HasUnit Fits spelled Then) (AtUnit bytes named own Fits spelled Behind) rest

  by_rest : (value : A) (more : List ℕ) → Fits value → rest ≡ spelled value ++ more → Either (Then value) (Behind value) more → Result
  by_rest value more fits is (inl then) = inl (value, more, fits, is, then)
  by_rest value more fits is (inr (refusal, another, h)) = inr (refusal, another, inr (inr (value, more, fits, is, h)))

  by_judgement : AreBytes rest → bytes ≤ length rest → ((value : A) × Fits value × (take bytes rest ≡ spelled value))
      ⊎ ((fault : Format) × (own ≡ Some fault) × ((value : A) → Fits value → take bytes rest ≢ spelled value)) → Result
  by_judgement all enough (inl (value, fits, is)) =
      by_rest value (drop bytes rest) fits (sym (take-append-drop bytes rest) ∙ ap (λ (l : List ℕ). l ++ drop bytes rest) is)
      (on value fits (drop bytes rest) (inl (All-drop (λ byte. byte < 256) bytes rest all)))
  by_judgement all enough (inr (fault, is, none)) =
      inr (refusal_at named rest fault, (λ e. other (is ∙ ap Some e)), inr (inl (enough, ap (own_at named rest) is, none)))

  by_length : AreBytes rest → Known (length rest < bytes) → Result
  by_length all (inl short) = inr (refusal_at named rest Truncated, (λ e. absurd cc), inl (short, refl))
  by_length all (inr long) =
      let enough : bytes ≤ length rest = omega arith in
      by_judgement all enough (judged (take bytes rest) (All-take (λ byte. byte < 256) bytes rest all) (length-take-le bytes rest enough))

  own_trailing : (own : Option Format) (refusal : Refusal) → own_at named rest own ≡ Some refusal → refusal.fault ≡ Trailing → own ≡ Some Trailing
  own_trailing None refusal is e = absurd cc
  own_trailing (Some fault) refusal is e = ap Some (ap (λ (r : Refusal). r.fault) (same_Some (refusal_at named rest fault) refusal is) ∙ e)

  by_source : AreBytes rest ⊎ IsTrailing (AtUnit bytes named own Fits spelled Behind) rest → Result
  by_source (inl all) = by_length all (below (length rest) bytes)
  by_source (inr (refusal, trailing, inl short)) = let e : Trailing ≡ Truncated = sym trailing ∙ ap (λ (r : Refusal). r.fault) short.1 in absurd cc
  by_source (inr (refusal, trailing, inr (inl refused))) = absurd (other (own_trailing own refusal refused.1 trailing))
  by_source (inr (refusal, trailing, inr (inr (value, more, fits, is, h)))) = by_rest value more fits is (on value fits more (inr (refusal, trailing, h)))

-- ---- the rest, from the end

frames_or_fault : (own : OfFrames) → ((index : ℕ) → own.fault index ≢ Trailing)
    → (index frames : ℕ) (before : Option ℕ) (Behind : List ℕ → Refusal → Type 0) (Then : List ℕ → Type 0)
    → AlwaysEither Then Behind → AlwaysEither (HasUnits (FramesFit before) frame frames Then) (AtFrames own index frames before Behind)
unfolding AtFrames
frames_or_fault own other index zero before Behind Then on rest from = either_as (no_unit (FramesFit before) frame Then rest (tt, tt)) (on rest from)
frames_or_fault own other index (suc frames) before Behind Then on rest from =
    either_as (λ (number, middle, next, is, (words, behind, fits, also, has)).
    one_frame before frames Then number words rest middle behind next fits is also has)
    (at_unit 8 (own.number index) (Some (own.fault index)) (IsNext before) frame_number
    (λ number. AtUnit 4096 (own.words index) None IsFrame frame_words (λ words. AtFrames own (index + 1) frames (Some number) Behind))
    (λ number. HasUnit IsFrame frame_words (λ words. HasUnits (FramesFit (Some number)) frame frames Then))
    (λ e. other index (same_Some (own.fault index) Trailing e)) (judged (number_told before))
    (λ number next. at_unit 4096 (own.words index) None IsFrame frame_words (λ words. AtFrames own (index + 1) frames (Some number) Behind)
    (λ words. HasUnits (FramesFit (Some number)) frame frames Then) (λ e. absurd cc) (λ unit bytes long. inl (words_told unit bytes long))
    (λ words fits. frames_or_fault own other (index + 1) frames (Some number) Behind Then on)) rest from)

dumps_or_fault : (version : Version) (replica dumps : ℕ) → AlwaysEither (HasDumps version dumps) (AtDumps version replica dumps)
unfolding AtDumps
dumps_or_fault version replica zero rest from = inl (no_unit (AllByRecursion (IsImage version)) dump (λ _. ⊤) rest tt tt)
dumps_or_fault version replica (suc dumps) rest from =
    either_as (λ (head, behind, fits, is, has). one_dump version dumps head rest behind fits is has)
    (at_unit 16 (units.DumpHead replica) (Some BadCount) (IsDumpHead version) dump_head (λ head. AtFrames (of_dump replica) 0 head.frames None
    (AtDumps version (replica + 1) dumps))
    (λ head. HasUnits (FramesFit None) frame head.frames (HasDumps version dumps)) (λ e. absurd cc) (judged (head_told version))
    (λ head fits. frames_or_fault (of_dump replica) (λ index e. absurd cc) 0 head.frames None (AtDumps version (replica + 1) dumps) (HasDumps version dumps)
    (dumps_or_fault version (replica + 1) dumps)) rest from)

events_or_fault : (version : Version) (layout : Layout) → IsWide layout → (index events : ℕ)
    → AlwaysEither (HasEvents version layout events) (AtEvents version layout index events)
unfolding AtEvents
events_or_fault version layout l index zero rest from =
    either_as (no_unit (AllByRecursion (IsEvent version layout)) event (HasDumps version layout.replicas) rest tt)
    (dumps_or_fault version 0 layout.replicas rest from)
events_or_fault version layout l index (suc events) rest from =
    either_as (λ (one, behind, fits, is, has).
    one_unit (AllByRecursion (IsEvent version layout)) (AllByRecursion (IsEvent version layout)) event events
    (HasDumps version layout.replicas) one rest behind (λ es others. (fits, others)) is has)
    (at_unit 24 (units.Event index) (Some (BadEvent index)) (IsEvent version layout) event (λ _. AtEvents version layout (index + 1) events)
    (λ _. HasEvents version layout events) (λ e. absurd cc) (judged (event_told version layout l))
    (λ _ _. events_or_fault version layout l (index + 1) events) rest from)

log_or_fault : (version : Version) (layout : Layout) → IsWide layout → (place places events : ℕ)
    → AlwaysEither (HasLog version layout places events) (AtLog version layout place places events)
unfolding AtLog
log_or_fault version layout l place zero events rest from =
    either_as (no_unit (AllByRecursion (λ call. call < 2 ^ 32)) log_word (HasEvents version layout events) rest tt)
    (events_or_fault version layout l 0 events rest from)
log_or_fault version layout l place (suc places) events rest from =
    either_as (λ (call, behind, fits, is, has).
    one_unit (AllByRecursion (λ call. call < 2 ^ 32)) (AllByRecursion (λ call. call < 2 ^ 32)) log_word places
    (HasEvents version layout events) call rest behind (λ calls others. (fits, others)) is has)
    (at_unit 4 (units.Place place) None (λ call. call < 2 ^ 32) log_word (λ _. AtLog version layout (place + 1) places events)
    (λ _. HasLog version layout places events) (λ e. absurd cc) (λ unit bytes long. inl (place_told unit bytes long))
    (λ _ _. log_or_fault version layout l (place + 1) places events) rest from)

start_or_fault : (version : Version) (numbers : Counts) (n : ℕ) → AlwaysEither (HasLog version numbers.layout numbers.places numbers.events)
    (AtLog version numbers.layout 0 numbers.places numbers.events) → numbers.start ≡ n
    → AlwaysEither (HasStart version numbers n) (AtStart n (AtLog version numbers.layout 0 numbers.places numbers.events))
start_or_fault version numbers zero on is rest from = on rest from
start_or_fault version numbers (suc n) on is rest from =
    let behind = AtLog version numbers.layout 0 numbers.places numbers.events in
    let log = HasLog version numbers.layout numbers.places numbers.events in
    either_as (λ (root, middle, fits, is_rest, has).
    let there : HasFrames version numbers middle = subst (λ (k : ℕ). HasUnits (FramesFit None) frame k log middle) (sym is) has in
    record { root = root; fits = fits; behind = middle; parts = is_rest; frames = there })
    (at_unit 8 units.StartRoot None (λ root. root < 2 ^ 64) frame_number (λ _. AtFrames of_start 0 (suc n) None behind)
    (λ _. HasUnits (FramesFit None) frame (suc n) log) (λ e. absurd cc) (λ unit bytes long. inl (word_told unit bytes long))
    (λ root fits. frames_or_fault of_start (λ index e. absurd cc) 0 (suc n) None behind log on) rest from)

follows_known : (form : Form) (layout : Layout) → Known (Follows form layout)
follows_known (forms.Segment (Some before)) layout = same_layout before layout
follows_known _ layout = inl tt

layout_or_fault : (form : Form) (version : Version) (layout : Layout) (Behind : List ℕ → Refusal → Type 0) (Then : List ℕ → Type 0) → AlwaysEither Then Behind
    → AlwaysEither (λ rest. Follows form layout × Then rest) (AtLayout form version layout Behind)
layout_or_fault form version layout Behind Then on rest from = by_known (follows_known form layout) where
  by_rest : Follows form layout → Either Then Behind rest → Either (λ rest. Follows form layout × Then rest) (AtLayout form version layout Behind) rest
  by_rest follows (inl then) = inl (follows, then)
  by_rest follows (inr (refusal, another, h)) = inr (refusal, another, inr (follows, h))

  by_source : Follows form layout → AreBytes rest ⊎ IsTrailing (AtLayout form version layout Behind) rest
      → Either (λ rest. Follows form layout × Then rest) (AtLayout form version layout Behind) rest
  by_source follows (inl all) = by_rest follows (on rest (inl all))
  by_source follows (inr (refusal, trailing, inl other)) = absurd (other.0 follows)
  by_source follows (inr (refusal, trailing, inr h)) = by_rest follows (on rest (inr (refusal, trailing, h.1)))

  by_known : Known (Follows form layout) → Either (λ rest. Follows form layout × Then rest) (AtLayout form version layout Behind) rest
  by_known (inl follows) = by_source follows from
  by_known (inr other) = inr (refusal_of_counts version rest BadChain, (λ e. absurd cc), inl (other, refl))

-- ---- all bytes

front_or_fault : (form : Form) → AlwaysEither (HasFront form) (HasRefusalAs form)
front_or_fault form bytes from =
    either_as (λ (_, middle, _, is_bytes, (version, behind, of, is_middle, (numbers, rest, fits, is_behind, has))).
    one_front form version numbers bytes middle behind rest of has.0 fits is_bytes is_middle is_behind has.1)
    (at_unit {A = Unit {0}} 4 units.Magic (Some BadMagic) (λ _. ⊤) (λ _. magic_of form) (λ _. BehindMagic form)
    (λ _. HasUnit (IsVersionOf form) version_word HasCounts) (λ e. absurd cc) (judged (magic_told form))
    (λ _ _. at_unit 2 units.Version (Some BadVersion) (IsVersionOf form) version_word (BehindVersion form) HasCounts (λ e. absurd cc)
    (judged (version_told form))
    (λ version _. at_unit (counts_bytes version) (counts_unit version) (Some BadCount) (IsCounts version) (counts version) (BehindCounts form version)
    (λ numbers rest. Follows form numbers.layout × HasStart version numbers numbers.start rest)
    (λ e. absurd cc) (judged (counts_told version))
    (λ numbers fits. layout_or_fault form version numbers.layout _ _ (start_or_fault version numbers numbers.start
    (log_or_fault version numbers.layout (is_wide version numbers.layout fits.layout) 0 numbers.places numbers.events) refl)))) bytes from) where
      HasCounts : Version → List ℕ → Type 0
      HasCounts version =
          HasUnit (IsCounts version) (counts version) (λ numbers rest. Follows form numbers.layout × HasStart version numbers numbers.start rest)

-- a trace at the front, and what comes after it
by_end : (bytes front more : List ℕ) (trace : Recording) → bytes ≡ front ++ more → Spells front trace
    → ((whole : Recording) × Spells bytes whole) ⊎ ((more ≢ []) × HasFormatFault bytes Trailing)
by_end bytes front [] trace is spells =
    inl (trace, record { of_form = spells.of_form; follows = spells.follows; in_range = spells.in_range; spelled = is ∙ append-nil front ∙ spells.spelled })
by_end bytes front (byte ∷ more) trace is spells =
    inr ((λ e. absurd cc), subst (λ (l : List ℕ). HasFormatFault l Trailing) (sym is) (trailing_after front (byte ∷ more) trace spells (λ e. absurd cc)))

pub spelled_or_fault : (bytes : List ℕ) → AreBytes bytes → ((trace : Recording) × Spells bytes trace) ⊎ ((fault : Format) × HasFormatFault bytes fault)
spelled_or_fault bytes all = by_trace (front_or_fault forms.Trace bytes (inl all)) where
  by_trace : Either (HasFront forms.Trace) (HasRefusalAs forms.Trace) bytes → ((trace : Recording) × Spells bytes trace) ⊎
      ((fault : Format) × HasFormatFault bytes fault)
  by_trace (inl (front, more, trace, is, spells)) = elim (by_end bytes front more trace is spells) [ inl whole ↦ inl whole | inr on ↦ inr (Trailing, on.1) ]
  by_trace (inr (refusal, another, h)) = inr (refusal.fault, (refusal.unit, refusal.left, h))

pub trailing_has_trace : (bytes : List ℕ) → HasFormatFault bytes Trailing
    → (front : List ℕ) × (more : List ℕ) × (trace : Recording) × (bytes ≡ front ++ more) × (more ≢ []) × Spells front trace
trailing_has_trace bytes h =
    by_trace (front_or_fault forms.Trace bytes (inr (record { fault = Trailing; unit = h.0; left = h.1 }, refl, h.2))) where
      by_trace : Either (HasFront forms.Trace) (HasRefusalAs forms.Trace) bytes
          → (front : List ℕ) × (more : List ℕ) × (trace : Recording) × (bytes ≡ front ++ more) × (more ≢ []) × Spells front trace
      by_trace (inl (front, more, trace, is, spells)) =
          elim (by_end bytes front more trace is spells) [
            | inl whole ↦ absurd (no_fault forms.Trace bytes whole.0 Trailing whole.1 h)
            | inr on ↦ (front, more, trace, is, on.0, spells)
          ]
      by_trace (inr (refusal, another, k)) = absurd (another (one_fault forms.Trace bytes refusal.fault Trailing (refusal.unit, refusal.left, k) h))

-- any bytes have a front that spells a segment, or a fault of one
pub segment_or_fault : (before : Option Layout) (bytes : List ℕ) → AreBytes bytes
    → HasFront (forms.Segment before) bytes ⊎ ((fault : Format) × HasSegmentFault before bytes fault)
segment_or_fault before bytes all = by_front (front_or_fault (forms.Segment before) bytes (inl all)) where
  by_front : Either (HasFront (forms.Segment before)) (HasRefusalAs (forms.Segment before)) bytes
      → HasFront (forms.Segment before) bytes ⊎ ((fault : Format) × HasSegmentFault before bytes fault)
  by_front (inl front) = inl front
  by_front (inr (refusal, another, h)) = inr (refusal.fault, (refusal.unit, refusal.left, h))
