-- How many bytes a trace has at most, and bytes with which nothing is wrong yet.
use Rattle.std.proofs.Common.{◌≡◌, ◌≢◌, ℕ, zero, suc, ◌+◌, ◌*◌, ◌<◌, ◌≤◌, ◌^◌, inl, inr, All, List, length, Option, Some, None, refl, ap, sym, ◌∙◌, subst}
use Rattle.std.proofs.Common.{arith}
use Rattle.std.specs.Prelude.{⊤}
use Rattle.std.proofs.lemmas.List.{length-append}
use Rattle.std.proofs.lemmas.Option.{same_Some}
use Rattle.vs_types.specs.Config.{Layout}
use Rattle.vs_types.specs.Frame.{IsFrame}
use Rattle.nr_trace.specs.Recording.{IsEvent}
use Rattle.nr_trace.specs.Spelling.{version_word, counts, log_word, event, dump_head, frame_number, frame_words}
use Rattle.nr_trace.specs.Versions.{IsVersionOf, most_frames, most_start}
use Rattle.nr_trace.specs.FirstFault.{counts_bytes, counts_unit, magic_of, of_dump, own_at, refusal_at, AtUnit, AtEnd, AtFrames, AtStart, AtDumps, AtEvents}
use Rattle.nr_trace.specs.FirstFault.{AtLog}
use Rattle.nr_trace.specs.FirstFault.{HasRefusalAs, IsCounts, IsDumpHead}
use Rattle.nr_trace.specs.FirstFault.{IsNext}
use Rattle.nr_trace.specs.Feed.{HasNoFaultYet}
use Rattle.nr_trace.specs.declared.refusals.refusal.Refusal.{Refusal}
use Rattle.nr_trace.specs.declared.refusals.refusal.TraceUnit.{TraceUnit}
use Rattle.nr_trace.specs.declared.refusals.refusal.TraceUnit.TheVariants as units
use Rattle.nr_trace.specs.declared.formats.version.Version.{Version}
use Rattle.nr_trace.specs.declared.formats.version.Version.TheVariants.{Segment}
use Rattle.nr_trace.specs.declared.formats.version.Form.TheVariants as forms
use Rattle.nr_trace.specs.declared.formats.fields.Counts.{Counts}
use Rattle.nr_trace.specs.declared.refusals.fault.Format.{Format}
use Rattle.nr_trace.specs.declared.refusals.fault.Format.TheVariants.{BadMagic, BadVersion, BadCount, BadEvent, BadFrame, Truncated}
use Rattle.nr_trace.proofs.LawsOfBytes.{spelled_or_fault}
use Rattle.nr_trace.proofs.LawsOfFormat.{BehindCounts, BehindVersion, BehindMagic}
use Rattle.nr_trace.proofs.LawsOfLength.{no_longer}
use Rattle.nr_trace.proofs.LawsOfUnits.{length-counts, length-event, length-frame_words, length-head}

-- ---- bytes of a trace that are too few

few_frames : (version : Version) → IsVersionOf forms.Trace version → most_frames version ≤ 4096
few_frames Segment of = absurd of
few_frames _ of = omega arith

-- the counts of a trace have 14 bytes, and no start
counts_of_trace : (version : Version) → IsVersionOf forms.Trace version → counts_bytes version ≡ 14
counts_of_trace Segment of = absurd of
counts_of_trace _ of = refl

no_start : (version : Version) → IsVersionOf forms.Trace version → most_start version ≡ 0
no_start Segment of = absurd of
no_start _ of = refl

-- fewer bytes than this are too few there
abbrev IsCutBelow : (List ℕ → Refusal → Type 0) → ℕ → Type 0
IsCutBelow At most = (rest : List ℕ) (refusal : Refusal) → At rest refusal → refusal.fault ≡ Truncated → length rest < most

own_is : (unit : TraceUnit) (rest : List ℕ) (own : Option Format) (refusal : Refusal) → own_at unit rest own ≡ Some refusal → own ≡ Some refusal.fault
own_is unit rest None refusal is = absurd cc
own_is unit rest (Some fault) refusal is =
    ap (λ (r : Refusal). Some r.fault) (same_Some (refusal_at unit rest fault) refusal is)

unit_cut : {A : Type 0} (bytes most : ℕ) (unit : TraceUnit) (own : Option Format) (Fits : A → Type 0) (spelled : A → List ℕ)
    (Behind : A → List ℕ → Refusal → Type 0) → own ≢ Some Truncated → ((a : A) → Fits a → length (spelled a) ≡ bytes)
    → ((a : A) → Fits a → IsCutBelow (Behind a) most) → IsCutBelow (AtUnit bytes unit own Fits spelled Behind) (bytes + most)
unit_cut bytes most unit own Fits spelled Behind other long behind rest refusal (inl short) cut = omega (arith, short.0)
unit_cut bytes most unit own Fits spelled Behind other long behind rest refusal (inr (inl none)) cut =
    absurd (other (own_is unit rest own refusal none.1 ∙ ap (λ (f : Format). Some f) cut))
unit_cut bytes most unit own Fits spelled Behind other long behind rest refusal (inr (inr (a, more, fits, is, h))) cut =
    omega (arith, ap length is, length-append (spelled a) more, long a fits, behind a fits more refusal h cut)

frames_cut : (replica index frames : ℕ) (before : Option ℕ) (Behind : List ℕ → Refusal → Type 0) (most : ℕ) → IsCutBelow Behind most
    → IsCutBelow (AtFrames (of_dump replica) index frames before Behind) (4104 * frames + most)
unfolding AtFrames
frames_cut replica index zero before Behind most few rest refusal h cut = omega (arith, few rest refusal h cut)
frames_cut replica index (suc frames) before Behind most few rest refusal h cut =
    let left = 4104 * frames + most in
    let Then : ℕ → List ℕ → Refusal → Type 0 = λ number. AtFrames (of_dump replica) (index + 1) frames (Some number) Behind in
    omega (
      arith,
      unit_cut 8 (4096 + left) (units.FrameNumber replica index) (Some (BadFrame replica index)) (IsNext before) frame_number
          (λ number. AtUnit 4096 (units.FrameWords replica index) None IsFrame frame_words (λ words. Then number)) (λ e. absurd cc)
          (λ n k. refl)
          (λ number _. unit_cut 4096 left (units.FrameWords replica index) None IsFrame frame_words (λ words. Then number) (λ e. absurd cc)
          length-frame_words (λ words _. frames_cut replica (index + 1) frames (Some number) Behind most few)) rest refusal h cut,
    )

end_cut : (version : Version) (rest : List ℕ) (refusal : Refusal) → IsVersionOf forms.Trace version → AtEnd version rest refusal
    → refusal.fault ≡ Truncated → ⊥
end_cut Segment rest refusal of h cut = absurd of
end_cut _ rest refusal of h cut = (let e = sym (ap (λ (r : Refusal). r.fault) h.1) ∙ cut in absurd cc)

dumps_cut : (version : Version) → IsVersionOf forms.Trace version → (replica dumps : ℕ) → IsCutBelow (AtDumps version replica dumps) (16810000 * dumps + 1)
unfolding AtDumps
dumps_cut version of replica zero rest refusal h cut = absurd (end_cut version rest refusal of h cut)
dumps_cut version of replica (suc dumps) rest refusal h cut =
    let left = 16810000 * dumps + 1 in
    let few = few_frames version of in
    omega (
      arith,
      unit_cut 16 (16809984 + left) (units.DumpHead replica) (Some BadCount) (IsDumpHead version) dump_head
          (λ head. AtFrames (of_dump replica) 0 head.frames None (AtDumps version (replica + 1) dumps))
          (λ e. absurd cc) (λ head k. length-head head)
          (λ head k more other g is. omega (
            arith,
            k.few_frames,
            few,
            frames_cut replica 0 head.frames None (AtDumps version (replica + 1) dumps) left (dumps_cut version of (replica + 1) dumps) more other g is,
          )) rest refusal h cut,
    )

events_cut : (version : Version) (layout : Layout) → IsVersionOf forms.Trace version → (index events : ℕ)
    → IsCutBelow (AtEvents version layout index events) (24 * events + (16810000 * layout.replicas + 1))
unfolding AtEvents
events_cut version layout of index zero rest refusal h cut = omega (arith, dumps_cut version of 0 layout.replicas rest refusal h cut)
events_cut version layout of index (suc events) rest refusal h cut =
    omega (
      arith,
      unit_cut 24 (24 * events + (16810000 * layout.replicas + 1)) (units.Event index) (Some (BadEvent index)) (IsEvent version layout) event
          (λ _. AtEvents version layout (index + 1) events) (λ e. absurd cc) (λ e k. length-event e)
          (λ e k. events_cut version layout of (index + 1) events) rest refusal h cut,
    )

log_cut : (version : Version) (layout : Layout) → IsVersionOf forms.Trace version → (place places events : ℕ)
    → IsCutBelow (AtLog version layout place places events) (4 * places + (24 * events + (16810000 * layout.replicas + 1)))
unfolding AtLog
log_cut version layout of place zero events rest refusal h cut = omega (arith, events_cut version layout of 0 events rest refusal h cut)
log_cut version layout of place (suc places) events rest refusal h cut =
    omega (
      arith,
      unit_cut 4 (4 * places + (24 * events + (16810000 * layout.replicas + 1))) (units.Place place) None (λ call. call < 2 ^ 32) log_word
          (λ _. AtLog version layout (place + 1) places events) (λ e. absurd cc) (λ call k. refl)
          (λ call k. log_cut version layout of (place + 1) places events) rest refusal h cut,
    )

start_cut : (version : Version) (numbers : Counts) (rest : List ℕ) (refusal : Refusal) → IsVersionOf forms.Trace version → IsCounts version numbers
    → BehindCounts forms.Trace version numbers rest refusal → AtLog version numbers.layout 0 numbers.places numbers.events rest refusal
start_cut version numbers rest refusal of k (inl h) = absurd (h.0 tt)
start_cut version numbers rest refusal of k (inr h) =
    let none : numbers.start ≡ 0 = omega (arith, k.few_start, no_start version of) in
    subst (λ (n : ℕ). AtStart n (AtLog version numbers.layout 0 numbers.places numbers.events) rest refusal) none h.1

version_cut : (version : Version) → IsVersionOf forms.Trace version → IsCutBelow (BehindVersion forms.Trace version) (14 + 70647873)
version_cut version of rest refusal h cut =
    omega (
      arith,
      counts_of_trace version of,
      unit_cut (counts_bytes version) 70647873 (counts_unit version) (Some BadCount) (IsCounts version) (counts version)
          (BehindCounts forms.Trace version) (λ e. absurd cc) (λ numbers k. length-counts version numbers)
          (λ numbers k more other g is. omega (
            arith,
            k.few_places,
            k.few_events,
            k.layout.few_replicas,
            log_cut version numbers.layout of 0 numbers.places numbers.events more other (start_cut version numbers more other of k g) is,
          )) rest refusal h cut,
    )

bytes_cut : (bytes : List ℕ) (refusal : Refusal) → HasRefusalAs forms.Trace bytes refusal → refusal.fault ≡ Truncated
    → length bytes < 4 + (2 + (14 + 70647873))
bytes_cut bytes refusal h cut =
    unit_cut {A = Unit {0}} 4 (2 + (14 + 70647873)) units.Magic (Some BadMagic) (λ _. ⊤) (λ _. magic_of forms.Trace) (λ _. BehindMagic forms.Trace)
    (λ e. absurd cc) (λ _ _. refl)
    (λ _ _. unit_cut 2 (14 + 70647873) units.Version (Some BadVersion) (IsVersionOf forms.Trace) version_word (BehindVersion forms.Trace)
    (λ e. absurd cc) (λ _ _. refl) version_cut) bytes refusal h cut

-- ---- how many there may be

pub few_bytes : (bytes : List ℕ) → All (λ byte. byte < 256) bytes → HasNoFaultYet bytes → length bytes < 2 ^ 40
few_bytes bytes all not_yet = elim (spelled_or_fault bytes all) [
  | inl (trace, spelled) ↦ (let few = no_longer bytes trace spelled in omega arith)
  | inr (fault, has) ↦ (
      let few = bytes_cut bytes (record { fault = fault; unit = has.0; left = has.1 }) has.2 (not_yet fault has) in omega arith)
]
