-- Bytes have at most one fault of the format, and none where they spell a trace.
use Rattle.std.proofs.Common.{◌≡◌, ℕ, zero, suc, ◌+◌, ◌<◌, ◌≤◌, ◌^◌, inl, inr, Bool, true, false, cond, ◌&&◌, T, ltb, eqb, List, [], ◌∷◌, ◌++◌, length, take}
use Rattle.std.proofs.Common.{Option, Some, None, refl, ap, sym, ◌∙◌, subst, subst₂, arith}
use Rattle.std.specs.Prelude.{flat_map, IfSome, ⊤}
use Rattle.std.specs.List.{AllByRecursion}
use Rattle.std.specs.FinMap as finite
use Rattle.std.specs.FinMap.Entries as kept
use Rattle.std.specs.Ordering.{nat_cmp, is_lt}
use Rattle.std.specs.declared.cmp.Ordering.TheVariants.{Less, Equal, Greater}
use Rattle.std.proofs.lemmas.Bool.{ltb-true}
use Rattle.std.proofs.lemmas.List.{append_assoc, append_cancel_left, append-nil, length-append, take_at}
use Rattle.std.proofs.lemmas.List.Elements.{recursion_from_All}
use Rattle.std.proofs.lemmas.Option.{same_Some}
use Rattle.vs_types.specs.Config.{Layout}
use Rattle.vs_walk.specs.Dump.{Image}
use Rattle.vs_types.specs.Frame.{IsFrame}
use Rattle.nr_trace.specs.Recording.{Recording, IsRecording, IsImage, IsStart, IsEvent, start_frames}
use Rattle.nr_trace.specs.Versions.{Follows, IsVersionOf}
use Rattle.nr_trace.specs.Spelling.{version_word, counts, counts_of, dump_head, head_of, start_units, SpellsAs, SpellsSegment, log_word, event, dump}
use Rattle.nr_trace.specs.Spelling.{frame_number}
use Rattle.nr_trace.specs.Spelling.{frame_words}
use Rattle.nr_trace.specs.FirstFault.{AtUnit, IsCounts, IsDumpHead, IsNext, AtEnd, AtFrames, AtDumps, AtEvents, AtLayout, AtLog, AtStart, HasFaultAs, HasRefusalAs, OfFrames}
use Rattle.nr_trace.specs.FirstFault.{HasSegmentFault, counts_bytes, counts_unit, of_dump, of_start}
use Rattle.nr_trace.specs.FirstFault.{magic_of}
use Rattle.nr_trace.specs.declared.refusals.fault.Format.{Format}
use Rattle.nr_trace.specs.declared.refusals.refusal.Refusal.{Refusal}
use Rattle.nr_trace.specs.declared.refusals.refusal.TraceUnit.{TraceUnit}
use Rattle.nr_trace.specs.declared.refusals.refusal.TraceUnit.TheVariants as units
use Rattle.nr_trace.specs.declared.refusals.fault.Format.TheVariants.{BadMagic, BadVersion, BadCount, BadEvent}
use Rattle.nr_trace.specs.declared.recordings.event.Event.{Event}
use Rattle.nr_trace.specs.declared.formats.version.Version.{Version}
use Rattle.nr_trace.specs.declared.formats.version.Version.TheVariants.{Segment}
use Rattle.nr_trace.specs.declared.formats.version.Form.{Form}
use Rattle.nr_trace.specs.declared.formats.version.Form.TheVariants as forms
use Rattle.nr_trace.specs.declared.formats.fields.Counts.{Counts}
use Rattle.nr_trace.proofs.LawsOfSpelling.{Frame, FrameFits, frame, image_frames_fit, head_fits, frames_of, counts_fit, logs, events, dumps, numbered}
use Rattle.nr_trace.proofs.LawsOfSpelling.{counted, magic_is, spelling_is, versioned}
use Rattle.nr_trace.proofs.LawsOfUnits.{IsWide, ToldApart, is_wide, number_64, versions_apart, counts_apart, length-counts, heads_apart, length-head}
use Rattle.nr_trace.proofs.LawsOfUnits.{frame_numbers_apart, words_apart}
use Rattle.nr_trace.proofs.LawsOfUnits.{length-frame_words, log_words_apart, length-event}
use Rattle.nr_trace.proofs.EventsApart.{events_apart}

-- ---- one unit

-- a unit whose spelling distinguishes values and has this length has one fault at most, if what comes after has
pub unit_one : {A : Type 0} (bytes : ℕ) (named : TraceUnit) (own : Option Format) (Fits : A → Type 0) (spelled : A → List ℕ) (Behind : A → List ℕ
    → Refusal → Type 0)
    → ToldApart Fits spelled → ((a : A) → Fits a → length (spelled a) ≡ bytes)
    → ((a : A) (rest : List ℕ) (f g : Refusal) → Fits a → Behind a rest f → Behind a rest g → f ≡ g)
    → (rest : List ℕ) (f g : Refusal) → AtUnit bytes named own Fits spelled Behind rest f → AtUnit bytes named own Fits spelled Behind rest g → f ≡ g
unit_one bytes named own Fits spelled Behind apart long one rest f g (inl x) (inl y) = x.1 ∙ sym y.1
unit_one bytes named own Fits spelled Behind apart long one rest f g (inl x) (inr (inl y)) =
    let h : length rest < bytes = x.0 in
    let k : bytes ≤ length rest = y.0 in
    absurd (omega arith)
unit_one bytes named own Fits spelled Behind apart long one rest f g (inl x) (inr (inr (v, more, fits, is, behind))) =
    let h : length rest < bytes = x.0 in
    let k = ap length is ∙ length-append (spelled v) more in
    let l = long v fits in
    absurd (omega arith)
unit_one bytes named own Fits spelled Behind apart long one rest f g (inr (inl x)) (inl y) =
    let h : length rest < bytes = y.0 in
    let k : bytes ≤ length rest = x.0 in
    absurd (omega arith)
unit_one bytes named own Fits spelled Behind apart long one rest f g (inr (inr (v, more, fits, is, behind))) (inl y) =
    let h : length rest < bytes = y.0 in
    let k = ap length is ∙ length-append (spelled v) more in
    let l = long v fits in
    absurd (omega arith)
unit_one bytes named own Fits spelled Behind apart long one rest f g (inr (inl x)) (inr (inl y)) = same_Some f g (sym x.1 ∙ y.1)
unit_one bytes named own Fits spelled Behind apart long one rest f g (inr (inl x)) (inr (inr (v, more, fits, is, behind))) =
    absurd (x.2 v fits (ap (take bytes) is ∙ take_at (spelled v) more bytes (long v fits)))
unit_one bytes named own Fits spelled Behind apart long one rest f g (inr (inr (v, more, fits, is, behind))) (inr (inl y)) =
    absurd (y.2 v fits (ap (take bytes) is ∙ take_at (spelled v) more bytes (long v fits)))
unit_one bytes named own Fits spelled Behind apart long one rest f g (inr (inr (v, more, fits, is, behind))) (inr (inr (w, less, also, same, further))) =
    let r = apart w v less more also fits (sym same ∙ is) in
    one v more f g fits behind (subst₂ (λ (a : _) (ys : List ℕ). Behind a ys g) r.0 r.1 further)

-- a unit that spells a value that fits has no fault, if what comes after has none
pub unit_none : {A : Type 0} (bytes : ℕ) (named : TraceUnit) (own : Option Format) (Fits : A → Type 0) (spelled : A → List ℕ) (Behind : A → List ℕ
    → Refusal → Type 0)
    → ToldApart Fits spelled → (v : A) (more : List ℕ) (fault : Refusal) → length (spelled v) ≡ bytes → Fits v
    → (Behind v more fault → ⊥) → (rest : List ℕ) → rest ≡ spelled v ++ more → AtUnit bytes named own Fits spelled Behind rest fault → ⊥
unit_none bytes named own Fits spelled Behind apart v more fault long fits none rest is (inl x) =
    let h : length rest < bytes = x.0 in
    let k = ap length is ∙ length-append (spelled v) more in
    omega arith
unit_none bytes named own Fits spelled Behind apart v more fault long fits none rest is (inr (inl x)) =
    x.2 v fits (ap (take bytes) is ∙ take_at (spelled v) more bytes long)
unit_none bytes named own Fits spelled Behind apart v more fault long fits none rest is (inr (inr (w, less, also, same, further))) =
    let r = apart w v less more also fits (sym same ∙ is) in
    none (subst₂ (λ (a : _) (ys : List ℕ). Behind a ys fault) r.0 r.1 further)

-- ---- one fault

next_apart : (before : Option ℕ) → ToldApart (IsNext before) frame_number
next_apart before a b us vs h k e = frame_numbers_apart a b us vs h.in_range k.in_range e

abbrev OneBehind : (List ℕ → Refusal → Type 0) → Type 0
OneBehind Behind = (rest : List ℕ) (f g : Refusal) → Behind rest f → Behind rest g → f ≡ g

frames_one : (own : OfFrames) (index frames : ℕ) (before : Option ℕ) (Behind : List ℕ → Refusal → Type 0) → OneBehind Behind
    → OneBehind (AtFrames own index frames before Behind)
unfolding AtFrames
frames_one own index zero before Behind one rest f g x y = one rest f g x y
frames_one own index (suc frames) before Behind one rest f g x y =
    unit_one 8 (own.number index) (Some (own.fault index)) (IsNext before) frame_number
    (λ number. AtUnit 4096 (own.words index) None IsFrame frame_words (λ words. AtFrames own (index + 1) frames (Some number) Behind))
    (next_apart before) (λ n h. refl)
    (λ number rest f g h. unit_one 4096 (own.words index) None IsFrame frame_words (λ words. AtFrames own (index + 1) frames (Some number) Behind)
    words_apart length-frame_words (λ words rest f g h. frames_one own (index + 1) frames (Some number) Behind one rest f g) rest f g)
    rest f g x y

end_one : (version : Version) → OneBehind (AtEnd version)
end_one Segment rest f g x y = absurd x
end_one _ rest f g x y = x.1 ∙ sym y.1

dumps_one : (version : Version) (replica dumps : ℕ) → OneBehind (AtDumps version replica dumps)
unfolding AtDumps
dumps_one version replica zero rest f g x y = end_one version rest f g x y
dumps_one version replica (suc dumps) rest f g x y =
    unit_one 16 (units.DumpHead replica) (Some BadCount) (IsDumpHead version) dump_head (λ head. AtFrames (of_dump replica) 0 head.frames None
    (AtDumps version (replica + 1) dumps))
    (heads_apart version) (λ head h. length-head head)
    (λ head rest f g h. frames_one (of_dump replica) 0 head.frames None (AtDumps version (replica + 1) dumps) (dumps_one version (replica + 1) dumps)
    rest f g) rest f g x y

events_one : (version : Version) (layout : Layout) (index events : ℕ) → IsWide layout → OneBehind (AtEvents version layout index events)
unfolding AtEvents
events_one version layout index zero l rest f g x y = dumps_one version 0 layout.replicas rest f g x y
events_one version layout index (suc events) l rest f g x y =
    unit_one 24 (units.Event index) (Some (BadEvent index)) (IsEvent version layout) event (λ _. AtEvents version layout (index + 1) events)
    (events_apart version layout l)
    (λ e h. length-event e)
    (λ e rest f g h. events_one version layout (index + 1) events l rest f g) rest f g x y

log_one : (version : Version) (layout : Layout) (place places events : ℕ) → IsWide layout → OneBehind (AtLog version layout place places events)
unfolding AtLog
log_one version layout place zero events l rest f g x y = events_one version layout 0 events l rest f g x y
log_one version layout place (suc places) events l rest f g x y =
    unit_one 4 (units.Place place) None (λ call. call < 2 ^ 32) log_word (λ _. AtLog version layout (place + 1) places events) log_words_apart (λ call h. refl)
    (λ call rest f g h. log_one version layout (place + 1) places events l rest f g) rest f g x y

abbrev fixed_apart : List ℕ → Type 0
fixed_apart bytes = ToldApart {A = Unit {0}} (λ _. ⊤) (λ _. bytes)

pub magic_apart : (form : Form) → fixed_apart (magic_of form)
magic_apart form a b us vs h k e = (refl, append_cancel_left (magic_of form) us vs e)

root_apart : ToldApart (λ root. root < 2 ^ 64) frame_number
root_apart = number_64

start_one : (frames : ℕ) (Behind : List ℕ → Refusal → Type 0) → OneBehind Behind → OneBehind (AtStart frames Behind)
start_one zero Behind one rest f g x y = one rest f g x y
start_one (suc frames) Behind one rest f g x y =
    unit_one 8 units.StartRoot None (λ root. root < 2 ^ 64) frame_number (λ _. AtFrames of_start 0 (suc frames) None Behind) root_apart (λ n h. refl)
    (λ root rest f g h. frames_one of_start 0 (suc frames) None Behind one rest f g) rest f g x y

layout_one : (form : Form) (version : Version) (layout : Layout) (Behind : List ℕ → Refusal → Type 0) → OneBehind Behind
    → OneBehind (AtLayout form version layout Behind)
layout_one form version layout Behind one rest f g (inl x) (inl y) = x.1 ∙ sym y.1
layout_one form version layout Behind one rest f g (inl x) (inr y) = absurd (x.0 y.0)
layout_one form version layout Behind one rest f g (inr x) (inl y) = absurd (y.0 x.0)
layout_one form version layout Behind one rest f g (inr x) (inr y) = one rest f g x.1 y.1

abbrev pub BehindCounts : Form → Version → Counts → List ℕ → Refusal → Type 0
BehindCounts form version numbers =
    AtLayout form version numbers.layout (AtStart numbers.start (AtLog version numbers.layout 0 numbers.places numbers.events))

abbrev pub BehindVersion : Form → Version → List ℕ → Refusal → Type 0
BehindVersion form version = AtUnit (counts_bytes version) (counts_unit version) (Some BadCount) (IsCounts version) (counts version) (BehindCounts form version)

abbrev pub BehindMagic : Form → List ℕ → Refusal → Type 0
BehindMagic form = AtUnit 2 units.Version (Some BadVersion) (IsVersionOf form) version_word (BehindVersion form)

version_one : (form : Form) (version : Version) → OneBehind (BehindVersion form version)
version_one form version rest f g =
    unit_one (counts_bytes version) (counts_unit version) (Some BadCount) (IsCounts version) (counts version) (BehindCounts form version) (counts_apart version)
    (λ numbers h. length-counts version numbers)
    (λ numbers rest f g h.
    layout_one form version numbers.layout _ (start_one numbers.start _
    (log_one version numbers.layout 0 numbers.places numbers.events (is_wide version numbers.layout h.layout))) rest f g) rest f g

magic_one : (form : Form) → OneBehind (BehindMagic form)
magic_one form rest f g = unit_one 2 units.Version (Some BadVersion) (IsVersionOf form) version_word (BehindVersion form) (versions_apart form) (λ _ _. refl)
    (λ version rest f g h. version_one form version rest f g) rest f g

pub length-magic : (form : Form) → length (magic_of form) ≡ 4
length-magic forms.Trace = refl
length-magic (forms.Segment before) = refl

pub one_refusal : (form : Form) (bytes : List ℕ) (f g : Refusal) → HasRefusalAs form bytes f → HasRefusalAs form bytes g → f ≡ g
one_refusal form bytes f g = unit_one {A =
    Unit {0}} 4 units.Magic (Some BadMagic) (λ _. ⊤) (λ _. magic_of form) (λ _. BehindMagic form) (magic_apart form) (λ _ _. length-magic form)
    (λ _ rest f g h. magic_one form rest f g) bytes f g

pub one_fault : (form : Form) (bytes : List ℕ) (f g : Format) → HasFaultAs form bytes f → HasFaultAs form bytes g → f ≡ g
one_fault form bytes f g h k =
    ap (λ (r : Refusal). r.fault) (one_refusal form bytes (record { fault = f; unit = h.0; left = h.1 }) (record { fault = g; unit = k.0; left = k.1 }) h.2 k.2)

-- ---- no fault of a spelling

-- the numbers of frames rise, from above this one on
abbrev pub RisesFrom : Option ℕ → List Frame → Type 0
RisesFrom before [] = ⊤
RisesFrom before (f ∷ fs) = IfSome before (λ last. last < f.0) × RisesFrom (Some f.0) fs

both_true : (a b : Bool) → T (a && b) → T a × T b
both_true true b h = (tt, h)
both_true false b h = absurd h

less_from : (x y : ℕ) → T (is_lt (nat_cmp x y)) → x < y
less_from x y h = by_test (ltb x y) refl h where
  equal_or_greater : (b : Bool) → T (is_lt (cond b Equal Greater)) → ⊥
  equal_or_greater true h = h
  equal_or_greater false h = h

  by_test : (b : Bool) → ltb x y ≡ b → T (is_lt (cond b Less (cond (eqb x y) Equal Greater))) → x < y
  by_test true e h = ltb-true x y e
  by_test false e h = absurd (equal_or_greater (eqb x y) h)

rising : (f : Frame) (fs : List Frame) → T (kept.is_sorted nat_cmp (f ∷ fs)) → RisesFrom (Some f.0) fs
rising f [] h = tt
rising f (g ∷ gs) h =
    let (above, rest) = both_true _ _ h in
    let (next, all) = both_true _ _ above in
    (less_from f.0 g.0 next, rising g gs rest)

pub rising_from_none : (fs : List Frame) → T (kept.is_sorted nat_cmp fs) → RisesFrom None fs
rising_from_none [] h = tt
rising_from_none (f ∷ fs) h = (tt, rising f fs h)

frames_none : (own : OfFrames) (index : ℕ) (frames : List Frame) (before : Option ℕ) (Behind : List ℕ → Refusal → Type 0) (more : List ℕ) (fault : Refusal)
    → AllByRecursion FrameFits frames → RisesFrom before frames → (Behind more fault → ⊥)
    → (rest : List ℕ) → rest ≡ flat_map frame frames ++ more → AtFrames own index (length frames) before Behind rest fault → ⊥
unfolding AtFrames
frames_none own index [] before Behind more fault fit rise none rest is x = none (subst (λ (ys : List ℕ). Behind ys fault) is x)
frames_none own index (f ∷ fs) before Behind more fault fit rise none rest is x =
    unit_none 8 (own.number index) (Some (own.fault index)) (IsNext before) frame_number
    (λ number. AtUnit 4096 (own.words index) None IsFrame frame_words (λ words. AtFrames own (index + 1) (length fs) (Some number) Behind))
    (next_apart before) f.0 (frame_words f.1 ++ (flat_map frame fs ++ more)) fault refl (record { rises = rise.0; in_range = fit.0.0 })
    (unit_none 4096 (own.words index) None IsFrame frame_words (λ words. AtFrames own (index + 1) (length fs) (Some f.0) Behind)
    words_apart f.1 (flat_map frame fs ++ more) fault (length-frame_words f.1 fit.0.1) fit.0.1
    (frames_none own (index + 1) fs (Some f.0) Behind more fault fit.1 rise.1 none (flat_map frame fs ++ more) refl)
    (frame_words f.1 ++ (flat_map frame fs ++ more)) refl)
    rest (is ∙ append_assoc (frame f) (flat_map frame fs) more ∙ append_assoc (frame_number f.0) (frame_words f.1) (flat_map frame fs ++ more)) x

-- nothing is wrong at the end: nothing comes after a trace, and what comes after a segment is not of it
end_none : (version : Version) (fault : Refusal) → AtEnd version [] fault → ⊥
end_none Segment fault x = x
end_none _ fault x = x.0 refl

end_of_segment : (before : Option Layout) (version : Version) (more : List ℕ) (fault : Refusal) → IsVersionOf (forms.Segment before) version
    → AtEnd version more fault → ⊥
end_of_segment before Segment more fault of x = x
end_of_segment before _ more fault of x = of

dumps_none : (version : Version) (replica : ℕ) (images : List Image) (more : List ℕ) (fault : Refusal) → AllByRecursion (IsImage version) images
    → (AtEnd version more fault → ⊥) → (rest : List ℕ) → rest ≡ flat_map dump images ++ more → AtDumps version replica (length images) rest fault → ⊥
unfolding AtDumps
dumps_none version replica [] more fault fit none rest is x = none (subst (λ (ys : List ℕ). AtEnd version ys fault) is x)
dumps_none version replica (image ∷ images) more fault fit none rest is x =
    unit_none 16 (units.DumpHead replica) (Some BadCount) (IsDumpHead version) dump_head
    (λ head. AtFrames (of_dump replica) 0 head.frames None (AtDumps version (replica + 1) (length images)))
    (heads_apart version) (head_of image) (frames_of image ++ (flat_map dump images ++ more)) fault refl (head_fits version image fit.0)
    (λ y. frames_none (of_dump replica) 0 (finite.entries image.frames) None (AtDumps version (replica + 1) (length images))
    (flat_map dump images ++ more) fault
    (image_frames_fit version image fit.0) (rising_from_none (finite.entries image.frames) (finite.entries_sorted image.frames))
    (dumps_none version (replica + 1) images more fault fit.1 none (flat_map dump images ++ more) refl)
    (frames_of image ++ (flat_map dump images ++ more)) refl
    (subst (λ (n : ℕ). AtFrames (of_dump replica) 0 n None (AtDumps version (replica + 1) (length images))
    (frames_of image ++ (flat_map dump images ++ more)) fault)
    (finite.len-entries image.frames) y))
    rest (is ∙ append_assoc (dump image) (flat_map dump images) more
    ∙ append_assoc (dump_head (head_of image)) (frames_of image) (flat_map dump images ++ more)) x

events_none : (version : Version) (layout : Layout) (index : ℕ) (es : List Event) (more : List ℕ) (fault : Refusal) → IsWide layout
    → AllByRecursion (IsEvent version layout) es → (AtDumps version 0 layout.replicas more fault → ⊥)
    → (rest : List ℕ) → rest ≡ flat_map event es ++ more → AtEvents version layout index (length es) rest fault → ⊥
unfolding AtEvents
events_none version layout index [] more fault l fit none rest is x =
    none (subst (λ (ys : List ℕ). AtDumps version 0 layout.replicas ys fault) is x)
events_none version layout index (e ∷ es) more fault l fit none rest is x =
    unit_none 24 (units.Event index) (Some (BadEvent index)) (IsEvent version layout) event (λ _. AtEvents version layout (index + 1) (length es))
    (events_apart version layout l) e (flat_map event es ++ more) fault (length-event e) fit.0
    (events_none version layout (index + 1) es more fault l fit.1 none (flat_map event es ++ more) refl)
    rest (is ∙ append_assoc (event e) (flat_map event es) more) x

log_none : (version : Version) (layout : Layout) (place : ℕ) (calls : List ℕ) (events : ℕ) (more : List ℕ) (fault : Refusal)
    → AllByRecursion (λ call. call < 2 ^ 32) calls → (AtEvents version layout 0 events more fault → ⊥)
    → (rest : List ℕ) → rest ≡ flat_map log_word calls ++ more → AtLog version layout place (length calls) events rest fault → ⊥
unfolding AtLog
log_none version layout place [] events more fault fit none rest is x =
    none (subst (λ (ys : List ℕ). AtEvents version layout 0 events ys fault) is x)
log_none version layout place (call ∷ calls) events more fault fit none rest is x =
    unit_none 4 (units.Place place) None (λ call. call < 2 ^ 32) log_word (λ _. AtLog version layout (place + 1) (length calls) events) log_words_apart call
    (flat_map log_word calls ++ more) fault refl fit.0
    (log_none version layout (place + 1) calls events more fault fit.1 none (flat_map log_word calls ++ more) refl)
    rest (is ∙ append_assoc (log_word call) (flat_map log_word calls) more) x

start_none : (start : Option Image) (Behind : List ℕ → Refusal → Type 0) (more : List ℕ) (fault : Refusal) → IfSome start IsStart
    → (Behind more fault → ⊥) → (rest : List ℕ) → rest ≡ start_units start ++ more → AtStart (start_frames start) Behind rest fault → ⊥
start_none None Behind more fault fit none rest is x = none (subst (λ (ys : List ℕ). Behind ys fault) is x)
start_none (Some start) Behind more fault fit none rest is x =
    by_count (finite.len start.frames) refl fit.some_frame x where
      by_count : (n : ℕ) → finite.len start.frames ≡ n → 1 ≤ n → AtStart n Behind rest fault → ⊥
      by_count zero count some x = omega arith
      by_count (suc n) count some x =
          unit_none 8 units.StartRoot None (λ root. root < 2 ^ 64) frame_number (λ _. AtFrames of_start 0 (suc n) None Behind) root_apart start.root
          (frames_of start ++ more)
          fault refl fit.image.root
          (λ y. frames_none of_start 0 (finite.entries start.frames) None Behind more fault (image_frames_fit Segment start fit.image)
          (rising_from_none (finite.entries start.frames) (finite.entries_sorted start.frames)) none (frames_of start ++ more) refl
          (subst (λ (k : ℕ). AtFrames of_start 0 k None Behind (frames_of start ++ more) fault) (sym count ∙ finite.len-entries start.frames) y))
          rest (is ∙ append_assoc (frame_number start.root) (frames_of start) more) x

layout_none : (form : Form) (version : Version) (layout : Layout) (Behind : List ℕ → Refusal → Type 0) (rest : List ℕ) (fault : Refusal) → Follows form layout
    → (Behind rest fault → ⊥) → AtLayout form version layout Behind rest fault → ⊥
layout_none form version layout Behind rest fault follows none (inl x) = x.0 follows
layout_none form version layout Behind rest fault follows none (inr x) = none x.1

counted_then : (a b c d e : List ℕ) → (a ++ (b ++ (c ++ d))) ++ e ≡ a ++ (b ++ (c ++ (d ++ e)))
counted_then a b c d e = simp append_assoc

numbered_none : (form : Form) (trace : Recording) (more : List ℕ) (fault : Refusal) → Follows form trace.layout → IsRecording trace
    → (AtEnd trace.version more fault → ⊥) → BehindVersion form trace.version (numbered trace ++ more) fault → ⊥
numbered_none form trace more fault follows h none =
    let behind = AtLog trace.version trace.layout 0 (length trace.log) (length trace.events) in
    let images = dumps trace ++ more in
    let calls = events trace ++ images in
    let rest = logs trace ++ calls in
    unit_none (counts_bytes trace.version) (counts_unit trace.version) (Some BadCount) (IsCounts trace.version) (counts trace.version)
    (BehindCounts form trace.version)
    (counts_apart trace.version) (counts_of trace) (counted trace ++ more) fault (length-counts trace.version (counts_of trace)) (counts_fit trace h)
    (λ x. layout_none form trace.version trace.layout (AtStart (start_frames trace.start) behind) (counted trace ++ more) fault follows
    (λ y. start_none trace.start behind rest fault h.start
    (log_none trace.version trace.layout 0 trace.log (length trace.events) calls fault (recursion_from_All _ _ h.log)
    (events_none trace.version trace.layout 0 trace.events images fault (is_wide trace.version trace.layout h.layout)
    (recursion_from_All (IsEvent trace.version trace.layout) trace.events h.events)
    (λ z. dumps_none trace.version 0 trace.dumps more fault (recursion_from_All _ _ h.dumps) none images refl
    (subst (λ (n : ℕ). AtDumps trace.version 0 n images fault) (sym h.one_dump_each) z)) calls refl) rest refl)
    (counted trace ++ more) (counted_then (start_units trace.start) (logs trace) (events trace) (dumps trace) more) y) x)
    (numbered trace ++ more) (append_assoc (counts trace.version (counts_of trace)) (counted trace) more)

-- nothing is wrong with a spelling and what comes after it, where that isn't wrong at the end
no_fault_ahead : (form : Form) (bytes more : List ℕ) (trace : Recording) (fault : Refusal) → SpellsAs form bytes trace
    → (AtEnd trace.version more fault → ⊥) → HasRefusalAs form (bytes ++ more) fault → ⊥
no_fault_ahead form bytes more trace fault spells none =
    unit_none {A = Unit {0}} 4 units.Magic (Some BadMagic) (λ _. ⊤) (λ _. magic_of form) (λ _. BehindMagic form) (magic_apart form) tt
    (versioned trace ++ more) fault
    (length-magic form) tt
    (unit_none 2 units.Version (Some BadVersion) (IsVersionOf form) version_word (BehindVersion form) (versions_apart form) trace.version
    (numbered trace ++ more) fault
    refl spells.of_form (numbered_none form trace more fault spells.follows spells.in_range none) (versioned trace ++ more)
    (append_assoc (version_word trace.version) (numbered trace) more))
    (bytes ++ more)
    (ap (λ (l : List ℕ). l ++ more)
    (spells.spelled ∙ spelling_is trace ∙ ap (λ (l : List ℕ). l ++ versioned trace) (magic_is form trace.version spells.of_form))
    ∙ append_assoc (magic_of form) (versioned trace) more)

no_refusal : (form : Form) (bytes : List ℕ) (trace : Recording) (fault : Refusal) → SpellsAs form bytes trace → HasRefusalAs form bytes fault → ⊥
no_refusal form bytes trace fault spells h =
    no_fault_ahead form bytes [] trace fault spells (end_none trace.version fault)
    (subst (λ (l : List ℕ). HasRefusalAs form l fault) (sym (append-nil bytes)) h)

pub no_fault : (form : Form) (bytes : List ℕ) (trace : Recording) (fault : Format) → SpellsAs form bytes trace → HasFaultAs form bytes fault → ⊥
no_fault form bytes trace fault spells h = no_refusal form bytes trace (record { fault = fault; unit = h.0; left = h.1 }) spells h.2

-- and bytes that begin with a segment have no fault as one
pub no_fault_of_segment : (before : Option Layout) (bytes more : List ℕ) (segment : Recording) (fault : Format) → SpellsSegment before bytes segment
    → HasSegmentFault before (bytes ++ more) fault → ⊥
no_fault_of_segment before bytes more segment fault spells h =
    let refusal : Refusal = record { fault = fault; unit = h.0; left = h.1 } in
    no_fault_ahead (forms.Segment before) bytes more segment refusal spells (end_of_segment before segment.version more refusal spells.of_form) h.2
