-- A trace that is put together from the units at the front of bytes.
use Rattle.std.proofs.Common.{◌≡◌, ℕ, zero, suc, ◌^◌, ◌<◌, ◌≤◌, Bool, true, false, ◌&&◌, T, List, [], ◌∷◌, ◌++◌, length, map, All, Option, Some, None, refl, ap}
use Rattle.std.proofs.Common.{ap₂, sym, ◌∙◌, subst, arith}
use Rattle.std.specs.Prelude.{flat_map, IfSome, ⊤}
use Rattle.std.specs.List.{AllByRecursion}
use Rattle.std.specs.FinMap as finite
use Rattle.std.specs.FinMap.Entries as kept
use Rattle.std.specs.Ordering.{nat_cmp, is_lt}
use Rattle.std.specs.Cmp.{nat_cmp_is}
use Rattle.std.specs.declared.cmp.Ordering.TheVariants.{Less}
use Rattle.std.proofs.lemmas.List.{append_assoc}
use Rattle.std.proofs.lemmas.List.Elements.{All-from_recursion}
use Rattle.vs_types.specs.Config.{Layout}
use Rattle.vs_types.specs.Frame.{IsFrame}
use Rattle.vs_walk.specs.Dump.{Image}
use Rattle.nr_trace.specs.Recording.{Recording, IsRecording, IsImage, IsStart, IsEvent, start_frames}
use Rattle.nr_trace.specs.Versions.{Follows, IsVersionOf}
use Rattle.vs_types.specs.declared.limits.TheConstants.{FRAMES}
use Rattle.nr_trace.specs.Spelling.{magic, version_word, counts, counts_of, dump_head, spelling, start_units, SpellsAs, log_word, event, dump, frame_number}
use Rattle.nr_trace.specs.Spelling.{frame_words}
use Rattle.nr_trace.specs.FirstFault.{IsCounts, IsDumpHead, IsNext, magic_of}
use Rattle.nr_trace.specs.declared.formats.version.Version.{Version}
use Rattle.nr_trace.specs.declared.formats.version.Version.TheVariants.{Segment}
use Rattle.nr_trace.specs.declared.formats.version.Form.{Form}
use Rattle.nr_trace.specs.declared.formats.fields.Counts.{Counts}
use Rattle.nr_trace.specs.declared.formats.fields.DumpHead.{DumpHead}
use Rattle.nr_trace.proofs.LawsOfSpelling.{Frame, FrameFits, frame, magic_is}
use Rattle.nr_trace.proofs.LawsOfUnits.{few_of_start}
use Rattle.nr_trace.proofs.LawsOfFormat.{RisesFrom}

-- the units of so many values are at the front, and what comes after has the property
pub record HasUnits {A : Type 0} (Fit : List A → Type 0) (spelled : A → List ℕ) (many : ℕ) (Then : List ℕ → Type 0) (rest : List ℕ) : Type 0 where
  pub values : List A
  pub fit : Fit values
  pub count : length values ≡ many
  pub more : List ℕ
  pub parts : rest ≡ flat_map spelled values ++ more
  pub then : Then more

pub no_unit : {A : Type 0} (Fit : List A → Type 0) (spelled : A → List ℕ) (Then : List ℕ → Type 0) (rest : List ℕ) → Fit [] → Then rest
    → HasUnits Fit spelled 0 Then rest
no_unit Fit spelled Then rest none then = record { values = []; fit = none; count = refl; more = rest; parts = refl; then = then }

pub one_unit : {A : Type 0} (Fit Grown : List A → Type 0) (spelled : A → List ℕ) (many : ℕ) (Then : List ℕ → Type 0) (value : A) (rest behind : List ℕ)
    → ((values : List A) → Fit values → Grown (value ∷ values)) → rest ≡ spelled value ++ behind → HasUnits Fit spelled many Then behind
    → HasUnits Grown spelled (suc many) Then rest
one_unit Fit Grown spelled many Then value rest behind grow is has = record {
  values = value ∷ has.values;
  fit = grow has.values has.fit;
  count = ap suc has.count;
  more = has.more;
  parts = is ∙ ap (λ (l : List ℕ). spelled value ++ l) has.parts ∙ sym (append_assoc (spelled value) (flat_map spelled has.values) has.more);
  then = has.then;
}

-- ---- a dump

-- frames that fit, with numbers that rise from above this one on
abbrev pub FramesFit : Option ℕ → List Frame → Type 0
FramesFit before frames = AllByRecursion FrameFits frames × RisesFrom before frames

pub one_frame : (before : Option ℕ) (many : ℕ) (Then : List ℕ → Type 0) (number : ℕ) (words rest middle behind : List ℕ) → IsNext before number → IsFrame words
    → rest ≡ frame_number number ++ middle → middle ≡ frame_words words ++ behind → HasUnits (FramesFit (Some number)) frame many Then behind
    → HasUnits (FramesFit before) frame (suc many) Then rest
one_frame before many Then number words rest middle behind next fits is also has =
    one_unit (FramesFit (Some number)) (FramesFit before) frame many Then (number, words) rest behind
    (λ frames fit. (((next.in_range, fits), fit.0), (next.rises, fit.1)))
    (is ∙ ap (λ (l : List ℕ). frame_number number ++ l) also ∙ sym (append_assoc (frame_number number) (frame_words words) behind)) has

both_true : (a b : Bool) → T a → T b → T (a && b)
both_true true b h k = k
both_true false b h k = absurd h

is_less : (x y : ℕ) → x < y → T (is_lt (nat_cmp x y))
is_less x y l = subst (λ r. T (is_lt r)) (nat_cmp_is x y Less l) tt

lower : (low high : ℕ) (frames : List Frame) → low < high → RisesFrom (Some high) frames → RisesFrom (Some low) frames
lower low high [] l rise = tt
lower low high (f ∷ fs) l rise = let above : high < f.0 = rise.0 in (omega arith, rise.1)

all_above : (low : ℕ) (frames : List Frame) → RisesFrom (Some low) frames → T (kept.below_all nat_cmp low frames)
all_above low [] rise = tt
all_above low (f ∷ fs) rise = both_true _ _ (is_less low f.0 rise.0) (all_above low fs (lower low f.0 fs rise.0 rise.1))

sorted : (before : Option ℕ) (frames : List Frame) → RisesFrom before frames → T (kept.is_sorted nat_cmp frames)
sorted before [] rise = tt
sorted before (f ∷ fs) rise = both_true _ _ (all_above f.0 fs rise.1) (sorted (Some f.0) fs rise.1)

numbers_fit : (frames : List Frame) → AllByRecursion FrameFits frames → AllByRecursion (λ n. n < 2 ^ 40) (map (λ f. f.0) frames)
numbers_fit [] h = tt
numbers_fit (f ∷ fs) h = (h.0.0, numbers_fit fs h.1)

words_fit : (frames : List Frame) → AllByRecursion FrameFits frames → AllByRecursion IsFrame (map (λ f. f.1) frames)
words_fit [] h = tt
words_fit (f ∷ fs) h = (h.0.1, words_fit fs h.1)

-- the dump with this head and these frames
abbrev image_from : DumpHead → List Frame → Image
image_from head frames = record { applied = head.applied; root = head.root; frames = finite.from_sorted frames }

held : (head : DumpHead) (frames : List Frame) → FramesFit None frames → finite.entries (image_from head frames).frames ≡ frames
held head frames fit = finite.entries-from_sorted nat_cmp frames (sorted None frames fit.1)

as_many : (head : DumpHead) (frames : List Frame) → FramesFit None frames → length frames ≡ head.frames
    → finite.len (image_from head frames).frames ≡ head.frames
as_many head frames fit count = finite.len-entries (image_from head frames).frames ∙ ap length (held head frames fit) ∙ count

image_fits : (version : Version) (head : DumpHead) (frames : List Frame) → IsDumpHead version head → FramesFit None frames → length frames ≡ head.frames
    → IsImage version (image_from head frames)
image_fits version head frames fits fit count =
    let many = as_many head frames fit count in
    let all = sym (held head frames fit) in
    record {
      applied = fits.applied;
      root = fits.root;
      some_frame = omega (arith, fits.some_frame);
      few_frames = omega (arith, fits.few_frames);
      nothing = λ none. fits.nothing (omega (arith, none));
      numbers = subst (λ (es : List Frame). All (λ n. n < 2 ^ 40) (map (λ e. e.0) es)) all (All-from_recursion (λ n. n < 2 ^ 40) _ (numbers_fit frames fit.0));
      words = subst (λ (es : List Frame). All IsFrame (map (λ e. e.1) es)) all (All-from_recursion IsFrame _ (words_fit frames fit.0));
    }

dump_is : (head : DumpHead) (frames : List Frame) → FramesFit None frames → length frames ≡ head.frames
    → dump (image_from head frames) ≡ dump_head head ++ flat_map frame frames
dump_is head frames fit count =
    ap₂ (λ (n : ℕ) (es : List Frame). dump_head (record { applied = head.applied; frames = n; root = head.root }) ++ flat_map frame es)
    (as_many head frames fit count) (held head frames fit)

-- this many dumps are at the front
abbrev pub HasDumps : Version → ℕ → List ℕ → Type 0
HasDumps version many = HasUnits (AllByRecursion (IsImage version)) dump many (λ _. ⊤)

pub one_dump : (version : Version) (many : ℕ) (head : DumpHead) (rest behind : List ℕ) → IsDumpHead version head → rest ≡ dump_head head ++ behind
    → HasUnits (FramesFit None) frame head.frames (HasDumps version many) behind → HasDumps version (suc many) rest
one_dump version many head rest behind fits is has =
    one_unit (AllByRecursion (IsImage version)) (AllByRecursion (IsImage version)) dump many (λ _. ⊤) (image_from head has.values) rest has.more
    (λ images all. (image_fits version head has.values fits has.fit has.count, all))
    (is ∙ ap (λ (l : List ℕ). dump_head head ++ l) has.parts ∙ sym (append_assoc (dump_head head) (flat_map frame has.values) has.more)
    ∙ ap (λ (l : List ℕ). l ++ has.more) (sym (dump_is head has.values has.fit has.count))) has.then

-- ---- a trace

abbrev pub HasEvents : Version → Layout → ℕ → List ℕ → Type 0
HasEvents version layout many = HasUnits (AllByRecursion (IsEvent version layout)) event many (HasDumps version layout.replicas)

abbrev pub HasLog : Version → Layout → ℕ → ℕ → List ℕ → Type 0
HasLog version layout places many = HasUnits (AllByRecursion (λ call. call < 2 ^ 32)) log_word places (HasEvents version layout many)

-- the start that is at the front, if it has frames, and then the log
abbrev pub HasFrames : Version → Counts → List ℕ → Type 0
HasFrames version numbers =
    HasUnits (FramesFit None) frame numbers.start (HasLog version numbers.layout numbers.places numbers.events)

pub record HasRoot (version : Version) (numbers : Counts) (rest : List ℕ) : Type 0 where
  pub root : ℕ
  pub fits : root < 2 ^ 64
  pub behind : List ℕ
  pub parts : rest ≡ frame_number root ++ behind
  pub frames : HasFrames version numbers behind

abbrev pub HasStart : Version → Counts → ℕ → List ℕ → Type 0
HasStart version numbers zero = HasLog version numbers.layout numbers.places numbers.events
HasStart version numbers (suc n) = HasRoot version numbers

-- a front of the bytes spells what has the form
abbrev pub HasFront : Form → List ℕ → Type 0
HasFront form bytes = (front : List ℕ) × (more : List ℕ) × (trace : Recording) × (bytes ≡ front ++ more) × SpellsAs form front trace

-- the same of bytes behind the counts: a start of this version and the units after it
record HasRest (version : Version) (numbers : Counts) (rest : List ℕ) : Type 0 where
  start : Option Image
  is_start : IfSome start IsStart
  as_many : start_frames start ≡ numbers.start
  behind : List ℕ
  parts : rest ≡ start_units start ++ behind
  log : HasLog version numbers.layout numbers.places numbers.events behind

rest_of : (version : Version) (numbers : Counts) (n : ℕ) (rest : List ℕ) → numbers.start ≡ n → numbers.start ≤ FRAMES → HasStart version numbers n rest
    → HasRest version numbers rest
rest_of version numbers zero rest none few has =
    record { start = None; is_start = tt; as_many = sym none; behind = rest; parts = refl; log = has }
rest_of version numbers (suc n) rest some few has =
    let head : DumpHead = record { applied = 0; frames = numbers.start; root = has.root } in
    let frames = has.frames in
    let fits : IsDumpHead Segment head =
    record { applied = omega arith; some_frame = omega arith; few_frames = few; root = has.fits; nothing = λ none. absurd (omega arith) } in
    let image = image_from head frames.values in
    let many = as_many head frames.values frames.fit frames.count in
    record {
      start = Some image;
      is_start = record {
        image = image_fits Segment head frames.values fits frames.fit frames.count;
        some_frame = omega (arith, many, some);
        applied = refl;
      };
      as_many = many;
      behind = frames.more;
      parts = has.parts ∙ ap (λ (l : List ℕ). frame_number has.root ++ l) frames.parts
          ∙ sym (append_assoc (frame_number has.root) (flat_map frame frames.values) frames.more)
          ∙ ap (λ (es : List Frame). (frame_number has.root ++ flat_map frame es) ++ frames.more) (sym (held head frames.values frames.fit));
      log = frames.then;
    }

seven_parts : (m v n s a b c more : List ℕ)
    → m ++ (v ++ (n ++ (s ++ (a ++ (b ++ (c ++ more)))))) ≡ (m ++ v ++ n ++ s ++ a ++ b ++ c) ++ more
seven_parts m v n s a b c more = simp append_assoc

trace_of : (version : Version) (numbers : Counts) (rest : List ℕ) → HasRest version numbers rest → Recording
trace_of version numbers rest has = record {
  version = version;
  layout = numbers.layout;
  start = has.start;
  log = has.log.values;
  events = has.log.then.values;
  dumps = has.log.then.then.values;
}

trace_fits : (version : Version) (numbers : Counts) (rest : List ℕ) → IsCounts version numbers → (has : HasRest version numbers rest)
    → IsRecording (trace_of version numbers rest has)
unfolding trace_of
trace_fits version numbers rest fits has = record {
  layout = fits.layout;
  depth = fits.depth;
  start = has.is_start;
  few_start = omega (arith, has.as_many, fits.few_start);
  few_places = omega (arith, has.log.count, fits.few_places);
  log = All-from_recursion (λ call. call < 2 ^ 32) has.log.values has.log.fit;
  few_events = omega (arith, has.log.then.count, fits.few_events);
  events = All-from_recursion (IsEvent version numbers.layout) has.log.then.values has.log.then.fit;
  one_dump_each = has.log.then.then.count;
  dumps = All-from_recursion (IsImage version) has.log.then.then.values has.log.then.then.fit;
}

pub one_front : (form : Form) (version : Version) (numbers : Counts) (bytes middle behind rest : List ℕ) → IsVersionOf form version
    → Follows form numbers.layout → IsCounts version numbers
    → bytes ≡ magic_of form ++ middle → middle ≡ version_word version ++ behind → behind ≡ counts version numbers ++ rest
    → HasStart version numbers numbers.start rest → HasFront form bytes
unfolding trace_of rest_of
one_front form version numbers bytes middle behind rest of follows fits is_bytes is_middle is_behind stands =
    let few = few_of_start version in
    let has = rest_of version numbers numbers.start rest refl (omega (arith, few, fits.few_start)) stands in
    let trace = trace_of version numbers rest has in
    let start = start_units has.start in
    let log = flat_map log_word has.log.values in
    let calls = flat_map event has.log.then.values in
    let images = flat_map dump has.log.then.then.values in
    let more = has.log.then.then.more in
    let front = magic version ++ version_word version ++ counts version numbers in
    let same : numbers ≡ counts_of trace =
    λ i. record { layout = numbers.layout; places = sym has.log.count i; events = sym has.log.then.count i; start = sym has.as_many i } in (
      spelling trace,
      more,
      trace,
      is_bytes ∙ ap (λ (l : List ℕ). l ++ middle) (sym (magic_is form version of))
          ∙ ap (λ (l : List ℕ). magic version ++ l) (is_middle ∙ ap (λ (l : List ℕ). version_word version ++ l) (is_behind
          ∙ ap (λ (l : List ℕ). counts version numbers ++ l) (has.parts ∙ ap (λ (l : List ℕ). start ++ l) (has.log.parts
          ∙ ap (λ (l : List ℕ). log ++ l) (has.log.then.parts ∙ ap (λ (l : List ℕ). calls ++ l) has.log.then.then.parts)))))
          ∙ seven_parts (magic version) (version_word version) (counts version numbers) start log calls images more
          ∙ ap (λ (c : Counts). (magic version ++ version_word version ++ counts version c ++ start ++ log ++ calls ++ images) ++ more) same,
      record { of_form = of; follows = follows; in_range = trace_fits version numbers rest fits has; spelled = refl },
    )
