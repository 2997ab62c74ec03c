-- A reader where bytes are missing, or come after the end.
use Rattle.std.proofs.Common.{◌≡◌, ◌≢◌, ℕ, zero, suc, ◌+◌, ◌*◌, ◌-◌, ◌<◌, ◌≤◌, Bool, true, false, List, [], length, Option, Some, None, refl, sym}
use Rattle.std.proofs.Common.{ap, subst, arith, inl, ◌++◌}
use Rattle.std.specs.Prelude.{nat_lt, if◌then◌else◌, MatchOption}
use Rattle.std.proofs.lemmas.Bool.{ltb-true, ltb-false}
use Rattle.std.proofs.Math.Nat.{mul-le-mul_left}
use Rattle.std.proofs.lemmas.List.{length-append}
use Rattle.std.specs.Int.{w64, to_be_bytes}
use Rattle.vs_types.specs.Config.{Layout}
use Rattle.nr_trace.specs.Recording.{Recording}
use Rattle.nr_trace.specs.Spelling.{SpellsAs}
use Rattle.nr_trace.specs.Versions.{IsVersionOf}
use Rattle.nr_trace.specs.FirstFault.{AtEnd, AtFrames, AtDumps, AtEvents, AtLog, AtStart, OfFrames, counts_bytes, refusal_at}
use Rattle.nr_trace.specs.inside.Progress.{cut_off, form_of, frame_begun, frames_of, unit_bytes, said, whole_spelling, words_begun, Ahead, AreInRange, AreUnits, IsReady, IsRun}
use Rattle.nr_trace.specs.declared.refusals.refusal.Refusal.{Refusal}
use Rattle.nr_trace.specs.declared.refusals.refusal.TraceUnit.TheVariants as units
use Rattle.nr_trace.specs.declared.refusals.fault.Format.TheVariants.{Truncated, Trailing}
use Rattle.nr_trace.specs.declared.reading.reader.OpenFrame.{OpenFrame}
use Rattle.nr_trace.specs.declared.reading.reader.Parts.{Parts}
use Rattle.nr_trace.specs.declared.reading.reader.Reader.{Reader}
use Rattle.nr_trace.specs.declared.reading.reader.Reader.TheVariants.{Magic, Version, Header, Root, Log, Events, Dumps, Frame, Words}
use Rattle.nr_trace.specs.declared.formats.version.Version as versions
use Rattle.nr_trace.specs.declared.formats.version.Version.TheVariants.{V1, V2, Segment}
use Rattle.nr_trace.specs.declared.formats.version.Form.{Form}
use Rattle.nr_trace.specs.declared.formats.version.Form.TheVariants as forms
use Rattle.nr_trace.proofs.LawsOfUnits.{length_of_units}

-- ---- the rest is shorter than the next unit

some_is : (m n : ℕ) → Some m ≡ Some n → m ≡ n
some_is m n e = cc

chosen : (b : Bool) (m n : ℕ) → (if b then Some m else None) ≡ Some n → (b ≡ true) × (m ≡ n)
chosen true m n e = (refl, some_is m n e)
chosen false m n e = absurd cc

not_chosen : (b : Bool) (m : ℕ) → (if b then Some m else None) ≡ None → b ≡ false
not_chosen true m e = absurd cc
not_chosen false m e = refl

short_log : (version : versions.Version) (layout : Layout) (place places events : ℕ) (rest : List ℕ) → 1 ≤ places → length rest < 4
    → AtLog version layout place places events rest (refusal_at (units.Place place) rest Truncated)
unfolding AtLog
short_log version layout place zero events rest some short = absurd (omega arith)
short_log version layout place (suc places) events rest some short = inl (short, refl)

short_event : (version : versions.Version) (layout : Layout) (index events : ℕ) (rest : List ℕ) → 1 ≤ events → length rest < 24
    → AtEvents version layout index events rest (refusal_at (units.Event index) rest Truncated)
unfolding AtEvents
short_event version layout index zero rest some short = absurd (omega arith)
short_event version layout index (suc events) rest some short = inl (short, refl)

short_head : (version : versions.Version) (replica dumps : ℕ) (rest : List ℕ) → 1 ≤ dumps → length rest < 16
    → AtDumps version replica dumps rest (refusal_at (units.DumpHead replica) rest Truncated)
unfolding AtDumps
short_head version replica zero rest some short = absurd (omega arith)
short_head version replica (suc dumps) rest some short = inl (short, refl)

short_frame : (own : OfFrames) (index frames : ℕ) (last : Option ℕ) (Behind : List ℕ → Refusal → Type 0) (rest : List ℕ) → 1 ≤ frames → length rest < 8
    → AtFrames own index frames last Behind rest (refusal_at (own.number index) rest Truncated)
unfolding AtFrames
short_frame own index zero last Behind rest some short = absurd (omega arith)
short_frame own index (suc frames) last Behind rest some short = inl (short, refl)

short_start : (frames : ℕ) (Behind : List ℕ → Refusal → Type 0) (rest : List ℕ) → 1 ≤ frames → length rest < 8
    → AtStart frames Behind rest (refusal_at units.StartRoot rest Truncated)
short_start zero Behind rest some short = absurd (omega arith)
short_start (suc frames) Behind rest some short = inl (short, refl)

pub length_begun : (frame : OpenFrame) → length (words_begun frame) ≡ 8 * length frame.dump.coming
length_begun frame = length_of_units (to_be_bytes w64) 8 (λ n. refl) frame.dump.coming

pub too_short : (reader : Reader) (len : ℕ) (rest : List ℕ) → IsReady reader → unit_bytes reader ≡ Some len → length rest < len
    → Ahead reader rest (cut_off reader rest)
too_short (Magic alloc form) len rest ready is short = inl (omega (arith, some_is 4 len is), refl)
too_short (Version alloc form) len rest ready is short = inl (omega (arith, some_is 2 len is), refl)
too_short (Header alloc form version) len rest ready is short = inl (omega (arith, some_is (counts_bytes version) len is), refl)
too_short (Root parts numbers) len rest ready is short = short_start numbers.start _ rest ready.4 (omega (arith, some_is 8 len is))
too_short (Log parts places events) len rest ready is short = short_log parts.version parts.layout (length parts.log.items) places events rest ready.1
    (omega (arith, some_is 4 len is))
too_short (Events parts events) len rest ready is short =
    short_event parts.version parts.layout (length parts.events.items) events rest ready.1 (omega (arith, some_is 24 len is))
too_short (Dumps parts) len rest ready is short =
    let given = chosen (nat_lt (length parts.dumps.items) parts.layout.replicas) 16 len is in
    let one_left : length parts.dumps.items < parts.layout.replicas = ltb-true _ _ given.0 in
    let here : length parts.dumps.items + 0 ≡ length parts.dumps.items = omega arith in
    subst (λ (n : ℕ). Ahead (Dumps parts) rest (refusal_at (units.DumpHead n) rest Truncated)) here
    (short_head parts.version (length parts.dumps.items + 0) (parts.layout.replicas - (length parts.dumps.items + 0)) rest (omega arith)
    (omega (arith, given.1)))
too_short (Frame parts opened last) len rest ready is short =
    short_frame (frames_of parts opened.owner) _ opened.left last _ rest ready.0.some_left (omega (arith, some_is 8 len is))
too_short (Words parts frame) len rest ready is short =
    inl (
      omega (arith, some_is 8 len is, ready.4, length-append (words_begun frame) rest, length_begun frame),
      ap (λ (n : ℕ). refusal_at ((frames_of parts frame.owner).words n) (words_begun frame ++ rest) Truncated) ready.5,
    )

-- ---- no unit is left

behind_end : (form : Form) (version : versions.Version) (rest : List ℕ) → form ≡ forms.Trace → IsVersionOf form version → rest ≢ []
    → AtEnd version rest (refusal_at units.Behind rest Trailing)
behind_end form Segment rest is of more = absurd (subst (λ (f : Form). IsVersionOf f Segment) is of)
behind_end form _ rest is of more = (more, refl)

at_end : (version : versions.Version) (replica dumps : ℕ) (rest : List ℕ) → dumps ≡ 0
    → AtEnd version rest (refusal_at units.Behind rest Trailing) → AtDumps version replica dumps rest (refusal_at units.Behind rest Trailing)
unfolding AtDumps
at_end version replica dumps rest none end = subst (λ (n : ℕ). AtDumps version replica n rest (refusal_at units.Behind rest Trailing)) (sym none) end

-- a trace has nothing behind its end
pub too_long : (reader : Reader) (rest : List ℕ) → IsReady reader → form_of reader ≡ forms.Trace → unit_bytes reader ≡ None → rest ≢ []
    → Ahead reader rest (refusal_at units.Behind rest Trailing)
too_long (Dumps parts) rest ready form_is is more =
    let all : parts.layout.replicas ≤ length parts.dumps.items = ltb-false _ _ (not_chosen (nat_lt (length parts.dumps.items) parts.layout.replicas) 16 is) in
    at_end parts.version (length parts.dumps.items + 0) (parts.layout.replicas - (length parts.dumps.items + 0)) rest (omega arith)
    (behind_end parts.form parts.version rest form_is ready.of_form more)
too_long _ rest ready form_is is more = absurd cc

some_count : (version : versions.Version) → 1 ≤ counts_bytes version
some_count V1 = omega arith
some_count _ = omega arith

pub some_bytes : (reader : Reader) (len : ℕ) → unit_bytes reader ≡ Some len → 1 ≤ len
some_bytes (Magic alloc form) len is = omega (arith, some_is 4 len is)
some_bytes (Version alloc form) len is = omega (arith, some_is 2 len is)
some_bytes (Header alloc form version) len is = subst (λ n. 1 ≤ n) (some_is (counts_bytes version) len is) (some_count version)
some_bytes (Log parts places events) len is = omega (arith, some_is 4 len is)
some_bytes (Events parts events) len is = omega (arith, some_is 24 len is)
some_bytes (Dumps parts) len is = omega (arith, (chosen (nat_lt (length parts.dumps.items) parts.layout.replicas) 16 len is).1)
some_bytes _ len is = omega (arith, some_is 8 len is)

-- what the parts say
abbrev pub recording_of : Parts → Recording
recording_of parts = record {
  version = parts.version;
  layout = parts.layout;
  start = parts.start;
  log = parts.log.items;
  events = parts.events.items;
  dumps = parts.dumps.items;
}

pub dumps_end : (parts : Parts) → AreInRange parts → unit_bytes (Dumps parts) ≡ None → SpellsAs parts.form (whole_spelling parts) (recording_of parts)
dumps_end parts ready is =
    let all : parts.layout.replicas ≤ length parts.dumps.items = ltb-false _ _ (not_chosen (nat_lt (length parts.dumps.items) parts.layout.replicas) 16 is) in
    record {
      of_form = ready.of_form;
      follows = ready.follows;
      in_range = record {
        layout = ready.layout;
        depth = ready.depth;
        start = ready.start;
        few_start = ready.few_start;
        few_places = ready.few_places;
        log = ready.log;
        few_events = ready.few_events;
        events = ready.events;
        one_dump_each = omega (arith, ready.few_dumps, all);
        dumps = ready.dumps;
      };
      spelled = refl;
    }

-- a reader of which no unit is left has read a trace, or a segment
pub ready_to_end : (reader : Reader) → IsReady reader → unit_bytes reader ≡ None → (trace : Recording) × SpellsAs (form_of reader) (said reader) trace
ready_to_end (Dumps parts) ready is = (recording_of parts, dumps_end parts ready is)
ready_to_end _ ready is = absurd cc

-- ---- runs

-- one unit is a run
pub one_unit : (reader : Reader) (len : ℕ) → IsReady reader → unit_bytes reader ≡ Some len → IsRun reader len
one_unit (Magic alloc form) len ready is = sym (some_is 4 len is)
one_unit (Version alloc form) len ready is = sym (some_is 2 len is)
one_unit (Header alloc form version) len ready is = sym (some_is (counts_bytes version) len is)
one_unit (Root parts numbers) len ready is = sym (some_is 8 len is)
one_unit (Log parts places events) len ready is = record {
  count = 1;
  some = omega arith;
  few = ready.1;
  all = omega (arith, some_is 4 len is);
}
one_unit (Events parts events) len ready is = record {
  count = 1;
  some = omega arith;
  few = ready.1;
  all = omega (arith, some_is 24 len is);
}
one_unit (Dumps parts) len ready is =
    let given = chosen (nat_lt (length parts.dumps.items) parts.layout.replicas) 16 len is in
    (ltb-true _ _ given.0, sym given.1)
one_unit (Frame parts opened last) len ready is = sym (some_is 8 len is)
one_unit (Words parts frame) len ready is = record {
  count = 1;
  some = omega arith;
  few = omega (arith, ready.4);
  all = omega (arith, some_is 8 len is);
}

pub alone : (reader : Reader) (have : ℕ) (next : Option ℕ) → IsReady reader → next ≡ unit_bytes reader
    → MatchOption next (unit_bytes reader ≡ None) (λ len. IsRun reader len × (have < len → unit_bytes reader ≡ Some len))
alone reader have None ready is = sym is
alone reader have (Some len) ready is = (one_unit reader len ready (sym is), λ _. sym is)

-- a unit that comes next has few bytes, and what is cut off is in the bytes that have come
most_count : (version : versions.Version) → counts_bytes version ≤ 18
most_count V1 = omega arith
most_count V2 = omega arith
most_count Segment = omega arith

pub most_bytes : (reader : Reader) (len : ℕ) → unit_bytes reader ≡ Some len → len ≤ 24
most_bytes (Magic alloc form) len is = omega (arith, some_is 4 len is)
most_bytes (Version alloc form) len is = omega (arith, some_is 2 len is)
most_bytes (Header alloc form version) len is = omega (arith, some_is (counts_bytes version) len is, most_count version)
most_bytes (Log parts places events) len is = omega (arith, some_is 4 len is)
most_bytes (Events parts events) len is = omega (arith, some_is 24 len is)
most_bytes (Dumps parts) len is = omega (arith, (chosen (nat_lt (length parts.dumps.items) parts.layout.replicas) 16 len is).1)
most_bytes _ len is = omega (arith, some_is 8 len is)

pub few_cut_off : (reader : Reader) (len : ℕ) (begun : List ℕ) → IsReady reader → unit_bytes reader ≡ Some len → length begun < len
    → (cut_off reader begun).left < 4096
few_cut_off (Words parts frame) len begun ready is short =
    omega (arith, ready.4, length_begun frame, length-append (words_begun frame) begun, some_is 8 len is, short)
few_cut_off reader len begun ready is short = omega (arith, short, most_bytes reader len is)

pub cut_off_within : (reader : Reader) (begun : List ℕ) → (cut_off reader begun).left ≤ length (said reader ++ begun)
cut_off_within (Words parts frame) begun =
    let before = frame_begun parts frame in
    omega (
      arith,
      length-append (words_begun frame) begun,
      length-append (before ++ words_begun frame) begun,
      length-append before (words_begun frame),
    )
cut_off_within reader begun = omega (arith, length-append (said reader) begun)

-- a run has a byte
units_some : (unit most bytes : ℕ) → 1 ≤ unit → AreUnits unit most bytes → 1 ≤ bytes
units_some unit most bytes some are = omega (arith, are.all, mul-le-mul_left unit are.some)

pub run_some : (reader : Reader) (len : ℕ) → IsRun reader len → 1 ≤ len
run_some (Header alloc form version) len run = subst (λ n. 1 ≤ n) (sym run) (some_count version)
run_some (Log parts places events) len run = units_some 4 places len (omega arith) run
run_some (Events parts events) len run = units_some 24 events len (omega arith) run
run_some (Dumps parts) len run = omega (arith, run.1)
run_some (Words parts frame) len run = units_some 8 (512 - length frame.dump.coming) len (omega arith) run
run_some _ len run = omega (arith, run)
