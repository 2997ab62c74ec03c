-- Faults at a unit, and after it.
use Rattle.std.proofs.Common.{◌≡◌, ◌≢◌, ℕ, zero, suc, ◌+◌, ◌-◌, ◌^◌, ◌<◌, ◌≤◌, List, ◌++◌, length, Option, Some, None, refl, sym, ap, subst, ◌∙◌, arith, inl}
use Rattle.std.proofs.Common.{inr}
use Rattle.std.proofs.lemmas.List.{take_at, length-append}
use Rattle.vs_types.specs.Config.{Layout}
use Rattle.nr_trace.specs.Recording.{IsEvent}
use Rattle.nr_trace.specs.Spelling.{log_word, event}
use Rattle.nr_trace.specs.FirstFault.{AtUnit, AtLog, AtEvents, IsRefusedBy, and_then, counts_bytes, counts_unit, refusal_at, unit_size}
use Rattle.nr_trace.specs.inside.Progress.{HasRead, frames_of}
use Rattle.nr_trace.specs.declared.reading.reader.Owner.{Owner}
use Rattle.nr_trace.specs.declared.reading.reader.Owner.TheVariants as owners
use Rattle.nr_trace.specs.declared.reading.reader.Parts.{Parts}
use Rattle.nr_trace.specs.declared.recordings.event.Event.{Event}
use Rattle.nr_trace.specs.declared.refusals.fault.Format.{Format}
use Rattle.nr_trace.specs.declared.refusals.refusal.Refusal.{Refusal}
use Rattle.nr_trace.specs.declared.refusals.refusal.TraceUnit.{TraceUnit}
use Rattle.nr_trace.specs.declared.refusals.refusal.TraceUnit.TheVariants as units
use Rattle.nr_trace.specs.declared.refusals.fault.Format.TheVariants.{BadEvent}
use Rattle.nr_trace.specs.declared.reading.reader.Reader.{Reader}
use Rattle.nr_trace.specs.declared.formats.version.Version.{Version}
use Rattle.nr_trace.specs.declared.formats.version.Version.TheVariants.{V1, V2, Segment}
use Rattle.nr_trace.specs.declared.formats.version.Form.{Form}

-- how many bytes some units have
pub size_of_counts : (version : Version) → unit_size (counts_unit version) ≡ counts_bytes version
size_of_counts V1 = refl
size_of_counts V2 = refl
size_of_counts Segment = refl

pub number_size : (parts : Parts) (owner : Owner) (index : ℕ) → unit_size ((frames_of parts owner).number index) ≡ 8
number_size parts (owners.Start places events) index = refl
number_size parts owners.Replica index = refl

-- more bytes are left where more come
pub more_left : (named : TraceUnit) (unit rest : List ℕ) (fault : Format) (refusal : Refusal) → refusal ≡ refusal_at named unit fault
    → refusal_at named (unit ++ rest) fault ≡ and_then rest refusal
more_left named unit rest fault refusal is =
    ap (λ (n : ℕ). let refusal : Refusal = record { fault = fault; unit = named; left = n } in refusal) (length-append unit rest) ∙ ap (and_then rest) (sym is)

-- a unit that spells nothing that fits is refused, whatever comes after it
pub refused_by : (Behind : List ℕ → Refusal → Type 0) (named : TraceUnit) (unit : List ℕ) (fault : Format) (refusal : Refusal)
    → unit_size named ≤ length unit → refusal ≡ refusal_at named unit fault → ((rest : List ℕ) → Behind (unit ++ rest) (and_then rest refusal))
    → IsRefusedBy Behind unit refusal
refused_by Behind named unit fault refusal long is lasts = record {
  within = omega (arith, ap (λ (r : Refusal). r.left) is);
  whole = subst (λ (r : Refusal). unit_size r.unit ≤ r.left) (sym is) long;
  lasts = lasts;
}

-- the unit spells nothing that fits
pub refused : {A : Type 0} (bytes : ℕ) (named : TraceUnit) (fault : Format) (Fits : A → Type 0) (spelled : A → List ℕ) (Behind : A → List ℕ → Refusal
    → Type 0) (unit rest : List ℕ) (refusal : Refusal)
    → refusal ≡ refusal_at named unit fault → length unit ≡ bytes → ((value : A) → Fits value → unit ≢ spelled value)
    → AtUnit bytes named (Some fault) Fits spelled Behind (unit ++ rest) (and_then rest refusal)
refused bytes named fault Fits spelled Behind unit rest refusal is whole none = inr (inl (
  omega (arith, length-append unit rest),
  ap Some (more_left named unit rest fault refusal is),
  λ value fits e. none value fits (sym (take_at unit rest bytes whole) ∙ e),
))

-- the unit spells a value, and what comes after has the fault
pub passed : {A : Type 0} (bytes : ℕ) (named : TraceUnit) (own : Option Format) (Fits : A → Type 0) (spelled : A → List ℕ) (Behind : A → List ℕ → Refusal
    → Type 0) (fault : Refusal) (unit rest : List ℕ)
    (value : A) → Fits value → unit ≡ spelled value → Behind value rest fault → AtUnit bytes named own Fits spelled Behind (unit ++ rest) fault
passed bytes named own Fits spelled Behind fault unit rest value fits e behind = inr (inr (value, rest, fits, ap (λ (l : List ℕ). l ++ rest) e, behind))

-- what has been read may be said in other words, and its faults go into others
pub goes_on : (form : Form) (reader : Reader) (bytes more : List ℕ) (Behind Before : List ℕ → Refusal → Type 0) → HasRead form bytes Behind reader
    → bytes ≡ more
    → ((rest : List ℕ) (fault : Refusal) → Behind rest fault → Before rest fault) → HasRead form more Before reader
goes_on form reader bytes more Behind Before has e into =
    record { form_is = has.form_is; ready = has.ready; bytes_are = has.bytes_are ∙ e; faults = λ rest fault h. into rest fault (has.faults rest fault h) }

pub place_passed : (version : Version) (layout : Layout) (place places events call : ℕ) (unit rest : List ℕ) (fault : Refusal) → 1 ≤ places → call < 2 ^ 32
    → unit ≡ log_word call → AtLog version layout (place + 1) (places - 1) events rest fault → AtLog version layout place places events (unit ++ rest) fault
unfolding AtLog
place_passed version layout place zero events call unit rest fault some fits e behind = absurd (omega arith)
place_passed version layout place (suc places) events call unit rest fault some fits e behind =
    let down : suc places - 1 ≡ places = omega arith in
    passed 4 (units.Place place) None (λ call. call < 2 ^ 32) log_word (λ _. AtLog version layout (place + 1) places events) fault unit rest call fits e
    (subst (λ n. AtLog version layout (place + 1) n events rest fault) down behind)

pub event_passed : (version : Version) (layout : Layout) (index events : ℕ) (recorded : Event) (unit rest : List ℕ) (fault : Refusal) → 1 ≤ events
    → IsEvent version layout recorded → unit ≡ event recorded
    → AtEvents version layout (index + 1) (events - 1) rest fault → AtEvents version layout index events (unit ++ rest) fault
unfolding AtEvents
event_passed version layout index zero recorded unit rest fault some fits e behind = absurd (omega arith)
event_passed version layout index (suc events) recorded unit rest fault some fits e behind =
    let down : suc events - 1 ≡ events = omega arith in
    passed 24 (units.Event index) (Some (BadEvent index)) (IsEvent version layout) event (λ _. AtEvents version layout (index + 1) events) fault unit
    rest recorded fits e
    (subst (λ n. AtEvents version layout (index + 1) n rest fault) down behind)

pub event_refused : (version : Version) (layout : Layout) (index events : ℕ) (unit rest : List ℕ) → 1 ≤ events → length unit ≡ 24
    → ((recorded : Event) → IsEvent version layout recorded → unit ≢ event recorded)
    → AtEvents version layout index events (unit ++ rest) (and_then rest (refusal_at (units.Event index) unit (BadEvent index)))
unfolding AtEvents
event_refused version layout index zero unit rest some whole none = absurd (omega arith)
event_refused version layout index (suc events) unit rest some whole none =
    refused 24 (units.Event index) (BadEvent index) (IsEvent version layout) event (λ _. AtEvents version layout (index + 1) events)
    unit rest (refusal_at (units.Event index) unit (BadEvent index)) refl whole none
