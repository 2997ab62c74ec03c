-- A reader that has taken places of the log, or events.
use Rattle.std.proofs.Common.{◌≡◌, ℕ, suc, ◌+◌, ◌*◌, ◌-◌, ◌^◌, ◌<◌, ◌≤◌, List, [], ◌∷◌, ◌++◌, length, All, refl, sym, ap, subst, subst₂, ◌∙◌, arith, append_assoc}
use Rattle.std.specs.Global.{Vec}
use Rattle.std.specs.List.{flat_map}
use Rattle.std.proofs.lemmas.List.{append-nil, nil_from_length, length-append, flat_map_more}
use Rattle.std.proofs.lemmas.List.Concat.{flat_map-cons}
use Rattle.std.proofs.lemmas.List.Elements.{All-head, All-tail, All-push, All-append}
use Rattle.vs_types.specs.Refusal.{IfRefused}
use Rattle.vs_types.specs.declared.requests.refusal.Fail.{Fail}
use Rattle.vs_types.specs.declared.requests.refusal.Fail.TheVariants.{Memory, Refused}
use Rattle.vs_types.specs.Config.{Layout}
use Rattle.vs_types.specs.declared.limits.TheConstants.{LOG_PLACES, CALLS}
use Rattle.vs_walk.specs.Dump.{Image}
use Rattle.nr_trace.specs.Spelling.{log_word, event}
use Rattle.nr_trace.specs.FirstFault.{AtLog, AtEvents, IsRefusedBy, and_then, refusal_at, unit_size}
use Rattle.nr_trace.specs.inside.Reading.{ArePlaced, AreRecorded, IsBadEvent, SpellsEvent}
use Rattle.nr_trace.specs.inside.Progress.{HasRead, AreInRange}
use Rattle.nr_trace.specs.Recording.{IsEvent}
use Rattle.nr_trace.specs.declared.recordings.event.Event.{Event}
use Rattle.nr_trace.specs.declared.refusals.refusal.Refusal.{Refusal}
use Rattle.nr_trace.specs.declared.refusals.refusal.TraceUnit.TheVariants as units
use Rattle.nr_trace.specs.declared.refusals.fault.Format.TheVariants.{BadEvent}
use Rattle.nr_trace.specs.declared.reading.reader.Parts.{Parts}
use Rattle.nr_trace.specs.declared.reading.reader.Reader.{Reader}
use Rattle.nr_trace.specs.declared.formats.version.Version.{Version}
use Rattle.nr_trace.specs.declared.formats.version.Form.{Form}
use Rattle.nr_trace.proofs.LawsOfUnits.{length-event, length_of_units}
use Rattle.nr_trace.proofs.Spelled.{spelling_of, more_places, more_events}
use Rattle.nr_trace.proofs.Units.{goes_on, place_passed, event_passed, event_refused}

-- nothing comes after a front that is as long as the unit
pub only_front : (unit front rest : List ℕ) → unit ≡ front ++ rest → length unit ≡ length front → unit ≡ front
only_front unit front rest e whole =
    let none : rest ≡ [] = nil_from_length rest (omega (arith, ap length e, whole, length-append front rest)) in
    e ∙ ap (λ (l : List ℕ). front ++ l) none ∙ append-nil front

-- ---- places of the log

-- what is ahead of some places
places_passed : (version : Version) (layout : Layout) (place places events : ℕ) (calls rest : List ℕ) (fault : Refusal) → length calls ≤ places
    → All (λ call. call < 2 ^ 32) calls
    → AtLog version layout (place + length calls) (places - length calls) events rest fault
    → AtLog version layout place places events (flat_map log_word calls ++ rest) fault
places_passed version layout place places events [] rest fault few fit h =
    let all : places - 0 ≡ places = omega arith in
    let here : place + 0 ≡ place = omega arith in
    subst (λ (n : ℕ). AtLog version layout place n events rest fault) all (subst (λ (p : ℕ). AtLog version layout p (places - 0) events rest fault) here h)
places_passed version layout place places events (call ∷ calls) rest fault few fit h =
    let fewer : places - suc (length calls) ≡ places - 1 - length calls = omega arith in
    let further : place + suc (length calls) ≡ place + 1 + length calls = omega arith in
    subst (λ (l : List ℕ). AtLog version layout place places events l fault)
    (sym (ap (λ (l : List ℕ). l ++ rest) (flat_map-cons log_word call calls) ∙ append_assoc (log_word call) (flat_map log_word calls) rest))
    (place_passed version layout place places events call (log_word call) (flat_map log_word calls ++ rest) fault (omega (arith, few))
    (All-head (λ call. call < 2 ^ 32) call calls fit) refl
    (places_passed version layout (place + 1) (places - 1) events calls rest fault (omega (arith, few)) (All-tail (λ call. call < 2 ^ 32) call calls fit)
    (subst (λ (n : ℕ). AtLog version layout (place + 1 + length calls) n events rest fault) fewer
    (subst (λ (p : ℕ). AtLog version layout p (places - suc (length calls)) events rest fault) further h))))

length-places : (calls : List ℕ) → length (flat_map log_word calls) ≡ 4 * length calls
length-places calls = length_of_units log_word 4 (λ n. refl) calls

-- so many units are as many calls
pub as_many_places : (before run after : List ℕ) (count : ℕ) (placed : ArePlaced before run after) → length run ≡ 4 * count → length placed.calls ≡ count
as_many_places before run after count placed all = omega (arith, all, ap length placed.spelled, length-places placed.calls)

pub places_taken : (form : Form) (version : Version) (layout : Layout) (front : ℕ → List ℕ) (places events : ℕ) (log more : List ℕ)
    (recorded : List Event) (dumps : List Image) (run : List ℕ) (count : ℕ) (reader : Reader)
    → count ≤ places → length run ≡ 4 * count → recorded ≡ [] → dumps ≡ [] → ArePlaced log run more
    → HasRead form (spelling_of (front (length more + (places - count))) more recorded dumps)
    (AtLog version layout (length more) (places - count) events) reader
    → HasRead form (spelling_of (front (length log + places)) log recorded dumps ++ run)
    (λ rest fault. AtLog version layout (length log) places events (run ++ rest) fault) reader
places_taken form version layout front places events log more recorded dumps run count reader few all no_events no_dumps placed has =
    let as_many = as_many_places log run more count placed all in
    let further : length more ≡ length log + length placed.calls = ap length placed.added ∙ length-append log placed.calls in
    let long : length more + (places - count) ≡ length log + places = omega (arith, few, ap length placed.added, length-append log placed.calls, as_many) in
    goes_on form reader _ _ _ _ has
    (ap (λ (n : ℕ). spelling_of (front n) more recorded dumps) long
    ∙ ap (λ (l : List ℕ). spelling_of (front (length log + places)) l recorded dumps) placed.added
    ∙ more_places (front (length log + places)) log placed.calls recorded dumps no_events no_dumps
    ∙ ap (λ (l : List ℕ). spelling_of (front (length log + places)) log recorded dumps ++ l) (sym placed.spelled))
    (λ rest fault h. subst (λ (l : List ℕ). AtLog version layout (length log) places events (l ++ rest) fault) (sym placed.spelled)
    (places_passed version layout (length log) places events placed.calls rest fault (omega (arith, few, as_many)) placed.fit
    (subst (λ (n : ℕ). AtLog version layout (length log + length placed.calls) (places - n) events rest fault) (sym as_many)
    (subst (λ (p : ℕ). AtLog version layout p (places - count) events rest fault) further h))))

pub places_in_range : (parts : Parts) (held : Vec ℕ) (run : List ℕ) (count : ℕ) → AreInRange parts → ArePlaced parts.log.items run held.items
    → length run ≡ 4 * count → length parts.log.items + count ≤ LOG_PLACES → AreInRange (record parts { log = held })
places_in_range parts held run count in_range placed all few = record {
  of_form = in_range.of_form;
  follows = in_range.follows;
  layout = in_range.layout;
  depth = in_range.depth;
  start = in_range.start;
  few_start = in_range.few_start;
  few_places = omega (
    arith,
    few,
    ap length placed.added,
    length-append parts.log.items placed.calls,
    as_many_places parts.log.items run held.items count placed all,
  );
  log = subst (All (λ call. call < 2 ^ 32)) (sym placed.added) (All-append (λ call. call < 2 ^ 32) parts.log.items placed.calls in_range.log placed.fit);
  few_events = in_range.few_events;
  events = in_range.events;
  few_dumps = in_range.few_dumps;
  dumps = in_range.dumps;
}

-- some units are taken, and this is left
pub record ArePlacing (before bytes after : List ℕ) (k : ℕ) (rest : List ℕ) : Type 0 where
  pub calls : List ℕ
  pub fit : All (λ call. call < 2 ^ 32) calls
  pub added : after ≡ before ++ calls
  pub parts : bytes ≡ flat_map log_word calls ++ rest
  pub left : length rest + 4 * k ≡ length bytes

pub all_placed : (before bytes after : List ℕ) (k : ℕ) (rest : List ℕ) → ArePlacing before bytes after k rest → length bytes ≤ 4 * k
    → ArePlaced before bytes after
all_placed before bytes after k rest placing le =
    let none : rest ≡ [] = nil_from_length rest (omega (arith, placing.left)) in
    record {
      calls = placing.calls;
      fit = placing.fit;
      added = placing.added;
      spelled = placing.parts ∙ ap (λ (l : List ℕ). flat_map log_word placing.calls ++ l) none ∙ append-nil (flat_map log_word placing.calls);
    }

-- ---- events

-- what is ahead of some events
events_passed : (version : Version) (layout : Layout) (index events : ℕ) (recorded : List Event) (rest : List ℕ) (fault : Refusal) → length recorded ≤ events
    → All (IsEvent version layout) recorded
    → AtEvents version layout (index + length recorded) (events - length recorded) rest fault
    → AtEvents version layout index events (flat_map event recorded ++ rest) fault
events_passed version layout index events [] rest fault few fit h =
    let all : events - 0 ≡ events = omega arith in
    let here : index + 0 ≡ index = omega arith in
    subst (λ (n : ℕ). AtEvents version layout index n rest fault) all
    (subst (λ (i : ℕ). AtEvents version layout i (events - 0) rest fault) here h)
events_passed version layout index events (one ∷ recorded) rest fault few fit h =
    let fewer : events - suc (length recorded) ≡ events - 1 - length recorded = omega arith in
    let further : index + suc (length recorded) ≡ index + 1 + length recorded = omega arith in
    subst (λ (l : List ℕ). AtEvents version layout index events l fault)
    (sym (ap (λ (l : List ℕ). l ++ rest) (flat_map-cons event one recorded) ∙ append_assoc (event one) (flat_map event recorded) rest))
    (event_passed version layout index events one (event one) (flat_map event recorded ++ rest) fault (omega (arith, few))
    (All-head (IsEvent version layout) one recorded fit) refl
    (events_passed version layout (index + 1) (events - 1) recorded rest fault (omega (arith, few)) (All-tail (IsEvent version layout) one recorded fit)
    (subst (λ (n : ℕ). AtEvents version layout (index + 1 + length recorded) n rest fault) fewer
    (subst (λ (i : ℕ). AtEvents version layout i (events - suc (length recorded)) rest fault) further h))))

length-events : (recorded : List Event) → length (flat_map event recorded) ≡ 24 * length recorded
length-events recorded = length_of_units event 24 length-event recorded

pub as_many_events : (version : Version) (layout : Layout) (before : List Event) (run : List ℕ) (after : List Event) (count : ℕ)
    (are : AreRecorded version layout before run after) → length run ≡ 24 * count → length are.recorded ≡ count
as_many_events version layout before run after count are all = omega (arith, all, ap length are.spelled, length-events are.recorded)

pub events_taken : (form : Form) (version : Version) (layout : Layout) (front : ℕ → List ℕ) (events : ℕ) (log : List ℕ)
    (recorded more : List Event) (dumps : List Image) (run : List ℕ) (count : ℕ) (reader : Reader)
    → count ≤ events → length run ≡ 24 * count → dumps ≡ [] → AreRecorded version layout recorded run more
    → HasRead form (spelling_of (front (length more + (events - count))) log more dumps)
    (AtEvents version layout (length more) (events - count)) reader
    → HasRead form (spelling_of (front (length recorded + events)) log recorded dumps ++ run)
    (λ rest fault. AtEvents version layout (length recorded) events (run ++ rest) fault) reader
events_taken form version layout front events log recorded more dumps run count reader few whole no_dumps are has =
    let as_many = as_many_events version layout recorded run more count are whole in
    let long : length more ≡ length recorded + length are.recorded = ap length are.added ∙ length-append recorded are.recorded in
    let all : length more + (events - count) ≡ length recorded + events = omega (arith, few, long, as_many) in
    goes_on form reader _ _ _ _ has
    (ap (λ (n : ℕ). spelling_of (front n) log more dumps) all
    ∙ ap (λ (l : List Event). spelling_of (front (length recorded + events)) log l dumps) are.added
    ∙ more_events (front (length recorded + events)) log recorded are.recorded dumps no_dumps
    ∙ ap (λ (l : List ℕ). spelling_of (front (length recorded + events)) log recorded dumps ++ l) (sym are.spelled))
    (λ rest fault h. subst (λ (l : List ℕ). AtEvents version layout (length recorded) events (l ++ rest) fault) (sym are.spelled)
    (events_passed version layout (length recorded) events are.recorded rest fault (omega (arith, few, as_many)) are.fit
    (subst (λ (n : ℕ). AtEvents version layout (length recorded + length are.recorded) (events - n) rest fault) (sym as_many)
    (subst (λ (n : ℕ). AtEvents version layout n (events - count) rest fault) long h))))

pub events_in_range : (parts : Parts) (held : Vec Event) (run : List ℕ) (count : ℕ) → AreInRange parts
    → AreRecorded parts.version parts.layout parts.events.items run held.items
    → length run ≡ 24 * count → length parts.events.items + count ≤ CALLS → AreInRange (record parts { events = held })
events_in_range parts held run count in_range are all few = record {
  of_form = in_range.of_form;
  follows = in_range.follows;
  layout = in_range.layout;
  depth = in_range.depth;
  start = in_range.start;
  few_start = in_range.few_start;
  few_places = in_range.few_places;
  log = in_range.log;
  few_events = omega (
    arith,
    few,
    ap length are.added,
    length-append parts.events.items are.recorded,
    as_many_events parts.version parts.layout parts.events.items run held.items count are all,
  );
  events = subst (All (IsEvent parts.version parts.layout)) (sym are.added)
      (All-append (IsEvent parts.version parts.layout) parts.events.items are.recorded in_range.events are.fit);
  few_dumps = in_range.few_dumps;
  dumps = in_range.dumps;
}

-- the first event that is none refuses the bytes ahead
pub events_refused : (version : Version) (layout : Layout) (index events count : ℕ) (run : List ℕ) (fail : Fail Refusal) → count ≤ events
    → length run ≡ 24 * count → IfRefused (IsBadEvent version layout index run) fail
    → IfRefused (IsRefusedBy (AtEvents version layout index events) run) fail
events_refused version layout index events count run Memory few all bad = tt
events_refused version layout index events count run (Refused refusal) few all bad =
    let front = flat_map event bad.recorded in
    let unit = bad.unit in
    let behind = bad.behind in
    let here = index + length bad.recorded in
    let long = length-append front (unit ++ behind) in
    let some : length bad.recorded + 1 ≤ events =
    omega (arith, few, all, ap length bad.parts, long, length-append unit behind, bad.whole, length-events bad.recorded) in
    let cut : (rest : List ℕ) → run ++ rest ≡ front ++ (unit ++ (behind ++ rest)) = λ rest.
    ap (λ (l : List ℕ). l ++ rest) bad.parts ∙ append_assoc front (unit ++ behind) rest ∙ ap (λ (l : List ℕ). front ++ l) (append_assoc unit behind rest) in
    let same : (rest : List ℕ) → and_then (behind ++ rest) (refusal_at (units.Event here) unit (BadEvent here)) ≡ and_then rest refusal = λ rest.
    ap (λ (n : ℕ). let refusal : Refusal = record { fault = BadEvent here; unit = units.Event here; left = n } in refusal)
    (let all_left : length unit + length (behind ++ rest) ≡ length (unit ++ behind) + length rest =
    omega (arith, length-append behind rest, length-append unit behind) in all_left)
    ∙ ap (and_then rest) (sym bad.first) in
    record {
      within = omega (arith, ap (λ (r : Refusal). r.left) bad.first, ap length bad.parts, long);
      whole = subst (λ (r : Refusal). unit_size r.unit ≤ r.left) (sym bad.first)
          (let whole : 24 ≤ length (unit ++ behind) = omega (arith, bad.whole, length-append unit behind) in whole);
      lasts = λ rest. subst₂ (λ (l : List ℕ) (r : Refusal). AtEvents version layout index events l r) (sym (cut rest)) (same rest)
          (events_passed version layout index events bad.recorded (unit ++ (behind ++ rest)) _ (omega (arith, some)) bad.fit
          (event_refused version layout here (events - length bad.recorded) unit (behind ++ rest) (omega (arith, some)) bad.whole bad.none));
    }

-- some units are taken, and this is left
pub record AreRecording (version : Version) (layout : Layout) (before : List Event) (bytes : List ℕ) (after : List Event) (k : ℕ) (rest : List ℕ)
    : Type 0 where
  pub recorded : List Event
  pub fit : All (IsEvent version layout) recorded
  pub added : after ≡ before ++ recorded
  pub parts : bytes ≡ flat_map event recorded ++ rest
  pub left : length rest + 24 * k ≡ length bytes

pub one_recorded : (version : Version) (layout : Layout) (before : List Event) (bytes : List ℕ) (after next : List Event) (k : ℕ) (rest : List ℕ)
    (one : Event) (unit behind : List ℕ) → AreRecording version layout before bytes after k rest
    → SpellsEvent version layout unit one → next ≡ after ++ one ∷ [] → rest ≡ unit ++ behind
    → AreRecording version layout before bytes next (k + 1) behind
one_recorded version layout before bytes after next k rest one unit behind are spells grown e = record {
  recorded = are.recorded ++ one ∷ [];
  fit = All-push (IsEvent version layout) are.recorded one are.fit spells.in_range;
  added = grown ∙ ap (λ (l : List Event). l ++ one ∷ []) are.added ∙ append_assoc before are.recorded (one ∷ []);
  parts = are.parts ∙ ap (λ (l : List ℕ). flat_map event are.recorded ++ l) (e ∙ ap (λ (l : List ℕ). l ++ behind) spells.spelled)
      ∙ sym (append_assoc (flat_map event are.recorded) (event one) behind)
      ∙ ap (λ (l : List ℕ). l ++ behind) (flat_map_more event [] are.recorded one);
  left = omega (arith, ap length e, length-append unit behind, ap length spells.spelled, length-event one, are.left);
}

pub recorded_fit : (version : Version) (layout : Layout) (before : List Event) (bytes : List ℕ) (after : List Event) (k : ℕ) (rest : List ℕ) (n : ℕ)
    → AreRecording version layout before bytes after k rest → length bytes ≡ 24 * n → length before + n ≤ CALLS → length after ≤ CALLS
recorded_fit version layout before bytes after k rest n are all few =
    omega (
      arith,
      few,
      all,
      ap length are.added,
      length-append before are.recorded,
      ap length are.parts,
      length-append (flat_map event are.recorded) rest,
      length-events are.recorded,
    )

pub none_spelled : (version : Version) (layout : Layout) (before : List Event) (bytes : List ℕ) (after : List Event) (k : ℕ) (rest unit behind : List ℕ)
    (index : ℕ) (refusal : Refusal) → AreRecording version layout before bytes after k rest → rest ≡ unit ++ behind → length unit ≡ 24
    → ((one : Event) → SpellsEvent version layout unit one → ⊥) → index ≡ length after → refusal ≡ refusal_at (units.Event index) rest (BadEvent index)
    → IsBadEvent version layout (length before) bytes refusal
none_spelled version layout before bytes after k rest unit behind index refusal are e whole none is refused = record {
  recorded = are.recorded;
  unit = unit;
  behind = behind;
  fit = are.fit;
  parts = are.parts ∙ ap (λ (l : List ℕ). flat_map event are.recorded ++ l) e;
  whole = whole;
  none = λ one fits spelled. none one (record { in_range = fits; spelled = spelled });
  first = refused ∙ ap (λ (l : List ℕ). refusal_at (units.Event index) l (BadEvent index)) e
      ∙ ap (λ (n : ℕ). refusal_at (units.Event n) (unit ++ behind) (BadEvent n)) (is ∙ ap length are.added ∙ length-append before are.recorded);
}
