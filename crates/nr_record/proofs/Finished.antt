-- The events of a run are what the pens were given, at their stamps and thread by thread.
use Rattle.std.proofs.Common.{◌≡◌, ◌≢◌, ℕ, zero, suc, ◌+◌, ◌-◌, ◌<◌, ◌≤◌, Bool, true, false, List, [], ◌∷◌, ◌++◌, All, Contains, length, get_or, map, replicate}
use Rattle.std.proofs.Common.{eqb, cond, eq-eqb, refl, ap, sym, ◌∙◌, subst, arith}
use Rattle.std.specs.Prelude.{None, Some, slice_get, option_and_then, filter}
use Rattle.std.specs.Option.{option_map_or}
use Rattle.std.specs.List.{flat_map}
use Rattle.std.proofs.lemmas.List.{map-append, get_or-map, get_or_default, length-map, length-replicate}
use Rattle.std.proofs.lemmas.List.Elements.{All-cons, All-contains, All-head, All-tail, Contains-get_or}
use Rattle.std.proofs.lemmas.List.Concat.{flat_map-cons}
use Rattle.std.proofs.lemmas.List.FromFn.{get_or-range_with_len, length-range_with_len}
use Rattle.std.proofs.lemmas.Option.{slice_get_within, slice_get-get_or}
use Rattle.std.proofs.lemmas.Bool.Decides.{Decides-eqb, nat_tests}
use mathlib.Core.Logic.{dite}
use native.Mathlib.Decide.{dec_le, ℕ_discrete}
use Rattle.vs_types.specs.Config.{Layout}
use Rattle.nr_trace.proofs.LawsOfLists.{All-unmap}
use Rattle.nr_trace.specs.Recording.{IsEvent}
use Rattle.nr_trace.specs.declared.recordings.event.Event.{Event}
use Rattle.nr_trace.specs.declared.recordings.event.Event.TheVariants.{Call, Reply}
use Rattle.nr_trace.specs.declared.recordings.event.Asked.TheVariants as askeds
use Rattle.nr_trace.specs.declared.formats.version.Version.TheVariants.{V2}
use Rattle.nr_record.specs.Events.{AreEventsOf, HasNotes, caller, events_of, is_of, thread_of}
use Rattle.nr_record.specs.Pen.{AreAllPens, ClockId, PenState, call_by, stamped, stamps_of}
use Rattle.nr_record.specs.Stamps.{AreBelow, Rise, once_below, times}
use Rattle.nr_record.specs.inside.Held.{IsOwn, IsTrueOf}
use Rattle.nr_record.specs.inside.Placed.{placed}
use Rattle.nr_record.specs.declared.stamped.Stamped.{Stamped}
use Rattle.nr_record.proofs.Draws.{once_some, times_append, times_cons, times_item}
use Rattle.nr_record.proofs.Placing.{all_flat, length_placed, placed_there}
use Rattle.vs_types.proofs.Lists.{Contains-head, Contains-tail}

abbrev pub all_notes : List PenState → List Stamped
all_notes pens = flat_map (λ pen. pen.made) pens

abbrev stamps : List Stamped → List ℕ
stamps made = map (λ item. item.stamp) made

pub stamps_flat : (pens : List PenState) → stamps (all_notes pens) ≡ flat_map stamps_of pens
stamps_flat [] = refl
stamps_flat (p ∷ ps) =
    ap stamps (flat_map-cons (λ (pen : PenState). pen.made) p ps) ∙ map-append (λ (item : Stamped). item.stamp) p.made (all_notes ps)
    ∙ ap (λ (xs : List ℕ). stamps_of p ++ xs) (stamps_flat ps) ∙ sym (flat_map-cons stamps_of p ps)

once_at_most : (n stamp : ℕ) → once_below n stamp ≤ 1
once_at_most n stamp = grind (arith, nat_tests)

pub once_in : (n stamp : ℕ) → stamp < n → once_below n stamp ≡ suc zero
once_in n stamp lt = grind (arith, nat_tests)

pub stamps_below : (made : List Stamped) (n : ℕ) → AreBelow n (stamps made) → All (λ item. item.stamp < n) made
stamps_below made n below = λ k d lt.
    let item : Stamped = get_or made k d in
    let long = length-map made (λ (item : Stamped). item.stamp) in
    let is : get_or (stamps made) k 0 ≡ item.stamp = get_or-map (λ (item : Stamped). item.stamp) made k d 0 lt in
    let there = times_item (stamps made) k 0 (omega arith) in
    let there' = subst (λ (s : ℕ). 1 ≤ times s (stamps made)) is there in
    once_some n item.stamp (omega (arith, below item.stamp, there'))

-- the events, where the notes are put in the place of fillers
abbrev pub run_of : ℕ → Event → List PenState → List Event
run_of n filler pens = placed (replicate n filler) (all_notes pens)

pub length_run : (n : ℕ) (filler : Event) (pens : List PenState) → length (run_of n filler pens) ≡ n
length_run n filler pens = length_placed (replicate n filler) (all_notes pens) ∙ length-replicate n filler

pub run_has_notes : (n : ℕ) (filler : Event) (pens : List PenState) → AreBelow n (flat_map stamps_of pens) → All (HasNotes (run_of n filler pens)) pens
run_has_notes n filler pens below =
    let below' : AreBelow n (stamps (all_notes pens)) = subst (λ (xs : List ℕ). AreBelow n xs) (sym (stamps_flat pens)) below in
    let events : List Event = run_of n filler pens in
    let inside = subst (λ (m : ℕ). All (λ (item : Stamped). item.stamp < m) (all_notes pens)) (sym (length-replicate n filler))
    (stamps_below (all_notes pens) n below') in
    all_flat (λ (item : Stamped). slice_get events item.stamp ≡ Some item.event) (λ (pen : PenState). pen.made) pens
    (placed_there (replicate n filler) (all_notes pens) (λ stamp. omega (arith, below' stamp, once_at_most n stamp)) inside)

not_here : (a b : ℕ) → a ≢ b → cond (eqb a b) 1 0 ≡ zero
not_here a b differ = grind (arith, nat_tests)

note_of : (made : List Stamped) (stamp : ℕ) → 1 ≤ times stamp (stamps made) → (item : Stamped) × Contains made item × (item.stamp ≡ stamp)
note_of [] stamp there = absurd (omega arith)
note_of (x ∷ xs) stamp there =
    dite (ℕ_discrete x.stamp stamp)
    (λ same. (x, Contains-head x xs, same))
    (λ differ. let c = times_cons stamp x.stamp (stamps xs) in let none = not_here x.stamp stamp differ in
    let r = note_of xs stamp (omega (arith, there, c, none)) in (r.0, Contains-tail x xs r.0 r.1, r.2))

pub pen_of_stamp : (pens : List PenState) (stamp : ℕ) → 1 ≤ times stamp (flat_map stamps_of pens)
    → (pen : PenState) × Contains pens pen × ((item : Stamped) × Contains pen.made item × (item.stamp ≡ stamp))
pen_of_stamp [] stamp there = absurd (omega arith)
pen_of_stamp (p ∷ ps) stamp there =
    let both : times stamp (flat_map stamps_of (p ∷ ps)) ≡ times stamp (stamps_of p) + times stamp (flat_map stamps_of ps) =
    ap (λ (xs : List ℕ). times stamp xs) (flat_map-cons stamps_of p ps) ∙ times_append stamp (stamps_of p) (flat_map stamps_of ps) in
    dite (dec_le 1 (times stamp (stamps_of p)))
    (λ here. (p, Contains-head p ps, note_of p.made stamp here))
    (λ gone. let r = pen_of_stamp ps stamp (omega (arith, both, there, gone)) in (r.0, Contains-tail p ps r.0 r.1, r.2))

-- an item of a list that rises from k on: where its event is in the rest of the events, which begin at k
abbrev Fits : (Event → Bool) → ℕ → List Event → Stamped → Type 0
Fits P k events item = (k ≤ item.stamp) × (slice_get events (item.stamp - k) ≡ Some item.event) × (P item.event ≡ true)

above_none : (stamp : ℕ) (xs : List ℕ) → All (λ s. stamp < s) xs → times stamp xs ≡ 0
above_none stamp [] above = refl
above_none stamp (x ∷ xs) above =
    let first : stamp < x = All-head (λ (s : ℕ). stamp < s) x xs above in
    let none = not_here x stamp (λ same. omega arith) in
    let rest = above_none stamp xs (All-tail (λ (s : ℕ). stamp < s) x xs above) in
    omega (arith, times_cons stamp x xs, none, rest)

fits_next : (P : Event → Bool) (k : ℕ) (e : Event) (events : List Event) (item : Stamped) → k < item.stamp → Fits P k (e ∷ events) item
    → Fits P (suc k) events item
fits_next P k e events item lt fits =
    let less : item.stamp - k ≡ suc (item.stamp - suc k) = omega arith in
    (omega arith, subst (λ (n : ℕ). slice_get (e ∷ events) n ≡ Some item.event) less fits.1, fits.2)

fits_rest : (P : Event → Bool) (k : ℕ) (e : Event) (events : List Event) (made : List Stamped) → All (λ s. k < s) (stamps made)
    → All (Fits P k (e ∷ events)) made → All (Fits P (suc k) events) made
fits_rest P k e events made above fits = λ i d lt.
    let later = All-unmap (λ n. k < n) (λ (item : Stamped). item.stamp) made above in
    fits_next P k e events (get_or made i d) (later i d lt) (fits i d lt)

not_true : (b : Bool) → (b ≡ true → ⊥) → b ≡ false
not_true true never = absurd (never refl)
not_true false never = refl

-- what says that each event which passes is an item's
abbrev Only : (Event → Bool) → ℕ → List Event → List ℕ → Type 0
Only P k events xs = (j : ℕ) (e : Event) → slice_get events j ≡ Some e → P e ≡ true → 1 ≤ times (k + j) xs

only_rest : (P : Event → Bool) (k : ℕ) (e : Event) (events : List Event) (xs : List ℕ) → Only P k (e ∷ events) xs → Only P (suc k) events xs
only_rest P k e events xs only = λ j other at holds.
    let next : k + suc j ≡ suc k + j = omega arith in subst (λ (n : ℕ). 1 ≤ times n xs) next (only (suc j) other at holds)

only_later : (P : Event → Bool) (k x : ℕ) (events : List Event) (xs : List ℕ) → x ≡ k → Only P (suc k) events (x ∷ xs) → Only P (suc k) events xs
only_later P k x events xs same only = λ j other at holds.
    let there = only j other at holds in
    let none = not_here x (suc k + j) (λ e. omega arith) in
    omega (arith, there, none, times_cons (suc k + j) x xs)

skipped : (P : Event → Bool) (e : Event) (events rest : List Event) → P e ≡ false → filter P events ≡ rest → filter P (e ∷ events) ≡ rest
skipped P e events rest fails same = ap (λ b. cond b (e ∷ filter P events) (filter P events)) fails ∙ same

passed : (P : Event → Bool) (e : Event) (events rest : List Event) → P e ≡ true → filter P events ≡ rest → filter P (e ∷ events) ≡ e ∷ rest
passed P e events rest holds same = ap (λ b. cond b (e ∷ filter P events) (filter P events)) holds ∙ ap (λ (xs : List Event). e ∷ xs) same

none_first : (P : Event → Bool) (k : ℕ) (e : Event) (events : List Event) (xs : List ℕ) → All (λ s. k < s) xs → Only P k (e ∷ events) xs → P e ≡ false
none_first P k e events xs above only = not_true (P e) (λ holds.
    let there = only 0 e refl holds in
    let none = above_none (k + 0) xs (λ i d lt. omega (arith, above i d lt)) in omega (arith, there, none))

first_is : (P : Event → Bool) (k : ℕ) (e : Event) (events : List Event) (item : Stamped) → item.stamp ≡ k → Fits P k (e ∷ events) item → e ≡ item.event
first_is P k e events item same fits =
    let none : item.stamp - k ≡ zero = omega arith in
    let at : Some e ≡ Some item.event = subst (λ (n : ℕ). slice_get (e ∷ events) n ≡ Some item.event) none fits.1 in cc

-- the events that pass a test are those of the items: each item's event is at its place and passes, and each that passes is an item's
sieve : (P : Event → Bool) (k : ℕ) (events : List Event) (made : List Stamped) → Rise (stamps made) → All (Fits P k events) made
    → Only P k events (stamps made) → filter P events ≡ map (λ item. item.event) made
sieve P k [] [] rise fits only = refl
sieve P k [] (x ∷ xs) rise fits only =
    let first : Fits P k [] x = All-head (Fits P k []) x xs fits in
    let never : None ≡ Some x.event = first.1 in absurd cc
sieve P k (e ∷ es) [] rise fits only =
    skipped P e es [] (none_first P k e es [] (λ i d lt. absurd (omega arith)) only)
    (sieve P (suc k) es [] tt (λ i d lt. absurd (omega arith)) (only_rest P k e es [] only))
sieve P k (e ∷ es) (x ∷ xs) rise fits only =
    let first : Fits P k (e ∷ es) x = All-head (Fits P k (e ∷ es)) x xs fits in
    let rest = All-tail (Fits P k (e ∷ es)) x xs fits in
    let after = only_rest P k e es (stamps (x ∷ xs)) only in
    dite (ℕ_discrete x.stamp k)
    (λ same.
    let is = first_is P k e es x same first in
    let above : All (λ s. k < s) (stamps xs) = λ i d lt. omega (arith, rise.0 i d lt, same) in
    passed P e es (map (λ (item : Stamped). item.event) xs) (ap P is ∙ first.2)
    (sieve P (suc k) es xs rise.1 (fits_rest P k e es xs above rest) (only_later P k x.stamp es (stamps xs) same after))
    ∙ ap (λ z. z ∷ map (λ (item : Stamped). item.event) xs) is)
    (λ differ.
    let lt : k < x.stamp = omega (arith, first.0, differ) in
    let above : All (λ s. k < s) (stamps (x ∷ xs)) =
    All-cons (λ (s : ℕ). k < s) x.stamp (stamps xs) lt (λ i d l. omega (arith, rise.0 i d l, lt)) in
    skipped P e es (map (λ (item : Stamped). item.event) (x ∷ xs)) (none_first P k e es (stamps (x ∷ xs)) above only)
    (sieve P (suc k) es (x ∷ xs) rise (fits_rest P k e es (x ∷ xs) above fits) after))

own_is : (layout : Layout) (thread : ℕ) (events : List Event) (made : List Stamped) (event : Event) → IsOwn layout thread made event
    → All (λ item. slice_get events item.stamp ≡ Some item.event) made → thread_of events event ≡ Some thread
own_is layout thread events made (Call replica who (askeds.Request request)) own has = ap (λ (n : ℕ). Some n) own.1
own_is layout thread events made (Call replica who asked) own has = absurd own
own_is layout thread events made (Reply call at answer) own has =
    ap (λ o. option_and_then caller o)
    (All-contains (λ (item : Stamped). slice_get events item.stamp ≡ Some item.event) made (stamped call (call_by layout thread own.0)) has own.1)

passes : (thread : ℕ) (events : List Event) (event : Event) → thread_of events event ≡ Some thread → is_of thread events event ≡ true
passes thread events event who =
    ap (λ o. option_map_or (λ (other : ℕ). eqb other thread) o false) who ∙ eq-eqb thread thread refl

one_thread : (first second : ℕ) (events : List Event) (event : Event) → is_of first events event ≡ true → thread_of events event ≡ Some second
    → second ≡ first
one_thread first second events event holds who =
    let test : eqb second first ≡ true = sym (ap (λ o. option_map_or (λ (other : ℕ). eqb other first) o false) who) ∙ holds in
    (Decides-eqb second first).0 test

from_zero : (k : ℕ) → k ≡ 0 + k
from_zero k = omega arith

same_pen : (clock : ClockId) (pens : List PenState) (p q : PenState) → AreAllPens clock pens → Contains pens p → Contains pens q → p.thread ≡ q.thread → p ≡ q
same_pen clock pens p q all has_p has_q same =
    let f : PenState → ℕ = λ pen. pen.thread in
    let n = clock.layout.threads in
    let long : length pens ≡ n = sym (length-map pens f) ∙ ap (λ (xs : List ℕ). length xs) all.threads ∙ length-range_with_len 0 n in
    let at_p : has_p.0 ≡ p.thread =
    from_zero has_p.0 ∙ sym (get_or-range_with_len 0 n has_p.0 0 (omega (arith, long, has_p.1))) ∙ ap (λ (xs : List ℕ). get_or xs has_p.0 0) (sym all.threads)
    ∙ get_or-map f pens has_p.0 p 0 has_p.1 ∙ ap f has_p.2 in
    let at_q : has_q.0 ≡ q.thread =
    from_zero has_q.0 ∙ sym (get_or-range_with_len 0 n has_q.0 0 (omega (arith, long, has_q.1))) ∙ ap (λ (xs : List ℕ). get_or xs has_q.0 0) (sym all.threads)
    ∙ get_or-map f pens has_q.0 q 0 has_q.1 ∙ ap f has_q.2 in
    let index : has_p.0 ≡ has_q.0 = omega arith in
    sym has_p.2 ∙ get_or_default pens has_p.0 p q has_p.1 ∙ ap (λ (k : ℕ). get_or pens k q) index ∙ has_q.2

times_of : (made : List Stamped) (item : Stamped) → Contains made item → 1 ≤ times item.stamp (stamps made)
times_of made item has =
    let long = length-map made (λ (other : Stamped). other.stamp) in
    let is : get_or (stamps made) has.0 0 ≡ item.stamp =
    get_or-map (λ (other : Stamped). other.stamp) made has.0 item 0 has.1 ∙ ap (λ (other : Stamped). other.stamp) has.2 in
    subst (λ (s : ℕ). 1 ≤ times s (stamps made)) is (times_item (stamps made) has.0 0 (omega (arith, has.1, long)))

-- who drew the stamp of an event, and that the event is what the pen was given with it
record IsDrawn (pens : List PenState) (stamp : ℕ) (event : Event) : Type 0 where
  pen : PenState
  of_pens : Contains pens pen
  item : Stamped
  of_pen : Contains pen.made item
  stamp_is : item.stamp ≡ stamp
  event_is : event ≡ item.event

drawn_by : (n : ℕ) (filler : Event) (pens : List PenState) (stamp : ℕ) (event : Event) → AreBelow n (flat_map stamps_of pens)
    → slice_get (run_of n filler pens) stamp ≡ Some event → IsDrawn pens stamp event
drawn_by n filler pens stamp event below at =
    let within = slice_get_within (run_of n filler pens) stamp event at in
    let lt : stamp < n = omega (arith, within, length_run n filler pens) in
    let found = pen_of_stamp pens stamp (omega (arith, below stamp, once_in n stamp lt)) in
    let pen = found.0 in
    let item = found.2.0 in
    let has = All-contains (HasNotes (run_of n filler pens)) pens pen (run_has_notes n filler pens below) found.1 in
    let there = All-contains (λ (other : Stamped). slice_get (run_of n filler pens) other.stamp ≡ Some other.event) pen.made item has found.2.1 in
    let there' : slice_get (run_of n filler pens) stamp ≡ Some item.event =
    subst (λ (s : ℕ). slice_get (run_of n filler pens) s ≡ Some item.event) found.2.2 there in
    let both : Some event ≡ Some item.event = sym at ∙ there' in
    record { pen = pen; of_pens = found.1; item = item; of_pen = found.2.1; stamp_is = found.2.2; event_is = cc }

pub run_by_thread : (n : ℕ) (filler : Event) (clock : ClockId) (pens : List PenState) → AreBelow n (flat_map stamps_of pens) → AreAllPens clock pens
    → All IsTrueOf pens → All (λ pen. events_of pen.thread (run_of n filler pens) ≡ map (λ item. item.event) pen.made) pens
run_by_thread n filler clock pens below all each = λ i d lt.
    let pen : PenState = get_or pens i d in
    let events : List Event = run_of n filler pens in
    let is = each i d lt in
    let noted = run_has_notes n filler pens below in
    let has = noted i d lt in
    sieve (is_of pen.thread events) 0 events pen.made is.rising
    (λ k d' lt'.
    let item : Stamped = get_or pen.made k d' in
    let zero_less : item.stamp ≡ item.stamp - 0 = omega arith in (
      omega arith,
      subst (λ (m : ℕ). slice_get events m ≡ Some item.event) zero_less (has k d' lt'),
      passes pen.thread events item.event (own_is pen.clock.layout pen.thread events pen.made item.event (is.own k d' lt') has),
    ))
    (λ j event at holds.
    let drawn = drawn_by n filler pens j event below at in
    let other = drawn.pen in
    let other_is = All-contains IsTrueOf pens other each drawn.of_pens in
    let other_has = All-contains (HasNotes events) pens other noted drawn.of_pens in
    let own = All-contains (λ (item : Stamped). IsOwn other.clock.layout other.thread other.made item.event) other.made drawn.item other_is.own drawn.of_pen in
    let who = own_is other.clock.layout other.thread events other.made drawn.item.event own other_has in
    let who' : thread_of events event ≡ Some other.thread = ap (λ e. thread_of events e) drawn.event_is ∙ who in
    let same = same_pen clock pens other pen all drawn.of_pens (Contains-get_or pens i d lt) (one_thread pen.thread other.thread events event holds who') in
    let mine = subst (λ (p : PenState). Contains p.made drawn.item) same drawn.of_pen in
    subst (λ (s : ℕ). 1 ≤ times s (stamps pen.made)) (drawn.stamp_is ∙ from_zero j) (times_of pen.made drawn.item mine))

pub run_fits : (n : ℕ) (filler : Event) (clock : ClockId) (pens : List PenState) → AreBelow n (flat_map stamps_of pens) → AreAllPens clock pens
    → All IsTrueOf pens → All (IsEvent V2 clock.layout) (run_of n filler pens)
run_fits n filler clock pens below all each = λ k d lt.
    let events : List Event = run_of n filler pens in
    let event : Event = get_or events k d in
    let drawn = drawn_by n filler pens k event below (slice_get-get_or events k d lt) in
    let is = All-contains IsTrueOf pens drawn.pen each drawn.of_pens in
    let fits = All-contains (λ (item : Stamped). IsEvent V2 drawn.pen.clock.layout item.event) drawn.pen.made drawn.item is.events drawn.of_pen in
    let clock_is = All-contains (λ (p : PenState). p.clock ≡ clock) pens drawn.pen all.of_clock drawn.of_pens in
    let here = subst (λ (c : ClockId). IsEvent V2 c.layout drawn.item.event) clock_is fits in
    subst (λ e. IsEvent V2 clock.layout e) (sym drawn.event_is) here

pub run_is : (n : ℕ) (filler : Event) (pens : List PenState) (events : List Event) (notes : List Stamped) → events ≡ placed (replicate n filler) notes
    → notes ≡ all_notes pens → events ≡ run_of n filler pens
run_is n filler pens events notes order same = order ∙ ap (λ (xs : List Stamped). placed (replicate n filler) xs) same

pub notes_below : (n : ℕ) (pens : List PenState) (notes : List Stamped) → notes ≡ all_notes pens → AreBelow n (flat_map stamps_of pens)
    → All (λ item. item.stamp < n) notes
notes_below n pens notes same below =
    let below' : AreBelow n (stamps (all_notes pens)) = subst (λ (xs : List ℕ). AreBelow n xs) (sym (stamps_flat pens)) below in
    subst (λ (xs : List Stamped). All (λ (item : Stamped). item.stamp < n) xs) (sym same) (stamps_below (all_notes pens) n below')

-- what is put in the order of the stamps are the events of the pens
pub run_is_theirs : (n : ℕ) (filler : Event) (clock : ClockId) (pens : List PenState) (events : List Event) → AreBelow n (flat_map stamps_of pens)
    → AreAllPens clock pens → All IsTrueOf pens → events ≡ run_of n filler pens → AreEventsOf events pens
run_is_theirs n filler clock pens events below all each is =
    let made : AreEventsOf (run_of n filler pens) pens = record {
      stamps = subst (λ (m : ℕ). AreBelow m (flat_map stamps_of pens)) (sym (length_run n filler pens)) below;
      rising = λ k d lt. (each k d lt).rising;
      noted = run_has_notes n filler pens below;
      own = run_by_thread n filler clock pens below all each;
    } in
    subst (λ (es : List Event). AreEventsOf es pens) (sym is) made
