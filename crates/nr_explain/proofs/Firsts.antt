-- Which fault of a segment is the first, as the evidence of a trace wants it.
use Rattle.std.proofs.Common.{◌≡◌, ℕ, ◌<◌, ◌≤◌, inl, inr, Option, Some, None, is_some, true, false, refl, sym, subst, arith, lit<, lit≤}
use Rattle.std.specs.Prelude.{IsSome}
use Rattle.std.proofs.lemmas.Option.{same_Some}
use Rattle.vs_types.specs.Space.{Space, no_pages}
use Rattle.nr_trace.specs.Recording.{Recording}
use Rattle.nr_trace.specs.Faults.{Earlier, HasFault, HasFaultFrom, IsFirst, IsFirstFrom}
use Rattle.nr_trace.specs.Laws.{HasCleanLog}
use Rattle.nr_trace.specs.declared.refusals.fault.Format.{Format as FormatFault}
use Rattle.nr_trace.specs.declared.refusals.fault.Fault.{Fault}
use Rattle.nr_trace.specs.declared.refusals.fault.Fault.TheVariants.{Format, ThreadOpen, NoSuchCall, AnsweredTwice, NotAnUpdate, PlacedTwice, NotPlaced, PastLog}
use Rattle.nr_trace.specs.declared.refusals.fault.Fault.TheVariants.{WrongAnswer, PrefixPastLog, PrefixShort, MissingFrame, SharedFrame, ReservedBit, StrayFrame}
use Rattle.nr_trace.specs.declared.refusals.fault.Fault.TheVariants.{Differs}
use Rattle.nr_trace.proofs.LawsOfFaults.{IsBelow, below_from_less, earlier_parts, earlier_pass, number_of, pass}
use Rattle.nr_audit.specs.Start.{first_space, space_before, HasStartFault, BeginsRight}
use Rattle.nr_trace.specs.Run.{Run}
use Rattle.nr_touch.specs.Tails.{GoesOn}
use Rattle.nr_audit.specs.Faults.{HasFaultAfter, IsFirstAfter}
use Rattle.nr_trace.specs.declared.refusals.fault.Fault.TheVariants.{StartMissing, StartShared, StartReserved, StartStray, StartBeyond, StartDiffers, Stale, Reachable}
use Rattle.nr_audit.proofs.Judgements.{of_start}
use Rattle.nr_audit.proofs.Starts.{start_pass}
use Rattle.nr_explain.specs.Dumps.{IsFirstOfItsDump, replica_of}
use Rattle.nr_explain.specs.ChainEvidence.{IsOfItself}
use Rattle.nr_explain.specs.Progress.{ChainState, Seen, run_in, space_in, IsSeenOf}
use Rattle.nr_explain.specs.inside.Firsts.{HasFaultOver, IsFirstOver, IsReleaseToShow, IsToShow, IsTouchToShow}
use Rattle.nr_explain.specs.inside.Reading.{space_seen}
use Rattle.nr_explain.proofs.Known.{space_alike}
use Rattle.nr_explain.specs.inside.Starts.{is_within}

-- ---- by the space before the segment alone

-- a fault of a start is one of the segment
start_over : (before : Option Space) (segment : Recording) (fault : Fault) → HasStartFault before segment fault → HasFaultOver before segment fault
start_over before segment (StartMissing number) h = h
start_over before segment (StartShared number) h = h
start_over before segment (StartReserved number index) h = h
start_over before segment (StartStray number) h = h
start_over before segment (StartBeyond base) h = h
start_over before segment (StartDiffers address) h = h
start_over before segment _ h = absurd h.2

-- the fault is neither a stale touch nor a wrong release
abbrev pub IsOfNeither : Fault → Type 0
IsOfNeither fault = ((call : ℕ) → fault ≡ Stale call → ⊥) × ((call : ℕ) → fault ≡ Reachable call → ⊥)

-- a fault behind a run, but one of a touch or a release, is one by the space after the run
over_run : (run : Option Run) (segment : Recording) (fault : Fault) → IsOfNeither fault → HasFaultAfter run segment fault
    → HasFaultOver (space_before run) segment fault
over_run run segment (Stale call) none h = absurd (none.0 call refl)
over_run run segment (Reachable call) none h = absurd (none.1 call refl)
over_run run segment _ none h = h

behind_run : (run : Option Run) (segment : Recording) (fault : Fault) → HasFaultOver (space_before run) segment fault → HasFaultAfter run segment fault
behind_run run segment (Stale call) h = absurd h
behind_run run segment (Reachable call) h = absurd h
behind_run run segment _ h = h

first_over : (run : Option Run) (segment : Recording) (fault : Fault) → IsOfNeither fault → IsFirstAfter run segment fault
    → IsFirstOver (space_before run) segment fault
first_over run segment fault none first = record {
  holds = over_run run segment fault none first.holds;
  none_earlier = λ other h less. first.none_earlier other (behind_run run segment other h) less;
}

-- a fault of the trace, from the space on with which the segment begins, is one of the segment
within_over : (before : Option Space) (segment : Recording) (fault : Fault) → HasFaultFrom (first_space before segment) segment fault
    → HasFaultOver before segment fault
within_over before segment (StartMissing number) h = absurd h
within_over before segment (StartShared number) h = absurd h
within_over before segment (StartReserved number index) h = absurd h
within_over before segment (StartStray number) h = absurd h
within_over before segment (StartBeyond base) h = absurd h
within_over before segment (StartDiffers address) h = absurd h
within_over before segment _ h = h

-- and those below number 18 are such
own_over : (before : Option Space) (segment : Recording) (fault : Fault) → number_of segment fault < 18 → HasFaultOver before segment fault
    → HasFaultFrom (first_space before segment) segment fault
own_over before segment (StartMissing number) lt h = absurd (omega arith)
own_over before segment (StartShared number) lt h = absurd (omega arith)
own_over before segment (StartReserved number index) lt h = absurd (omega arith)
own_over before segment (StartStray number) lt h = absurd (omega arith)
own_over before segment (StartBeyond base) lt h = absurd (omega arith)
own_over before segment (StartDiffers address) lt h = absurd (omega arith)
own_over before segment _ lt h = h

pub first_within : (before : Option Space) (segment : Recording) (fault : Fault) → number_of segment fault < 18 → IsFirstOver before segment fault
    → IsFirstFrom (first_space before segment) segment fault
first_within before segment fault lt first = record {
  holds = own_over before segment fault lt first.holds;
  none_earlier = λ other h less. first.none_earlier other (within_over before segment other h) less;
}

-- ---- of a segment and of a trace

-- a fault that a trace may have too has a number below 18, and is of a pass behind the first, if it holds
pub low_number : (segment : Recording) (fault : Fault) → is_within fault ≡ true → number_of segment fault < 18
low_number segment (StartMissing number) own = let wrong : false ≡ true = own in cc
low_number segment (StartShared number) own = let wrong : false ≡ true = own in cc
low_number segment (StartReserved number index) own = let wrong : false ≡ true = own in cc
low_number segment (StartStray number) own = let wrong : false ≡ true = own in cc
low_number segment (StartBeyond base) own = let wrong : false ≡ true = own in cc
low_number segment (StartDiffers address) own = let wrong : false ≡ true = own in cc
low_number segment (Stale call) own = let wrong : false ≡ true = own in cc
low_number segment (Reachable call) own = let wrong : false ≡ true = own in cc
low_number segment _ own = lit< tt

late_pass : (before : Option Space) (segment : Recording) (fault : Fault) → number_of segment fault < 18 → HasFaultOver before segment fault → 1 < pass fault
late_pass before segment (Format fault) low h = absurd h
late_pass before segment (StartMissing number) low h = absurd (omega arith)
late_pass before segment (StartShared number) low h = absurd (omega arith)
late_pass before segment (StartReserved number index) low h = absurd (omega arith)
late_pass before segment (StartStray number) low h = absurd (omega arith)
late_pass before segment (StartBeyond base) low h = absurd (omega arith)
late_pass before segment (StartDiffers address) low h = absurd (omega arith)
late_pass before segment _ low h = lit< tt

-- where the first fault is of a later pass than the start, nothing is wrong with that
well_late : (before : Option Space) (segment : Recording) (fault : Fault) → 1 < pass fault → IsFirstOver before segment fault → BeginsRight before segment
well_late before segment fault late first other h =
    let one = start_pass before segment other h in
    first.none_earlier other (start_over before segment other h) (earlier_pass segment other fault (omega (arith, one, late)))

pub well_within : (before : Option Space) (segment : Recording) (fault : Fault) → is_within fault ≡ true → IsFirstOver before segment fault
    → BeginsRight before segment
well_within before segment fault own first =
    well_late before segment fault (late_pass before segment fault (low_number segment fault own) first.holds) first

well_first : (before : Option Run) (segment : Recording) (fault : Fault) → 1 < pass fault → IsFirstAfter before segment fault
    → BeginsRight (space_before before) segment
well_first before segment fault late first other h =
    let one = start_pass (space_before before) segment other h in
    first.none_earlier other (of_start before segment other h) (earlier_pass segment other fault (omega (arith, one, late)))

-- a fault that a trace has not, and that is neither a stale touch nor a wrong release, is one of the start
pub of_its_start : (before : Option Space) (segment : Recording) (fault : Fault) → is_within fault ≡ false → IsOfNeither fault
    → HasFaultOver before segment fault → HasStartFault before segment fault
of_its_start before segment (StartMissing number) other none h = h
of_its_start before segment (StartShared number) other none h = h
of_its_start before segment (StartReserved number index) other none h = h
of_its_start before segment (StartStray number) other none h = h
of_its_start before segment (StartBeyond base) other none h = h
of_its_start before segment (StartDiffers address) other none h = h
of_its_start before segment (Stale call) other none h = absurd h
of_its_start before segment (Reachable call) other none h = absurd h
of_its_start before segment _ other none h = absurd (let wrong : true ≡ false = other in cc)

-- where the first fault is a stale touch or a wrong release, none is of the events, the log or the replies
clean_late : (before : Option Run) (segment : Recording) (fault : Fault) → 6 < pass fault → IsFirstAfter before segment fault → HasCleanLog segment
clean_late before segment fault late first = record {
  no_thread_open = λ index h. first.none_earlier (ThreadOpen index) h (earlier_pass segment (ThreadOpen index) fault (omega (arith, late)));
  no_such_call = λ index h. first.none_earlier (NoSuchCall index) h (earlier_pass segment (NoSuchCall index) fault (omega (arith, late)));
  none_twice = λ index h. first.none_earlier (AnsweredTwice index) h (earlier_pass segment (AnsweredTwice index) fault (omega (arith, late)));
  updates_alone = λ place h. first.none_earlier (NotAnUpdate place) h (earlier_pass segment (NotAnUpdate place) fault (omega (arith, late)));
  placed_once = λ place h. first.none_earlier (PlacedTwice place) h (earlier_pass segment (PlacedTwice place) fault (omega (arith, late)));
  all_placed = λ index h. first.none_earlier (NotPlaced index) h (earlier_pass segment (NotPlaced index) fault (omega (arith, late)));
  none_past_log = λ index h. first.none_earlier (PastLog index) h (earlier_pass segment (PastLog index) fault (omega (arith, late)));
}

-- what is to be known of the first fault, so that it can be shown
module _ (came : Option ChainState) (seen : Option Seen) (segment : Recording) (kept : IsSeenOf came seen)
    (goes_on : GoesOn (run_in came) segment (first_space (space_in came) segment)) where
  same : space_in came ≡ space_seen seen
  same = sym (space_alike came seen kept)

  touch_to_show : (call : ℕ) → IsFirstAfter (run_in came) segment (Stale call) → IsTouchToShow (space_in came) segment call
  touch_to_show call first = record {
    well = well_first (run_in came) segment (Stale call) (lit< tt) first;
    clean = clean_late (run_in came) segment (Stale call) (lit< tt) first;
    touch = first.holds.0;
    has = first.holds.1;
    made = first.holds.2;
  }

  release_to_show : (call : ℕ) → IsFirstAfter (run_in came) segment (Reachable call)
      → IsReleaseToShow seen (first_space (space_in came) segment) segment call
  release_to_show call first = record {
    clean = clean_late (run_in came) segment (Reachable call) (lit< tt) first;
    came = came;
    kept = kept;
    goes_on = goes_on;
    release = first.holds.0;
    has = first.holds.1;
    made = first.holds.2;
    wrong = first.holds.3;
  }

  pub to_show : (fault : Fault) → IsFirstAfter (run_in came) segment fault → IsToShow seen segment fault
  to_show (Stale call) first = subst (λ (s : Option Space). IsTouchToShow s segment call) same (touch_to_show call first)
  to_show (Reachable call) first = (
    subst (λ (s : Option Space). BeginsRight s segment) same (well_first (run_in came) segment (Reachable call) (lit< tt) first),
    subst (λ (s : Option Space). IsReleaseToShow seen (first_space s segment) segment call) same (release_to_show call first),
  )
  to_show fault first =
      subst (λ (s : Option Space). IsFirstOver s segment fault) same (first_over (run_in came) segment fault ((λ call e. cc), (λ call e. cc)) first)

-- a fault that is no touch's and no release's
pub within_to_show : (seen : Option Seen) (segment : Recording) (fault : Fault) → is_within fault ≡ true → IsToShow seen segment fault
    → IsFirstOver (space_seen seen) segment fault
within_to_show seen segment (Stale call) own h = absurd (let wrong : false ≡ true = own in cc)
within_to_show seen segment (Reachable call) own h = absurd (let wrong : false ≡ true = own in cc)
within_to_show seen segment _ own h = h

pub start_to_show : (seen : Option Seen) (segment : Recording) (fault : Fault) → IsOfNeither fault → IsToShow seen segment fault
    → IsFirstOver (space_seen seen) segment fault
start_to_show seen segment (Stale call) none h = absurd (none.0 call refl)
start_to_show seen segment (Reachable call) none h = absurd (none.1 call refl)
start_to_show seen segment _ none h = h

-- ---- faults that don't depend on the start

pub from_anywhere : (start other : Space) (trace : Recording) (fault : Fault) → IsOfItself fault → HasFaultFrom start trace fault
    → HasFaultFrom other trace fault
from_anywhere start other trace (WrongAnswer call) own h = absurd own
from_anywhere start other trace (Differs replica address) own h = absurd own
from_anywhere start other trace _ own h = h

-- the faults of the events, the log and the replies come before a wrong answer and a dump that differs
comes_early : (start : Space) (trace : Recording) (fault : Fault) → HasFaultFrom start trace fault → IsOfItself fault → replica_of fault ≡ None
    → pass fault < 6
comes_early start trace (PrefixPastLog replica) h own none = cc
comes_early start trace (PrefixShort replica) h own none = cc
comes_early start trace (MissingFrame replica number) h own none = cc
comes_early start trace (SharedFrame replica number) h own none = cc
comes_early start trace (ReservedBit replica number index) h own none = cc
comes_early start trace (StrayFrame replica number) h own none = cc
comes_early start trace (WrongAnswer other) h own none = absurd own
comes_early start trace (Differs replica other) h own none = absurd own
comes_early start trace (Stale call) h own none = absurd h
comes_early start trace (Reachable call) h own none = absurd h
comes_early start trace _ h own none = omega arith

not_before : (start : Space) (trace : Recording) (late fault : Fault) → 6 ≤ pass late → HasFaultFrom start trace fault → IsOfItself fault
    → replica_of fault ≡ None → Earlier trace late fault → ⊥
not_before start trace late fault high holds own none less =
    let early = comes_early start trace fault holds own none in
    elim (earlier_parts trace late fault less) [
      | inl low ↦ omega arith
      | inr same ↦ elim same [ inl low ↦ omega (arith, low.0) | inr low ↦ omega (arith, low.0) ]
    ]

-- the first of these is the first of the trace
pub first_of_calls : (start : Space) (trace : Recording) (fault : Fault) → IsOfItself fault → replica_of fault ≡ None → IsFirstFrom start trace fault
    → IsFirst trace fault
first_of_calls start trace fault own none first = record {
  holds = from_anywhere start no_pages trace fault own first.holds;
  none_earlier = λ other h less. first.none_earlier other (back other h less) less;
} where
  back : (other : Fault) → HasFault trace other → Earlier trace other fault → HasFaultFrom start trace other
  back (WrongAnswer call) h less = absurd (not_before start trace (WrongAnswer call) fault (lit≤ tt) first.holds own none less)
  back (Differs at address) h less = absurd (not_before start trace (Differs at address) fault (lit≤ tt) first.holds own none less)
  back _ h less = h

-- a dump that differs comes after the other faults of a dump
no_later : (at replica n : ℕ) → n < 17 → at ≡ replica → IsBelow 9 at 17 9 replica n → ⊥
no_later at replica n low same below = elim below [
  | inl less ↦ omega arith
  | inr more ↦ elim more [
    | inl less ↦ (let lt = less.1 in omega arith)
    | inr less ↦ (let lt = less.2 in omega arith)
  ]
]

differs_last : (trace : Recording) (at address : ℕ) (fault : Fault) → IsOfItself fault → Some at ≡ replica_of fault
    → Earlier trace (Differs at address) fault → ⊥
differs_last trace at address (PrefixPastLog replica) own same less =
    no_later at replica 11 (lit< tt) (same_Some at replica same) (below_from_less 9 at 17 9 replica 11 less)
differs_last trace at address (PrefixShort replica) own same less =
    no_later at replica 12 (lit< tt) (same_Some at replica same) (below_from_less 9 at 17 9 replica 12 less)
differs_last trace at address (MissingFrame replica number) own same less =
    no_later at replica 13 (lit< tt) (same_Some at replica same) (below_from_less 9 at 17 9 replica 13 less)
differs_last trace at address (SharedFrame replica number) own same less =
    no_later at replica 14 (lit< tt) (same_Some at replica same) (below_from_less 9 at 17 9 replica 14 less)
differs_last trace at address (ReservedBit replica number index) own same less =
    no_later at replica 15 (lit< tt) (same_Some at replica same) (below_from_less 9 at 17 9 replica 15 less)
differs_last trace at address (StrayFrame replica number) own same less =
    no_later at replica 16 (lit< tt) (same_Some at replica same) (below_from_less 9 at 17 9 replica 16 less)
differs_last trace at address (Format fault) own same less = own
differs_last trace at address (WrongAnswer other) own same less = own
differs_last trace at address (Differs replica other) own same less = own
differs_last trace at address _ own same less = cc

pub first_of_dump : (start : Space) (trace : Recording) (fault : Fault) → IsOfItself fault → IsSome (replica_of fault) → IsFirstFrom start trace fault
    → IsFirstOfItsDump trace fault
first_of_dump start trace fault own some first = record {
  of_dump = some;
  holds = from_anywhere start no_pages trace fault own first.holds;
  none_earlier = λ other same h less. first.none_earlier other (back other same h less) less;
} where
  back : (other : Fault) → replica_of other ≡ replica_of fault → HasFault trace other → Earlier trace other fault → HasFaultFrom start trace other
  back (WrongAnswer call) same h less = absurd (nowhere (replica_of fault) some same) where
    nowhere : (o : Option ℕ) → IsSome o → None ≡ o → ⊥
    nowhere None some e = let wrong : false ≡ true = some in cc
    nowhere (Some n) some e = cc
  back (Differs at address) same h less = absurd (differs_last trace at address fault own same less)
  back _ same h less = h

pub none_from_false : (o : Option ℕ) → is_some o ≡ false → o ≡ None
none_from_false None none = refl
none_from_false (Some n) none = let wrong : true ≡ false = none in cc

-- all but these
pub own_from : (fault : Fault) → ((format : FormatFault) → fault ≡ Format format → ⊥) → ((call : ℕ) → fault ≡ WrongAnswer call → ⊥)
    → ((replica address : ℕ) → fault ≡ Differs replica address → ⊥) → IsOfItself fault
own_from (Format format) no_format no_wrong no_difference = no_format format refl
own_from (WrongAnswer call) no_format no_wrong no_difference = no_wrong call refl
own_from (Differs replica address) no_format no_wrong no_difference = no_difference replica address refl
own_from _ no_format no_wrong no_difference = tt

pub no_format : (before : Option Space) (segment : Recording) (format : FormatFault) → IsFirstOver before segment (Format format) → ⊥
no_format before segment format first = first.holds
