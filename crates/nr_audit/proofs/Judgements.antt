-- The verdict on a segment: from the faults of its start, and of what comes behind it.
use Rattle.std.proofs.Common.{◌≡◌, ℕ, ◌≤◌, inl, inr, IsSome, IfSome, Option, Some, None, refl, sym, subst, arith}
use Rattle.std.proofs.lemmas.Bool.{cases_lt}
use Rattle.std.proofs.lemmas.Option.{none-some, same_Some}
use Rattle.std.specs.Prelude.{IfNone}
use Rattle.vs_types.specs.Refusal.{IfRefused}
use Rattle.vs_types.specs.declared.requests.refusal.Fail.{Fail}
use Rattle.vs_types.specs.declared.requests.refusal.Fail.TheVariants.{Memory, Refused}
use Rattle.nr_trace.specs.Run.{Run}
use Rattle.vs_types.specs.Space.{Space}
use Rattle.nr_trace.specs.Recording.{Recording}
use Rattle.nr_trace.specs.Faults.{Earlier}
use Rattle.nr_trace.specs.Laws.{HasCleanLog, IsFaultlessFrom}
use Rattle.nr_trace.specs.declared.refusals.fault.Fault.TheVariants.{ThreadOpen, NoSuchCall, AnsweredTwice, NotAnUpdate, PlacedTwice, NotPlaced, PastLog}
use Rattle.nr_trace.specs.declared.refusals.fault.Fault.{Fault}
use Rattle.nr_trace.specs.declared.refusals.fault.Fault.TheVariants.{Format, StartMissing, StartShared, StartReserved, StartStray, StartBeyond, StartDiffers, Stale, Reachable}
use Rattle.nr_trace.proofs.LawsOfFaults.{pass as pass_of}
use Rattle.nr_audit.specs.Start.{begins_in, space_before, HasStartFault, BeginsRight, BeginsWrong}
use Rattle.nr_audit.specs.Faults.{HasFaultAfter, HasNoFaultAfter, IsFirstAfter, IsSoundAfter}
use Rattle.nr_audit.specs.Releases.{HasRightReleases}
use Rattle.nr_audit.specs.Touches.{IsStale, HasRightTouches}
use Rattle.nr_audit.specs.inside.Begun.{HasSomeTouch, IsFirstStale, IsFirstWrong}
use Rattle.nr_audit.specs.inside.Search.{late_fault, HasFaultBehind, HasFaultOn, HasNoFaultBehind, HasNoFaultOn, IsFirstBehind, IsFirstOn}
use Rattle.nr_audit.proofs.FirstFaults.{within}
use Rattle.nr_audit.proofs.FirstOfPasses.{early_on, not_later, on_behind, HasNoneBefore}
use Rattle.nr_audit.proofs.Ranks.{release_number, touch_number}
use Rattle.nr_audit.proofs.Starts.{start_pass}

-- ---- touches

-- right touches are not stale
pub none_stale : (before : Option Run) (start : Space) (segment : Recording) → HasRightTouches before start segment → (call : ℕ)
    → IsStale before start segment call → ⊥
none_stale before start segment right call stale = stale.3 (right stale.0 stale.1)

module _ (before : Option Run) (start : Space) (segment : Recording) where
  -- where the touches and the releases are right, a fault holds as it does without a run
  module _ (right : HasRightTouches before start segment) (released : HasRightReleases before start segment) where
    all_on : (fault : Fault) → HasFaultBehind before start segment fault → HasFaultOn start segment fault
    all_on (Stale call) h = absurd (none_stale before start segment right call h)
    all_on (Reachable call) h = absurd (released h.0 h.1 h.3)
    all_on _ h = h

    pub refused_late : (fail : Fail Fault) → IfRefused (IsFirstOn start segment) fail → IfRefused (IsFirstBehind before start segment) fail
    refused_late Memory first = tt
    refused_late (Refused fault) first = record {
      holds = on_behind before start segment fault first.holds;
      none_earlier = λ other h less. first.none_earlier other (all_on other h) less;
    }

    pub none_behind : HasNoFaultOn start segment → HasNoFaultBehind before start segment
    none_behind none fault h = none fault (all_on fault h)

  -- the stale touch of the lowest number is the first fault where none of an earlier pass holds
  pub stale_first : (call : ℕ) → HasNoneBefore start 7 segment → IsFirstStale before start segment call → IsFirstBehind before start segment (Stale call)
  stale_first call none first = record { holds = first.stale; none_earlier = earlier } where
    earlier : (other : Fault) → HasFaultBehind before start segment other → Earlier segment other (Stale call) → ⊥
    earlier (Stale other) h less = first.none_lower other (touch_number other call less) h
    earlier other h less =
        let below = not_later segment other (Stale call) less in
        elim (cases_lt (pass_of other) 7) [
          | inl low ↦ none other low (early_on before start segment other low h)
          | inr high ↦ omega (arith, below, high)
        ]

  -- the wrong release of the lowest number is the first fault where the touches are right
  pub wrong_first : (call : ℕ) → HasNoneBefore start 7 segment → HasRightTouches before start segment → IsFirstWrong before start segment call
      → IsFirstBehind before start segment (Reachable call)
  wrong_first call none right first = record { holds = first.wrong; none_earlier = earlier } where
    earlier : (other : Fault) → HasFaultBehind before start segment other → Earlier segment other (Reachable call) → ⊥
    earlier (Stale other) h less = none_stale before start segment right other h
    earlier (Reachable other) h less = first.none_lower other (release_number other call less) h
    earlier other h less =
        let below = not_later segment other (Reachable call) less in
        elim (cases_lt (pass_of other) 7) [
          | inl low ↦ none other low (early_on before start segment other low h)
          | inr high ↦ omega (arith, below, high)
        ]

  -- the first fault of touches and releases
  pub late_first : (stale reachable : Option ℕ) (fault : Fault) → late_fault stale reachable ≡ Some fault → IfNone stale (HasRightTouches before start segment)
      → IfSome stale (IsFirstStale before start segment) → IfSome reachable (IsFirstWrong before start segment) → HasNoneBefore start 7 segment
      → IsFirstBehind before start segment fault
  late_first (Some call) reachable fault e right first wrong none =
      subst (IsFirstBehind before start segment) (same_Some (Stale call) fault e) (stale_first call none first)
  late_first None (Some call) fault e right first wrong none =
      subst (IsFirstBehind before start segment) (same_Some (Reachable call) fault e) (wrong_first call none right wrong)
  late_first None None fault e right first wrong none = absurd (none-some fault e)

pub no_stale : (stale reachable : Option ℕ) → late_fault stale reachable ≡ None → stale ≡ None
no_stale None reachable e = refl
no_stale (Some call) reachable e = absurd (none-some (Stale call) (sym e))

pub no_wrong : (stale reachable : Option ℕ) → late_fault stale reachable ≡ None → reachable ≡ None
no_wrong None None e = refl
no_wrong None (Some call) e = absurd (none-some (Reachable call) (sym e))
no_wrong (Some call) reachable e = absurd (none-some (Stale call) (sym e))

-- a segment without a touch has right touches
pub no_touches : (before : Option Run) (start : Space) (segment : Recording) → (HasSomeTouch segment → ⊥) → HasRightTouches before start segment
no_touches before start segment none touch has = absurd (none (touch.made, subst IsSome (sym has.asks) refl))

-- ---- with the start

-- a fault of a start is one of the segment
pub of_start : (before : Option Run) (segment : Recording) (fault : Fault) → HasStartFault (space_before before) segment fault
    → HasFaultAfter before segment fault
of_start before segment (StartMissing number) h = h
of_start before segment (StartShared number) h = h
of_start before segment (StartReserved number index) h = h
of_start before segment (StartStray number) h = h
of_start before segment (StartBeyond base) h = h
of_start before segment (StartDiffers address) h = h
of_start before segment _ h = absurd h.2

-- any other is one behind the start
behind_start : (before : Option Run) (segment : Recording) (fault : Fault) → BeginsRight (space_before before) segment → HasFaultAfter before segment fault
    → HasFaultBehind before (begins_in before segment) segment fault
behind_start before segment (StartMissing number) begins h = absurd (begins (StartMissing number) h)
behind_start before segment (StartShared number) begins h = absurd (begins (StartShared number) h)
behind_start before segment (StartReserved number index) begins h = absurd (begins (StartReserved number index) h)
behind_start before segment (StartStray number) begins h = absurd (begins (StartStray number) h)
behind_start before segment (StartBeyond base) begins h = absurd (begins (StartBeyond base) h)
behind_start before segment (StartDiffers address) begins h = absurd (begins (StartDiffers address) h)
behind_start before segment _ begins h = h

of_behind : (before : Option Run) (segment : Recording) (fault : Fault) → HasFaultBehind before (begins_in before segment) segment fault
    → HasFaultAfter before segment fault
of_behind before segment (StartMissing number) h = absurd h
of_behind before segment (StartShared number) h = absurd h
of_behind before segment (StartReserved number index) h = absurd h
of_behind before segment (StartStray number) h = absurd h
of_behind before segment (StartBeyond base) h = absurd h
of_behind before segment (StartDiffers address) h = absurd h
of_behind before segment _ h = h

-- a segment is sound where its start is right, no fault that a trace may have too holds from its first space on, and its touches are right
pub sound_by : (before : Option Run) (segment : Recording) → BeginsRight (space_before before) segment → IsFaultlessFrom (begins_in before segment) segment
    → HasRightTouches before (begins_in before segment) segment → HasRightReleases before (begins_in before segment) segment → IsSoundAfter before segment
sound_by before segment begins clean right released = record { faultless = none; touches = right } where
  none : (fault : Fault) → HasFaultAfter before segment fault → ⊥
  none (StartMissing number) h = begins (StartMissing number) h
  none (StartShared number) h = begins (StartShared number) h
  none (StartReserved number index) h = begins (StartReserved number index) h
  none (StartStray number) h = begins (StartStray number) h
  none (StartBeyond base) h = begins (StartBeyond base) h
  none (StartDiffers address) h = begins (StartDiffers address) h
  none (Stale call) h = h.3 (right h.0 h.1)
  none (Reachable call) h = released h.0 h.1 h.3
  none fault h = clean fault h

pub begins_of : (before : Option Run) (segment : Recording) → HasNoFaultAfter before segment → BeginsRight (space_before before) segment
begins_of before segment none fault h = none fault (of_start before segment fault h)

pub faultless_of : (before : Option Run) (segment : Recording) → HasNoFaultAfter before segment → IsFaultlessFrom (begins_in before segment) segment
faultless_of before segment none fault h = none fault (within before segment fault h)

module _ (before : Option Run) (segment : Recording) (start : Space) (is : start ≡ begins_in before segment)
    (begins : BeginsRight (space_before before) segment) where
  pub sound_after : HasNoFaultBehind before start segment → HasRightTouches before start segment → IsSoundAfter before segment
  sound_after none right = record {
    faultless = λ fault h. none fault (subst (λ s. HasFaultBehind before s segment fault) (sym is) (behind_start before segment fault begins h));
    touches = subst (λ s. HasRightTouches before s segment) is right;
  }

  pub first_after : (fault : Fault) → IsFirstBehind before start segment fault → IsFirstAfter before segment fault
  first_after fault first = record {
    holds = of_behind before segment fault (subst (λ s. HasFaultBehind before s segment fault) is first.holds);
    none_earlier = λ other h less.
        first.none_earlier other (subst (λ s. HasFaultBehind before s segment other) (sym is) (behind_start before segment other begins h)) less;
  }

-- of a space before that is the same
pub refused_begin : (one other : Option Space) (segment : Recording) (fail : Fail Fault) → one ≡ other → IfRefused (BeginsWrong one segment) fail
    → IfRefused (BeginsWrong other segment) fail
refused_begin one other segment fail same wrong = subst (λ (b : Option Space). IfRefused (BeginsWrong b segment) fail) same wrong

-- the first fault of the start is the first of all
pub start_first : (before : Option Run) (segment : Recording) (fault : Fault) → BeginsWrong (space_before before) segment fault
    → IsFirstAfter before segment fault
start_first before segment fault wrong = record { holds = of_start before segment fault wrong.holds; none_earlier = none } where
  late : (other : Fault) → Earlier segment other fault → pass_of other ≤ 1
  late other less =
      let low = not_later segment other fault less in
      let one = start_pass (space_before before) segment fault wrong.holds in
      omega (arith, low, one)

  none : (other : Fault) → HasFaultAfter before segment other → Earlier segment other fault → ⊥
  none (StartMissing number) h less = wrong.none_earlier (StartMissing number) h less
  none (StartShared number) h less = wrong.none_earlier (StartShared number) h less
  none (StartReserved number index) h less = wrong.none_earlier (StartReserved number index) h less
  none (StartStray number) h less = wrong.none_earlier (StartStray number) h less
  none (StartBeyond base) h less = wrong.none_earlier (StartBeyond base) h less
  none (StartDiffers address) h less = wrong.none_earlier (StartDiffers address) h less
  none (Format fault) h less = h
  none other h less = let low = late other less in omega arith

-- no release of a sound segment is wrong
pub releases_of : (before : Option Run) (segment : Recording) → IsSoundAfter before segment → HasRightReleases before (begins_in before segment) segment
releases_of before segment sound release has wrong = sound.faultless (Reachable release.made) (release, has, refl, wrong)

-- nothing is wrong with the events, the log and the positions of a sound segment
pub clean_of : (before : Option Run) (segment : Recording) → IsSoundAfter before segment → HasCleanLog segment
clean_of before segment sound =
    let none = faultless_of before segment sound.faultless in
    record {
      no_thread_open = λ index. none (ThreadOpen index);
      no_such_call = λ index. none (NoSuchCall index);
      none_twice = λ index. none (AnsweredTwice index);
      updates_alone = λ place. none (NotAnUpdate place);
      placed_once = λ place. none (PlacedTwice place);
      all_placed = λ index. none (NotPlaced index);
      none_past_log = λ index. none (PastLog index);
    }
