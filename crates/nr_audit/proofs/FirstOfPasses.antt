-- The passes one after another: the first fault of a pass, where none of an earlier pass holds, is the first of all.
use Rattle.std.proofs.Common.{◌≡◌, ℕ, ◌+◌, ◌<◌, ◌≤◌, inl, inr, ◌==◌, Option, refl, subst, arith, lit<}
use Rattle.std.specs.Prelude.{⊤, MatchBool}
use Rattle.std.proofs.lemmas.Bool.{cases_lt}
use Rattle.vs_types.specs.Space.{Space, no_pages}
use Rattle.nr_trace.specs.Recording.{Recording}
use Rattle.nr_trace.specs.Faults.{Earlier}
use Rattle.nr_trace.specs.Laws.{HasCleanLog}
use Rattle.nr_trace.specs.declared.refusals.fault.Fault.{Fault}
use Rattle.nr_trace.specs.declared.refusals.fault.Fault.TheVariants.{Format, ThreadOpen, NoSuchCall, AnsweredTwice, NotAnUpdate, PlacedTwice, NotPlaced, PastLog, Early}
use Rattle.nr_trace.specs.declared.refusals.fault.Fault.TheVariants.{WrongAnswer, PrefixPastLog, PrefixShort, MissingFrame, SharedFrame, ReservedBit, StrayFrame}
use Rattle.nr_trace.specs.declared.refusals.fault.Fault.TheVariants.{Differs}
use Rattle.nr_trace.specs.declared.refusals.fault.Fault.TheVariants.{StartMissing, StartShared, StartReserved, StartStray, StartBeyond, StartDiffers, Stale, Reachable}
use Rattle.nr_trace.proofs.LawsOfFaults.{pass as pass_of, earlier_parts}
use Rattle.vs_types.specs.Refusal.{IfRefused}
use Rattle.vs_types.specs.declared.requests.refusal.Fail.{Fail}
use Rattle.vs_types.specs.declared.requests.refusal.Fail.TheVariants.{Memory, Refused}
use Rattle.nr_audit.specs.inside.Search.{HasFaultOn, HasNoFaultOn, HasNone, HasNoneFrom, IsFirstAmong, IsFirstAmongFrom, IsFirstFromAny, IsFirstOn}
use Rattle.nr_audit.specs.inside.Search.{HasFaultBehind, IsFirstBehind}
use Rattle.nr_trace.specs.Run.{Run}
use Rattle.nr_audit.specs.inside.Passes.{IsCallFault, IsLogFault, IsPositionFault, IsFloorFault, IsAnswerFault, IsTouchFault, IsReleaseFault, IsDumpFault}

-- the faults among these are those of the pass
pub record AreOfPass (pass : ℕ) (Among : Fault → Type 0) : Type 0 where
  pub all : (fault : Fault) → pass_of fault ≡ pass → Among fault
  pub only : (fault : Fault) → Among fault → pass_of fault ≡ pass

-- no fault of a pass before this one holds from a start on
abbrev pub HasNoneBefore : Space → ℕ → Recording → Type 0
HasNoneBefore start pass trace = (fault : Fault) → pass_of fault < pass → HasFaultOn start trace fault → ⊥

pub none_of_format : (trace : Recording) → HasNoneBefore no_pages 2 trace
none_of_format trace (Format fault) lt holds = holds
none_of_format trace (StartMissing number) lt holds = holds
none_of_format trace (StartShared number) lt holds = holds
none_of_format trace (StartReserved number index) lt holds = holds
none_of_format trace (StartStray number) lt holds = holds
none_of_format trace (StartBeyond base) lt holds = holds
none_of_format trace (StartDiffers address) lt holds = holds
none_of_format trace _ lt holds = omega arith

-- one pass more
pub none_before_next : (start : Space) (pass : ℕ) (Among : Fault → Type 0) (trace : Recording) → AreOfPass pass Among → HasNoneBefore start pass trace
    → HasNoneFrom start Among trace → HasNoneBefore start (pass + 1) trace
none_before_next start pass Among trace are none here fault lt holds = elim (cases_lt (pass_of fault) pass) [
  | inl low ↦ none fault low holds
  | inr same ↦ here fault (are.all fault (omega arith)) holds
]

-- what comes earlier is of no later pass
pub not_later : (trace : Recording) (other fault : Fault) → Earlier trace other fault → pass_of other ≤ pass_of fault
not_later trace other fault earlier = elim (earlier_parts trace other fault earlier) [
  | inl low ↦ omega arith
  | inr rest ↦ elim rest [
    | inl same ↦ (let pass = same.0 in omega arith)
    | inr same ↦ (let pass = same.0 in omega arith)
  ]
]

-- the first fault of a pass is the first of all
pub first_of_pass : (start : Space) (pass : ℕ) (Among : Fault → Type 0) (trace : Recording) (fault : Fault) → AreOfPass pass Among
    → HasNoneBefore start pass trace → IsFirstAmongFrom start Among trace fault → IsFirstOn start trace fault
first_of_pass start pass Among trace fault are none first = record {
  holds = first.holds;
  none_earlier = λ other holds earlier.
      let before = not_later trace other fault earlier in
      let own = are.only fault first.is_among in
      elim (cases_lt (pass_of other) pass) [
        | inl low ↦ none other low holds
        | inr same ↦ first.none_earlier other (are.all other (omega arith)) holds earlier
      ];
}

-- what a pass refuses is the first of all
pub refused_by_pass : (start : Space) (pass : ℕ) (Among : Fault → Type 0) (trace : Recording) (fail : Fail Fault) → AreOfPass pass Among
    → HasNoneBefore start pass trace → IfRefused (IsFirstAmongFrom start Among trace) fail → IfRefused (IsFirstOn start trace) fail
refused_by_pass start pass Among trace Memory are none first = tt
refused_by_pass start pass Among trace (Refused fault) are none first = first_of_pass start pass Among trace fault are none first

-- ---- behind a run

module _ (before : Option Run) (start : Space) (segment : Recording) where
  -- a fault of the passes before that of touches holds as it does without a run
  pub early_on : (fault : Fault) → pass_of fault < 7 → HasFaultBehind before start segment fault → HasFaultOn start segment fault
  early_on (Stale call) low h = absurd (omega arith)
  early_on (Reachable call) low h = absurd (omega arith)
  early_on _ low h = h

  pub on_behind : (fault : Fault) → HasFaultOn start segment fault → HasFaultBehind before start segment fault
  on_behind (Stale call) h = absurd h
  on_behind (Reachable call) h = absurd h
  on_behind _ h = h

  -- the first of such a pass, where none of an earlier pass holds, is the first behind a run
  pub first_early : (fault : Fault) → pass_of fault < 7 → IsFirstOn start segment fault → IsFirstBehind before start segment fault
  first_early fault low first = record {
    holds = on_behind fault first.holds;
    none_earlier = λ other h less.
        let below = not_later segment other fault less in
        first.none_earlier other (early_on other (omega (arith, low, below)) h) less;
  }

  pub refused_early : (pass : ℕ) (Among : Fault → Type 0) (fail : Fail Fault) → pass < 7 → AreOfPass pass Among → HasNoneBefore start pass segment
      → IfRefused (IsFirstAmongFrom start Among segment) fail → IfRefused (IsFirstBehind before start segment) fail
  refused_early pass Among Memory low are none first = tt
  refused_early pass Among (Refused fault) low are none first =
      let own = are.only fault first.is_among in
      first_early fault (omega (arith, low, own)) (first_of_pass start pass Among segment fault are none first)

-- what is refused of a history is refused of its trace
pub refused_of : (before : Option Run) (start : Space) (history trace : Recording) (fail : Fail Fault) → history ≡ trace
    → IfRefused (IsFirstBehind before start history) fail → IfRefused (IsFirstBehind before start trace) fail
refused_of before start history trace fail same first = subst (λ t. IfRefused (IsFirstBehind before start t) fail) same first

-- or from a space that is the same
pub refused_on : (before : Option Run) (one other : Space) (trace : Recording) (fail : Fail Fault) → one ≡ other
    → IfRefused (IsFirstBehind before one trace) fail → IfRefused (IsFirstBehind before other trace) fail
refused_on before one other trace fail same first = subst (λ s. IfRefused (IsFirstBehind before s trace) fail) same first

pub refused_start : (one other : Space) (trace : Recording) (fail : Fail Fault) → one ≡ other → IfRefused (IsFirstOn one trace) fail
    → IfRefused (IsFirstOn other trace) fail
refused_start one other trace fail same first = subst (λ s. IfRefused (IsFirstOn s trace) fail) same first

pub refused_in : (start : Space) (Among : Fault → Type 0) (one other : Recording) (fail : Fail Fault) → one ≡ other
    → IfRefused (IsFirstAmongFrom start Among one) fail → IfRefused (IsFirstAmongFrom start Among other) fail
refused_in start Among one other fail same first = subst (λ t. IfRefused (IsFirstAmongFrom start Among t) fail) same first

-- ---- faults of the passes before the answers are those from any start on

of_any : (one other : Space) (trace : Recording) (fault : Fault) → pass_of fault < 6 → HasFaultOn one trace fault → HasFaultOn other trace fault
of_any one other trace (WrongAnswer call) low holds = absurd (omega arith)
of_any one other trace (Differs replica address) low holds = absurd (omega arith)
of_any one other trace (Stale call) low holds = absurd (omega arith)
of_any one other trace (Reachable call) low holds = absurd (omega arith)
of_any one other trace _ low holds = holds

pub none_before_from : (start : Space) (trace : Recording) → HasNoneBefore no_pages 6 trace → HasNoneBefore start 6 trace
none_before_from start trace none fault low holds = none fault low (of_any start no_pages trace fault low holds)

pub first_from_any : (trace : Recording) (fault : Fault) → pass_of fault < 6 → IsFirstOn no_pages trace fault → IsFirstFromAny trace fault
first_from_any trace fault low first = λ before start. first_early before start trace fault (omega (arith, low)) (record {
  holds = of_any no_pages start trace fault low first.holds;
  none_earlier = λ other holds earlier.
      let before_it = not_later trace other fault earlier in
      first.none_earlier other (of_any start no_pages trace other (omega (arith, low, before_it)) holds) earlier;
})

-- what such a pass refuses is the first from any start on
pub refused_from_any : (before : Option Run) (start : Space) (pass : ℕ) (Among : Fault → Type 0) (trace : Recording) (fail : Fail Fault) → pass < 6
    → AreOfPass pass Among
    → HasNoneBefore no_pages pass trace → IfRefused (IsFirstAmong Among trace) fail → IfRefused (IsFirstBehind before start trace) fail
refused_from_any before start pass Among trace Memory low are none first = tt
refused_from_any before start pass Among trace (Refused fault) low are none first =
    let own = are.only fault first.is_among in
    first_from_any trace fault (omega arith) (first_of_pass no_pages pass Among trace fault are none first) before start

pub refused_of_any : (before : Option Run) (start : Space) (trace : Recording) (fail : Fail Fault) → IfRefused (IsFirstFromAny trace) fail
    → IfRefused (IsFirstBehind before start trace) fail
refused_of_any before start trace Memory first = tt
refused_of_any before start trace (Refused fault) first = first before start

-- the faults for which a pass looks
abbrev IsOfPass : ℕ → Fault → Type 0
IsOfPass pass fault =
    MatchBool (pass == 2) (IsCallFault fault) (MatchBool (pass == 3) (IsLogFault fault) (MatchBool (pass == 4) (IsPositionFault fault)
    (MatchBool (pass == 5) (IsFloorFault fault) (MatchBool (pass == 6) (IsAnswerFault fault) (MatchBool (pass == 7) (IsTouchFault fault)
    (MatchBool (pass == 8) (IsReleaseFault fault) (MatchBool (pass == 9) (IsDumpFault fault) ⊤)))))))

own_pass : (fault : Fault) → IsOfPass (pass_of fault) fault
own_pass (ThreadOpen index) = (index, refl)
own_pass (NoSuchCall index) = (index, refl)
own_pass (AnsweredTwice index) = (index, refl)
own_pass (NotAnUpdate place) = (place, refl)
own_pass (PlacedTwice place) = (place, refl)
own_pass (NotPlaced index) = (index, refl)
own_pass (PastLog index) = (index, refl)
own_pass (Early call) = (call, refl)
own_pass (PrefixPastLog replica) = (replica, refl)
own_pass (PrefixShort replica) = (replica, refl)
own_pass (MissingFrame replica number) = (replica, refl)
own_pass (SharedFrame replica number) = (replica, refl)
own_pass (ReservedBit replica number index) = (replica, refl)
own_pass (StrayFrame replica number) = (replica, refl)
own_pass (Differs replica address) = (replica, refl)
own_pass _ = tt

from_call : (fault : Fault) → IsCallFault fault → pass_of fault ≡ 2
from_call (ThreadOpen index) among = refl
from_call (NoSuchCall index) among = refl
from_call (AnsweredTwice index) among = refl
from_call fault among = absurd among.1

pub call_faults : AreOfPass 2 IsCallFault
call_faults = record { all = λ fault e. subst (λ pass. IsOfPass pass fault) e (own_pass fault); only = from_call }

from_log : (fault : Fault) → IsLogFault fault → pass_of fault ≡ 3
from_log (NotAnUpdate place) among = refl
from_log (PlacedTwice place) among = refl
from_log fault among = absurd among.1

pub log_faults : AreOfPass 3 IsLogFault
log_faults = record { all = λ fault e. subst (λ pass. IsOfPass pass fault) e (own_pass fault); only = from_log }

from_position : (fault : Fault) → IsPositionFault fault → pass_of fault ≡ 4
from_position (NotPlaced index) among = refl
from_position (PastLog index) among = refl
from_position fault among = absurd among.1

pub position_faults : AreOfPass 4 IsPositionFault
position_faults = record { all = λ fault e. subst (λ pass. IsOfPass pass fault) e (own_pass fault); only = from_position }

from_floor : (fault : Fault) → IsFloorFault fault → pass_of fault ≡ 5
from_floor (Early call) among = refl
from_floor fault among = absurd among.1

pub floor_faults : AreOfPass 5 IsFloorFault
floor_faults = record { all = λ fault e. subst (λ pass. IsOfPass pass fault) e (own_pass fault); only = from_floor }

from_answer : (fault : Fault) → IsAnswerFault fault → pass_of fault ≡ 6
from_answer (WrongAnswer call) among = refl
from_answer fault among = absurd among

pub answer_faults : AreOfPass 6 IsAnswerFault
answer_faults = record { all = λ fault e. subst (λ pass. IsOfPass pass fault) e (own_pass fault); only = from_answer }

from_touch : (fault : Fault) → IsTouchFault fault → pass_of fault ≡ 7
from_touch (Stale call) among = refl
from_touch fault among = absurd among

-- without a run no fault is one of touches
none_of_touches : (start : Space) (trace : Recording) → HasNoneFrom start IsTouchFault trace
none_of_touches start trace (Stale call) among holds = holds
none_of_touches start trace _ among holds = absurd among

pub touch_faults : AreOfPass 7 IsTouchFault
touch_faults = record { all = λ fault e. subst (λ pass. IsOfPass pass fault) e (own_pass fault); only = from_touch }

from_release : (fault : Fault) → IsReleaseFault fault → pass_of fault ≡ 8
from_release (Reachable call) among = refl
from_release fault among = absurd among

-- nor one of releases
none_of_releases : (start : Space) (trace : Recording) → HasNoneFrom start IsReleaseFault trace
none_of_releases start trace (Reachable call) among holds = holds
none_of_releases start trace _ among holds = absurd among

pub release_faults : AreOfPass 8 IsReleaseFault
release_faults = record { all = λ fault e. subst (λ pass. IsOfPass pass fault) e (own_pass fault); only = from_release }

from_dump : (fault : Fault) → IsDumpFault fault → pass_of fault ≡ 9
from_dump (PrefixPastLog replica) among = refl
from_dump (PrefixShort replica) among = refl
from_dump (MissingFrame replica number) among = refl
from_dump (SharedFrame replica number) among = refl
from_dump (ReservedBit replica number index) among = refl
from_dump (StrayFrame replica number) among = refl
from_dump (Differs replica address) among = refl
from_dump fault among = absurd among.1

pub dump_faults : AreOfPass 9 IsDumpFault
dump_faults = record { all = λ fault e. subst (λ pass. IsOfPass pass fault) e (own_pass fault); only = from_dump }

-- a fault is of one of the passes
last_pass : (fault : Fault) → pass_of fault < 10
last_pass (Format fault) = lit< tt
last_pass _ = lit< tt

pub faultless_after_all : (start : Space) (trace : Recording) → HasNoneBefore start 10 trace → HasNoFaultOn start trace
faultless_after_all start trace none fault holds = none fault (last_pass fault) holds

-- nothing is wrong with the events, the log and the positions
pub clean_after_positions : (trace : Recording) → HasNoneBefore no_pages 5 trace → HasCleanLog trace
clean_after_positions trace none = record {
  no_thread_open = λ index. none (ThreadOpen index) (lit< tt);
  no_such_call = λ index. none (NoSuchCall index) (lit< tt);
  none_twice = λ index. none (AnsweredTwice index) (lit< tt);
  updates_alone = λ place. none (NotAnUpdate place) (lit< tt);
  placed_once = λ place. none (PlacedTwice place) (lit< tt);
  all_placed = λ index. none (NotPlaced index) (lit< tt);
  none_past_log = λ index. none (PastLog index) (lit< tt);
}

-- ---- the passes that found nothing

module _ (trace : Recording) (calls : HasNone IsCallFault trace) where
  pub after_calls : HasNoneBefore no_pages 3 trace
  after_calls = none_before_next no_pages 2 IsCallFault trace call_faults (none_of_format trace) calls

  module _ (log : HasNone IsLogFault trace) where
    pub after_log : HasNoneBefore no_pages 4 trace
    after_log = none_before_next no_pages 3 IsLogFault trace log_faults after_calls log

    module _ (positions : HasNone IsPositionFault trace) where
      pub after_positions : HasNoneBefore no_pages 5 trace
      after_positions = none_before_next no_pages 4 IsPositionFault trace position_faults after_log positions

      module _ (floors : HasNone IsFloorFault trace) where
        pub after_floors : HasNoneBefore no_pages 6 trace
        after_floors = none_before_next no_pages 5 IsFloorFault trace floor_faults after_positions floors

        module _ (start : Space) where
          pub before_answers : HasNoneBefore start 6 trace
          before_answers = none_before_from start trace after_floors

          module _ (answers : HasNoneFrom start IsAnswerFault trace) where
            pub after_answers : HasNoneBefore start 7 trace
            after_answers = none_before_next start 6 IsAnswerFault trace answer_faults before_answers answers

            pub after_touches : HasNoneBefore start 8 trace
            after_touches = none_before_next start 7 IsTouchFault trace touch_faults after_answers (none_of_touches start trace)

            pub after_releases : HasNoneBefore start 9 trace
            after_releases = none_before_next start 8 IsReleaseFault trace release_faults after_touches (none_of_releases start trace)

            pub after_dumps : HasNoneFrom start IsDumpFault trace → HasNoneBefore start 10 trace
            after_dumps dumps = none_before_next start 9 IsDumpFault trace dump_faults after_releases dumps
