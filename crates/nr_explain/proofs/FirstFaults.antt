-- What is so where one fault is the first.
use Rattle.std.proofs.Common.{◌≡◌, ℕ, ◌+◌, ◌<◌, ◌≤◌, ◌⊎◌, inl, inr, Some, length, slice_get, refl, sym, subst, ◌∙◌, arith}
use Rattle.std.specs.Prelude.{IsSome}
use Rattle.std.proofs.lemmas.Bool.{cases_order, cases_lt}
use Rattle.std.proofs.lemmas.Option.{same_Some}
use Rattle.vs_walk.specs.Dump.{Image}
use Rattle.nr_trace.specs.Recording.{IsThere, Recording}
use Rattle.nr_trace.specs.Calls.{Invocation, IsCall, IsUpdate, Response, call_of, reply_of}
use Rattle.nr_trace.specs.Faults.{IsFirst, OpensTwice}
use Rattle.nr_trace.specs.Laws.{HasCleanLog}
use Rattle.nr_trace.specs.declared.refusals.fault.Fault.{Fault}
use Rattle.nr_trace.specs.declared.refusals.fault.Fault.TheVariants.{AnsweredTwice, Differs, Early, NoSuchCall, NotAnUpdate, NotPlaced, PastLog, PlacedTwice}
use Rattle.nr_trace.specs.declared.refusals.fault.Fault.TheVariants.{PrefixPastLog, ThreadOpen}
use Rattle.nr_trace.proofs.LawsOfCalls.{behind_its_call, update_from_not_not}
use Rattle.nr_trace.proofs.LawsOfFaults.{less_from_below}
use Rattle.nr_explain.specs.Dumps.{IsFirstOfItsDump, replica_of}
use Rattle.nr_explain.specs.Facts.{invocation}
use Rattle.nr_explain.specs.inside.Searches.{IsIdle, IsLastCall, IsOpenBelow}
use Rattle.nr_explain.specs.declared.trace.evidence.RecordedCall.{RecordedCall}

-- ---- open calls

-- it has one
pub some_last : (trace : Recording) (index thread : ℕ) → IsFirst trace (ThreadOpen index)
    → ((made : Invocation) → call_of trace index ≡ Some made → made.thread ≡ thread) → IsIdle trace thread 0 index → ⊥
some_last trace index thread first own idle =
    let opens = first.holds in
    idle opens.earlier (omega arith) opens.is_earlier
    (record { made = opens.earlier_made; is_made = opens.is_earlier_made; same = opens.same_thread ∙ own opens.made opens.is_made })

-- the last call of the thread before has no reply, where the call is the first of its thread that is made too early
pub last_is_open : (trace : Recording) (index thread : ℕ) (last : RecordedCall) → IsFirst trace (ThreadOpen index)
    → ((made : Invocation) → call_of trace index ≡ Some made → made.thread ≡ thread) → IsLastCall trace thread index (Some last)
    → IsOpenBelow trace last.event index
last_is_open trace index thread last first own is = by_order (cases_order first.holds.earlier last.event) where
  opens : OpensTwice trace index
  opens = first.holds

  same : opens.earlier_made.thread ≡ thread
  same = opens.same_thread ∙ own opens.made opens.is_made

  by_order : (opens.earlier ≡ last.event) ⊎ ((opens.earlier < last.event) ⊎ (last.event < opens.earlier)) → IsOpenBelow trace last.event index
  by_order (inl e) = subst (λ call. IsOpenBelow trace call index) e opens.not_answered
  by_order (inr (inl low)) = absurd (first.none_earlier (ThreadOpen last.event)
      (record {
        made = invocation last;
        is_made = is.0;
        earlier = opens.earlier;
        earlier_made = opens.earlier_made;
        is_earlier = low;
        is_earlier_made = opens.is_earlier_made;
        same_thread = same ∙ sym is.1;
        not_answered = λ reply lt. opens.not_answered reply (below reply lt is.2);
      })
      (less_from_below 2 last.event 2 2 index 2 (inr (inl (refl, is.2))))) where
        below : (reply : ℕ) → reply < last.event → last.event < index → reply < index
        below reply lt more = omega arith
  by_order (inr (inr high)) = absurd (is.3 opens.earlier (after high) opens.is_earlier
      (record { made = opens.earlier_made; is_made = opens.is_earlier_made; same = same })) where
        after : last.event < opens.earlier → last.event + 1 ≤ opens.earlier
        after lt = omega arith

-- ---- calls that replies name

pub twice_names_call : (trace : Recording) (index : ℕ) (reply : Response) → IsFirst trace (AnsweredTwice index) → reply_of trace index ≡ Some reply
    → (reply.call < index) × IsCall trace reply.call
twice_names_call trace index reply first e = behind_its_call trace index reply
    (λ h. first.none_earlier (NoSuchCall index) h (less_from_below 2 index 3 2 index 4 (inr (inr (refl, refl, omega arith))))) e

-- what is at a place twice is an update
pub twice_is_update : (trace : Recording) (place call : ℕ) → IsFirst trace (PlacedTwice place) → slice_get trace.log place ≡ Some call → IsUpdate trace call
twice_is_update trace place call first e = update_from_not_not trace call (λ none.
    first.none_earlier (NotAnUpdate place) (call, e, none) (less_from_below 3 place 5 3 place 6 (inr (inr (refl, refl, omega arith)))))

-- ---- clean logs

-- where an early call is the first fault, no fault holds of the events, the log or a reply's place
pub clean_before_early : (trace : Recording) (call : ℕ) → IsFirst trace (Early call) → HasCleanLog trace
clean_before_early trace call first = record {
  no_thread_open = λ i h. first.none_earlier (ThreadOpen i) h refl;
  no_such_call = λ i h. first.none_earlier (NoSuchCall i) h refl;
  none_twice = λ i h. first.none_earlier (AnsweredTwice i) h refl;
  updates_alone = λ i h. first.none_earlier (NotAnUpdate i) h refl;
  placed_once = λ i h. first.none_earlier (PlacedTwice i) h refl;
  all_placed = λ i h. first.none_earlier (NotPlaced i) h refl;
  none_past_log = λ i h. first.none_earlier (PastLog i) h refl;
}

-- a dump that translates otherwise has applied no more than the log has
pub few_before_differs : (trace : Recording) (replica address : ℕ) (dump : Image) → IsFirstOfItsDump trace (Differs replica address)
    → slice_get trace.dumps replica ≡ Some dump → dump.applied ≤ length trace.log
few_before_differs trace replica address dump first there = elim (cases_lt (length trace.log) dump.applied) [
  | inl past ↦ absurd (first.none_earlier (PrefixPastLog replica) refl
      (dump, there, subst IsThere (same_Some first.holds.0 dump (sym first.holds.1 ∙ there)) first.holds.2, past)
      (less_from_below 7 replica 11 7 replica 17 (inr (inr (refl, refl, omega arith)))))
  | inr few ↦ few
]

-- the first fault of all, where it is one of a dump, is the first of that dump
pub first_of_its_dump : (trace : Recording) (fault : Fault) → IsSome (replica_of fault) → IsFirst trace fault → IsFirstOfItsDump trace fault
first_of_its_dump trace fault of_dump first =
    record { of_dump = of_dump; holds = first.holds; none_earlier = λ other same holds. first.none_earlier other holds }
