-- The calls that come before one that was answered before they were made.
use Rattle.std.proofs.Common.{◌≡◌, ℕ, ◌+◌, ◌<◌, ◌≤◌, true, false, [], ◌∷◌, inl, inr, length, Some, None, Option, refl, sym, ap, subst, ◌∙◌, arith}
use Rattle.std.specs.Prelude.{is_some}
use Rattle.std.proofs.lemmas.Bool.{cases_lt, false≢true}
use Rattle.vs_types.specs.Space.{no_pages}
use Rattle.nr_trace.specs.Recording.{Recording}
use Rattle.nr_trace.specs.Calls.{call_of, IsCall}
use Rattle.nr_trace.specs.Orders.{floor}
use Rattle.nr_trace.specs.Faults.{Earlier, StandsAfter}
use Rattle.nr_trace.specs.Laws.{HasCleanLog}
use Rattle.nr_trace.specs.declared.refusals.fault.Fault.{Fault}
use Rattle.nr_trace.specs.declared.refusals.fault.Fault.TheVariants.{Early}
use Rattle.nr_trace.proofs.LawsOfCalls.{call_within, stands_once, update_is_call, read_is_call}
use Rattle.vs_types.specs.Finds.{Finds}
use Rattle.nr_audit.specs.inside.Search.{HasFaultOn, FindsEarly, HasNone, IsFirstAmong}
use Rattle.nr_audit.specs.inside.Passes.{IsFloorFaultAt, IsFloorFault}
use Rattle.nr_audit.proofs.Ranks.{IsRanked, more_of, none_of_all, first_of_all, lower_number}

pub floor_ranks : (trace : Recording) → IsRanked IsFloorFaultAt 5 trace
floor_ranks trace index (Early call) among = (9, ap (λ i. 5 ∷ i ∷ 9 ∷ []) among)
floor_ranks trace index fault among = absurd among

none_at : (trace : Recording) (index : ℕ) → (HasFaultOn no_pages trace (Early index) → ⊥) → HasNone (IsFloorFaultAt index) trace
none_at trace index none (Early call) among holds = none (subst (λ c. HasFaultOn no_pages trace (Early c)) among holds)
none_at trace index none fault among holds = absurd among

stands_as_call : (trace : Recording) (call entries : ℕ) → StandsAfter trace call entries → IsCall trace call
stands_as_call trace call entries (inl h) = update_is_call trace call h.0
stands_as_call trace call entries (inr h) = read_is_call trace call h.0

-- what is no call is nowhere
pub no_call_stands : (trace : Recording) (call entries : ℕ) → call_of trace call ≡ None → StandsAfter trace call entries → ⊥
no_call_stands trace call entries none stands = false≢true (sym (ap is_some none) ∙ stands_as_call trace call entries stands)

pub none_at_other : (trace : Recording) (index : ℕ) → call_of trace index ≡ None → HasNone (IsFloorFaultAt index) trace
none_at_other trace index none = none_at trace index (λ held. no_call_stands trace index held.0 none held.1)

-- a call that comes after at least as many entries as its floor, or nowhere
pub none_at_call : (trace : Recording) (index : ℕ) (found : Option ℕ) → HasCleanLog trace → Finds (StandsAfter trace index) found
    → ((entries : ℕ) → found ≡ Some entries → floor trace index ≤ entries) → HasNone (IsFloorFaultAt index) trace
none_at_call trace index None clean none kept = none_at trace index (λ held. none held.0 held.1)
none_at_call trace index (Some entries) clean stands kept = none_at trace index (λ held.
    let same = stands_once trace index held.0 entries clean held.1 stands in
    let low = held.2 in
    let high = kept entries refl in
    omega arith)

pub no_floor_fault : (trace : Recording) → ((lower : ℕ) → lower < length trace.events → HasNone (IsFloorFaultAt lower) trace) → HasNone IsFloorFault trace
no_floor_fault trace none = none_of_all IsFloorFaultAt trace (λ index. elim (cases_lt index (length trace.events)) [
  | inl low ↦ none index low
  | inr past ↦ none_at trace index (λ held. let within = call_within trace index (stands_as_call trace index held.0 held.1) in omega arith)
])

no_earlier : (trace : Recording) (index : ℕ) (other : Fault) → IsFloorFaultAt index other → Earlier trace other (Early index) → ⊥
no_earlier trace index (Early call) among earlier = let h = lower_number 5 call 9 index 9 earlier among in absurd (omega arith)
no_earlier trace index other among earlier = absurd among

-- a call below its floor, after calls that are not below theirs
pub first_early : (trace : Recording) (index : ℕ) (found : Option ℕ) (entries : ℕ) → ((lower : ℕ) → lower < index → HasNone (IsFloorFaultAt lower) trace)
    → Finds (StandsAfter trace index) found → found ≡ Some entries → entries < floor trace index → IsFirstAmong IsFloorFault trace (Early index)
first_early trace index found entries none finds is low = first_of_all IsFloorFaultAt 5 trace (floor_ranks trace) index (Early index) none (record {
  is_among = refl;
  holds = (entries, subst (Finds (StandsAfter trace index)) is finds, low);
  none_earlier = λ other among holds earlier. no_earlier trace index other among earlier;
})

-- ---- the first early call, as far as known

pub early_at_other : (trace : Recording) (index : ℕ) (early : Option ℕ) → HasNone (IsFloorFaultAt index) trace → FindsEarly trace index early
    → FindsEarly trace (index + 1) early
early_at_other trace index None none found = more_of IsFloorFaultAt trace index found none
early_at_other trace index (Some call) none found = found

pub early_kept : (trace : Recording) (index : ℕ) (early : Option ℕ) → is_some early ≡ true → FindsEarly trace index early
    → FindsEarly trace (index + 1) early
early_kept trace index None some found = absurd (false≢true some)
early_kept trace index (Some call) some found = found

none_early : (trace : Recording) (index : ℕ) (early : Option ℕ) → is_some early ≡ false → FindsEarly trace index early → FindsEarly trace index None
none_early trace index None none found = found
none_early trace index (Some call) none found = absurd (false≢true (sym none))

pub early_here : (trace : Recording) (index entries : ℕ) (early : Option ℕ) → is_some early ≡ false → StandsAfter trace index entries
    → entries < floor trace index → FindsEarly trace index early → FindsEarly trace (index + 1) (Some index)
early_here trace index entries early none stands low found =
    first_early trace index (Some entries) entries (none_early trace index early none found) stands refl low

pub not_early_here : (trace : Recording) (index entries : ℕ) (early : Option ℕ) → HasCleanLog trace → is_some early ≡ false
    → StandsAfter trace index entries → floor trace index ≤ entries → FindsEarly trace index early → FindsEarly trace (index + 1) None
not_early_here trace index entries early clean none stands kept found =
    more_of IsFloorFaultAt trace index (none_early trace index early none found)
    (none_at_call trace index (Some entries) clean stands (λ other is. let same : entries ≡ other = cc in omega arith))
