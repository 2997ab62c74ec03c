-- The faults of the log, and what its first places say: the place of each call.
use Rattle.std.proofs.Common.{◌≡◌, ◌≢◌, ℕ, ◌+◌, ◌<◌, ◌≤◌, List, [], ◌∷◌, length, replicate, set, get_or, Some, None, Option, refl, sym, ap, subst, ◌∙◌, inl}
use Rattle.std.proofs.Common.{inr, arith, get_or-set_other, get_or-set_same}
use Rattle.std.specs.Prelude.{slice_get, is_some, option_and_then}
use Rattle.std.proofs.lemmas.List.{length-set, length-replicate}
use Rattle.std.proofs.lemmas.Bool.{cases_lt, cases_eq, false≢true}
use Rattle.std.proofs.lemmas.Option.{slice_get_past}
use Rattle.vs_types.specs.Space.{no_pages}
use Rattle.nr_trace.specs.Recording.{Recording}
use Rattle.nr_trace.specs.Calls.{Invocation, made_by, request_in, operation_in, IsUpdate}
use Rattle.nr_trace.specs.Faults.{Earlier, HasPlaced}
use Rattle.nr_trace.specs.declared.refusals.fault.Fault.{Fault}
use Rattle.nr_trace.specs.declared.refusals.fault.Fault.TheVariants.{NotAnUpdate, PlacedTwice}
use Rattle.nr_audit.specs.inside.Search.{HasFaultOn, HasNone, IsFirstAmong}
use Rattle.nr_audit.specs.inside.Passes.{IsLogFaultAt, IsLogFault}
use Rattle.nr_audit.specs.inside.Tables.{IsPlaceBelow, ArePlaces}
use Rattle.nr_audit.proofs.Ranks.{IsRanked, none_of_all, first_of_all, lower_number}
use Rattle.nr_audit.proofs.CallFaults.{nothing}

pub record ArePlacesBelow (trace : Recording) (end : ℕ) (table : List (Option ℕ)) : Type 0 where
  pub one_each : length table ≡ length trace.events
  pub each : (call : ℕ) → call < length table → IsPlaceBelow trace end call (get_or table call None)

pub logged_at_start : (trace : Recording) (table : List (Option ℕ)) → table ≡ replicate (length trace.events) None → ArePlacesBelow trace 0 table
logged_at_start trace table e = subst (λ (t : List (Option ℕ)). ArePlacesBelow trace 0 t) (sym e) (record {
  one_each = length-replicate {A = Option ℕ} (length trace.events) None;
  each = λ call lt. subst (λ o. IsPlaceBelow trace 0 call o) (sym (nothing (length trace.events) call)) (λ place lt. absurd (omega arith));
})

placed : (trace : Recording) (end call : ℕ) (o : Option ℕ) → o ≢ None → IsPlaceBelow trace end call o
    → (place : ℕ) × (place < end) × (slice_get trace.log place ≡ Some call)
placed trace end call None some h = absurd (some refl)
placed trace end call (Some place) some h = (place, h.0, h.1)

unplaced : (trace : Recording) (end call : ℕ) (o : Option ℕ) → o ≡ None → IsPlaceBelow trace end call o → (place : ℕ) → place < end
    → slice_get trace.log place ≡ Some call → ⊥
unplaced trace end call None e h = h
unplaced trace end call (Some place) e h = absurd (cc)

place_stays : (trace : Recording) (end call : ℕ) (o : Option ℕ) → (slice_get trace.log end ≡ Some call → ⊥) → IsPlaceBelow trace end call o
    → IsPlaceBelow trace (end + 1) call o
place_stays trace end call None other h = λ place lt has. elim (cases_lt place end) [
  | inl low ↦ h place low has
  | inr same ↦ other (subst (λ i. slice_get trace.log i ≡ Some call) (omega arith) has)
]
place_stays trace end call (Some own) other h = (
  omega arith,
  h.1,
  λ place lt has. elim (cases_lt place end) [
    | inl low ↦ h.2 place low has
    | inr same ↦ absurd (other (subst (λ i. slice_get trace.log i ≡ Some call) (omega arith) has))
  ],
)

none_at : (trace : Recording) (place : ℕ) → (HasFaultOn no_pages trace (NotAnUpdate place) → ⊥) → (HasFaultOn no_pages trace (PlacedTwice place) → ⊥)
    → HasNone (IsLogFaultAt place) trace
none_at trace place a b (NotAnUpdate j) among holds = a (subst (λ k. HasFaultOn no_pages trace (NotAnUpdate k)) among holds)
none_at trace place a b (PlacedTwice j) among holds = b (subst (λ k. HasFaultOn no_pages trace (PlacedTwice k)) among holds)
none_at trace place a b fault among holds = absurd among

pub log_ranks : (trace : Recording) → IsRanked IsLogFaultAt 3 trace
log_ranks trace place (NotAnUpdate at) among = (5, ap (λ i. 3 ∷ i ∷ 5 ∷ []) among)
log_ranks trace place (PlacedTwice at) among = (6, ap (λ i. 3 ∷ i ∷ 6 ∷ []) among)
log_ranks trace place fault among = absurd among

-- the first fault of a place, after places that have none, is the first of the log
pub first_log_fault : (trace : Recording) (place : ℕ) (fault : Fault) → ((lower : ℕ) → lower < place → HasNone (IsLogFaultAt lower) trace)
    → IsFirstAmong (IsLogFaultAt place) trace fault → IsFirstAmong IsLogFault trace fault
first_log_fault trace = first_of_all IsLogFaultAt 3 trace (log_ranks trace)

nothing_placed : (trace : Recording) (place : ℕ) (P : ℕ → Type 0) → length trace.log ≤ place → HasPlaced trace place P → ⊥
nothing_placed trace place P past has = let none = slice_get_past trace.log place past in let told = has.1 in cc

-- where no place has a fault, none holds
pub no_log_fault : (trace : Recording) → ((lower : ℕ) → lower < length trace.log → HasNone (IsLogFaultAt lower) trace) → HasNone IsLogFault trace
no_log_fault trace none = none_of_all IsLogFaultAt trace (λ place. elim (cases_lt place (length trace.log)) [
  | inl low ↦ none place low
  | inr past ↦ none_at trace place (nothing_placed trace place _ past) (nothing_placed trace place _ past)
])

pub places_at_end : (trace : Recording) (table : List (Option ℕ)) → ArePlacesBelow trace (length trace.log) table → ArePlaces trace table
places_at_end trace table logged = record { one_each = logged.one_each; each = λ call within update. logged.each call within }

-- the row of what is no update can change
pub places_kept : (trace : Recording) (table : List (Option ℕ)) (row : ℕ) (named : Option ℕ) → (IsUpdate trace row → ⊥) → ArePlaces trace table
    → ArePlaces trace (set table row named)
places_kept trace table row named no_update places = record {
  one_each = length-set table row named ∙ places.one_each;
  each = λ call within update.
      subst (λ o. IsPlaceBelow trace (length trace.log) call o)
      (sym (get_or-set_other table row call named None (λ same. no_update (subst (λ c. IsUpdate trace c) same update))))
      (places.each call (omega (arith, length-set table row named)) update);
}

no_update_is_first : (trace : Recording) (place : ℕ) (other : Fault) → IsLogFaultAt place other → Earlier trace other (NotAnUpdate place) → ⊥
no_update_is_first trace place (NotAnUpdate j) among earlier = let h = lower_number 3 j 5 place 5 earlier among in absurd (omega arith)
no_update_is_first trace place (PlacedTwice j) among earlier = let h = lower_number 3 j 6 place 5 earlier among in absurd (omega arith)
no_update_is_first trace place fault among earlier = absurd among

twice_is_first : (trace : Recording) (place : ℕ) (other : Fault) → (HasFaultOn no_pages trace (NotAnUpdate place) → ⊥)
    → IsLogFaultAt place other → HasFaultOn no_pages trace other
    → Earlier trace other (PlacedTwice place) → ⊥
twice_is_first trace place (NotAnUpdate j) update among holds earlier = update (subst (λ k. HasFaultOn no_pages trace (NotAnUpdate k)) among holds)
twice_is_first trace place (PlacedTwice j) update among holds earlier = let h = lower_number 3 j 6 place 6 earlier among in absurd (omega arith)
twice_is_first trace place fault update among holds earlier = absurd among

-- an update has a number below that of the events
pub update_within : (trace : Recording) (call : ℕ) → IsUpdate trace call → call < length trace.events
update_within trace call update = elim (cases_lt call (length trace.events)) [
  | inl low ↦ low
  | inr past ↦ absurd (false≢true
      (sym (ap is_some (ap (λ o. option_and_then operation_in (option_and_then (λ (made : Invocation). request_in made.asked) (option_and_then made_by o)))
      (slice_get_past trace.events call past))) ∙ update))
]

module _ (trace : Recording) (end call : ℕ) (table : List (Option ℕ)) (logged : ArePlacesBelow trace end table)
    (has : slice_get trace.log end ≡ Some call) where
  it_is : (P : ℕ → Type 0) → HasPlaced trace end P → P call
  it_is P held = let told = held.1 in let same : held.0 ≡ call = cc in subst P same held.2

  -- what is no update
  pub first_no_update : (IsUpdate trace call → ⊥) → IsFirstAmong (IsLogFaultAt end) trace (NotAnUpdate end)
  first_no_update none = record {
    is_among = refl;
    holds = (call, has, none);
    none_earlier = λ other among held earlier. no_update_is_first trace end other among earlier;
  }

  -- an update of an earlier place
  pub first_placed_twice : IsUpdate trace call → get_or table call None ≢ None → IsFirstAmong (IsLogFaultAt end) trace (PlacedTwice end)
  first_placed_twice update some = record {
    is_among = refl;
    holds = (
      call,
      has,
      placed trace end call (get_or table call None) some
          (logged.each call (omega (arith, update_within trace call update, logged.one_each))),
    );
    none_earlier = λ other among held earlier. twice_is_first trace end other (λ held. it_is (λ c. IsUpdate trace c → ⊥) held update) among held earlier;
  }

  pub none_at_place : IsUpdate trace call → get_or table call None ≡ None → HasNone (IsLogFaultAt end) trace
  none_at_place update none = none_at trace end
      (λ held. it_is (λ c. IsUpdate trace c → ⊥) held update)
      (λ held.
      let earlier = it_is (λ c. (earlier : ℕ) × (earlier < end) × (slice_get trace.log earlier ≡ Some c)) held in
      unplaced trace end call (get_or table call None) none
      (logged.each call (omega (arith, update_within trace call update, logged.one_each))) earlier.0 earlier.1 earlier.2)

  pub logged_after : IsUpdate trace call → get_or table call None ≡ None → ArePlacesBelow trace (end + 1) (set table call (Some end))
  logged_after update none =
      let within : call < length table = omega (arith, update_within trace call update, logged.one_each) in
      record {
        one_each = length-set table call (Some end) ∙ logged.one_each;
        each = λ other lt. elim (cases_eq other call) [
          | inl same ↦
              let here : get_or (set table call (Some end)) other None ≡ Some end =
              subst (λ c. get_or (set table call (Some end)) c None ≡ Some end) (sym same) (get_or-set_same table call (Some end) None within) in
              subst (λ o. IsPlaceBelow trace (end + 1) other o) (sym here) (
                omega arith,
                has ∙ ap (λ c. Some c) (sym same),
                λ place below at. elim (cases_lt place end) [
                  | inl before ↦ absurd (unplaced trace end call (get_or table call None) none (logged.each call within) place before (at
                      ∙ ap (λ c. Some c) same))
                  | inr now ↦ omega arith
                ],
              )
          | inr apart ↦
              subst (λ o. IsPlaceBelow trace (end + 1) other o) (sym (get_or-set_other table call other (Some end) None apart))
              (place_stays trace end other (get_or table other None) (λ at. apart (let told = has in cc))
              (logged.each other (omega (arith, length-set table call (Some end)))))
        ];
      }
