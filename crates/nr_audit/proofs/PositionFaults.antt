-- The position that a reply gives: the place of an update, or the entries that a read saw.
use Rattle.std.proofs.Common.{◌≡◌, ◌≢◌, ℕ, ◌<◌, [], ◌∷◌, length, Some, None, refl, ap, subst, inl, inr, arith}
use Rattle.std.specs.Prelude.{slice_get}
use Rattle.std.proofs.lemmas.Bool.{cases_lt}
use Rattle.vs_types.specs.Space.{no_pages}
use Rattle.nr_trace.specs.Recording.{Recording}
use Rattle.nr_trace.specs.Calls.{IsUpdate, IsRead, Response, reply_of}
use Rattle.nr_trace.specs.Faults.{Earlier, IsReplyWith}
use Rattle.nr_trace.specs.declared.refusals.fault.Fault.{Fault}
use Rattle.nr_trace.specs.declared.refusals.fault.Fault.TheVariants.{NotPlaced, PastLog}
use Rattle.nr_trace.specs.declared.recordings.event.Event.TheVariants.{Reply}
use Rattle.vs_types.specs.declared.requests.answer.Answer.{Answer}
use Rattle.nr_audit.specs.inside.Search.{HasFaultOn, HasNone, IsFirstAmong}
use Rattle.nr_audit.specs.inside.Passes.{IsPositionFaultAt, IsPositionFault}
use Rattle.nr_audit.proofs.Ranks.{IsRanked, none_of_all, first_of_all, lower_number}
use Rattle.nr_trace.proofs.LawsOfCalls.{reply_here}
use Rattle.nr_audit.proofs.CallsAndReplies.{no_reply_past, no_reply_with}

none_at : (trace : Recording) (index : ℕ) → (HasFaultOn no_pages trace (NotPlaced index) → ⊥) → (HasFaultOn no_pages trace (PastLog index) → ⊥)
    → HasNone (IsPositionFaultAt index) trace
none_at trace index a b (NotPlaced j) among holds = a (subst (λ k. HasFaultOn no_pages trace (NotPlaced k)) among holds)
none_at trace index a b (PastLog j) among holds = b (subst (λ k. HasFaultOn no_pages trace (PastLog k)) among holds)
none_at trace index a b fault among holds = absurd among

pub position_ranks : (trace : Recording) → IsRanked IsPositionFaultAt 4 trace
position_ranks trace index (NotPlaced event) among = (7, ap (λ i. 4 ∷ i ∷ 7 ∷ []) among)
position_ranks trace index (PastLog event) among = (8, ap (λ i. 4 ∷ i ∷ 8 ∷ []) among)
position_ranks trace index fault among = absurd among

-- the first fault of an event, after events that have none, is the first of all positions
pub first_position_fault : (trace : Recording) (index : ℕ) (fault : Fault) → ((lower : ℕ) → lower < index → HasNone (IsPositionFaultAt lower) trace)
    → IsFirstAmong (IsPositionFaultAt index) trace fault → IsFirstAmong IsPositionFault trace fault
first_position_fault trace = first_of_all IsPositionFaultAt 4 trace (position_ranks trace)

-- at what is no reply no position has a fault
pub none_without_reply : (trace : Recording) (index : ℕ) → reply_of trace index ≡ None → HasNone (IsPositionFaultAt index) trace
none_without_reply trace index none = none_at trace index (no_reply_with trace index _ none) (no_reply_with trace index _ none)

-- where no event has a fault, none holds
pub no_position_fault : (trace : Recording) → ((lower : ℕ) → lower < length trace.events → HasNone (IsPositionFaultAt lower) trace)
    → HasNone IsPositionFault trace
no_position_fault trace none = none_of_all IsPositionFaultAt trace (λ index. elim (cases_lt index (length trace.events)) [
  | inl low ↦ none index low
  | inr past ↦ none_without_reply trace index (no_reply_past trace index past)
])

placed_is_first : (trace : Recording) (index : ℕ) (other : Fault) → IsPositionFaultAt index other → Earlier trace other (NotPlaced index) → ⊥
placed_is_first trace index (NotPlaced j) among earlier = let h = lower_number 4 j 7 index 7 earlier among in absurd (omega arith)
placed_is_first trace index (PastLog j) among earlier = let h = lower_number 4 j 8 index 7 earlier among in absurd (omega arith)
placed_is_first trace index fault among earlier = absurd among

past_is_first : (trace : Recording) (index : ℕ) (other : Fault) → (HasFaultOn no_pages trace (NotPlaced index) → ⊥)
    → IsPositionFaultAt index other → HasFaultOn no_pages trace other
    → Earlier trace other (PastLog index) → ⊥
past_is_first trace index (NotPlaced j) none among holds earlier = none (subst (λ k. HasFaultOn no_pages trace (NotPlaced k)) among holds)
past_is_first trace index (PastLog j) none among holds earlier = let h = lower_number 4 j 8 index 8 earlier among in absurd (omega arith)
past_is_first trace index fault none among holds earlier = absurd among

module _ (trace : Recording) (index call at : ℕ) (answer : Answer) (is : slice_get trace.events index ≡ Some (Reply call at answer)) where
  mine : reply_of trace index ≡ Some (record { call = call; at = at; answer = answer })
  mine = reply_here trace index call at answer is

  it_is : (P : Response → Type 0) → IsReplyWith trace index P → P (record { call = call; at = at; answer = answer })
  it_is P held = let own = mine in let told = held.1 in let same : held.0 ≡ record { call = call; at = at; answer = answer } = cc in subst P same held.2

  pub first_not_placed : IsUpdate trace call × (slice_get trace.log at ≢ Some call) → IsFirstAmong (IsPositionFaultAt index) trace (NotPlaced index)
  first_not_placed misplaced = record {
    is_among = refl;
    holds = (record { call = call; at = at; answer = answer }, mine, misplaced);
    none_earlier = λ other among held earlier. placed_is_first trace index other among earlier;
  }

  not_misplaced : (IsUpdate trace call × (slice_get trace.log at ≢ Some call) → ⊥) → HasFaultOn no_pages trace (NotPlaced index) → ⊥
  not_misplaced none held = none (it_is (λ reply. IsUpdate trace reply.call × (slice_get trace.log reply.at ≢ Some reply.call)) held)

  pub first_past_log : (IsUpdate trace call × (slice_get trace.log at ≢ Some call) → ⊥) → IsRead trace call × (length trace.log < at)
      → IsFirstAmong (IsPositionFaultAt index) trace (PastLog index)
  first_past_log none past = record {
    is_among = refl;
    holds = (record { call = call; at = at; answer = answer }, mine, past);
    none_earlier = λ other among held earlier. past_is_first trace index other (not_misplaced none) among held earlier;
  }

  pub none_at_reply : (IsUpdate trace call × (slice_get trace.log at ≢ Some call) → ⊥) → (IsRead trace call × (length trace.log < at) → ⊥)
      → HasNone (IsPositionFaultAt index) trace
  none_at_reply placed within = none_at trace index (not_misplaced placed)
      (λ held. within (it_is (λ reply. IsRead trace reply.call × (length trace.log < reply.at)) held))
