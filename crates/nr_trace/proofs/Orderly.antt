-- Recordings whose replies answer earlier calls and whose log has their own calls, and two of them as one.
use Rattle.std.proofs.Common.{◌≡◌, ℕ, zero, suc, ◌+◌, ◌<◌, ◌⊎◌, inl, inr, List, [], ◌∷◌, length, slice_get, Some, ap, sym, ◌∙◌, subst, arith}
use Rattle.vs_types.specs.Space.{Space}
use Rattle.nr_trace.specs.Recording.{Recording}
use Rattle.nr_trace.specs.Calls.{Response, reply_of}
use Rattle.nr_trace.specs.Laws.{HasCleanLog}
use Rattle.nr_trace.specs.Orders.{space_from}
use Rattle.nr_trace.proofs.LawsOfCalls.{call_within, placed_is_update, reply_behind_call, update_is_call}
use Rattle.nr_trace.proofs.LawsOfLists.{In}
use Rattle.nr_trace.specs.Joined.{joined_traces}
use Rattle.nr_trace.specs.Run.{IsOrderly}
use Rattle.nr_trace.proofs.Lengths.{many_events}
use Rattle.nr_trace.proofs.Lists.{split_at}
use Rattle.nr_trace.proofs.Orders.{AreOf, space_both}
use Rattle.nr_trace.proofs.Parts.{reply_left, reply_from_right}
use Rattle.nr_trace.proofs.Places.{placed_in, PlacedRight}

pub clean_is_orderly : (trace : Recording) → HasCleanLog trace → IsOrderly trace
clean_is_orderly trace clean = record {
  earlier = λ index reply is. (reply_behind_call trace index reply clean is).0;
  own = λ place call is. call_within trace call (update_is_call trace call (placed_is_update trace place call clean is));
}

index_of : {X : Type 0} (xs : List X) (x : X) → In x xs → (k : ℕ) × (slice_get xs k ≡ Some x)
index_of [] x i = absurd i
index_of (y ∷ ys) x (inl same) = (zero, ap Some same)
index_of (y ∷ ys) x (inr later) = let (k, is) = index_of ys x later in (suc k, is)

-- the calls of the log are of the recording
pub own_calls : (trace : Recording) → IsOrderly trace → AreOf trace trace.log
own_calls trace orderly call i = let (place, is) = index_of trace.log call i in orderly.own place call is

module _ (first second : Recording) (before : IsOrderly first) (behind : IsOrderly second) where
  abbrev whole : Recording
  whole = joined_traces first second

  earlier_both : (index : ℕ) (reply : Response) → reply_of whole index ≡ Some reply → reply.call < index
  earlier_both index reply is = by_side (split_at (length first.events) index) where
    by_side : (index < length first.events) ⊎ ((k : ℕ) × (index ≡ length first.events + k)) → reply.call < index
    by_side (inl l) = before.earlier index reply (sym (reply_left first second index l) ∙ is)
    by_side (inr (k, e)) =
        let (own, own_is, same) = reply_from_right first second k reply (subst (λ (i : ℕ). reply_of whole i ≡ Some reply) e is) in
        let lower : own.call < k = behind.earlier k own own_is in
        let number : length first.events + own.call ≡ reply.call = ap (λ (r : Response). r.call) same in
        omega arith

  own_both : (place call : ℕ) → slice_get whole.log place ≡ Some call → call < length whole.events
  own_both place call is = by_side (placed_in first second place call is) where
    by_side : (slice_get first.log place ≡ Some call) ⊎ PlacedRight first second place call → call < length whole.events
    by_side (inl here) = let l = before.own place call here in let all = many_events first second in omega (arith, l, all)
    by_side (inr (at, e, own, own_is, same)) = let l = behind.own at own own_is in let all = many_events first second in omega (arith, l, all, same)

  pub orderly_both : IsOrderly whole
  orderly_both = record { earlier = earlier_both; own = own_both }

-- the space after both
pub space_of_both : (start : Space) (first second : Recording) → second.layout ≡ first.layout → IsOrderly first
    → space_from start (joined_traces first second) (joined_traces first second).log
    ≡ space_from (space_from start first first.log) second second.log
space_of_both start first second same orderly = space_both start first second first.log second.log same (own_calls first orderly)
