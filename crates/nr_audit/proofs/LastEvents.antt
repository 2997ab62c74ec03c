-- The last event of a call.
use Rattle.std.proofs.Common.{◌≡◌, ℕ, ◌+◌, ◌<◌, ◌≤◌, List, length, get_or, set, Some, None, Option, refl, sym, ap, subst, ◌∙◌, inl, inr, arith}
use Rattle.std.proofs.Common.{get_or-set_other, get_or-set_same, below_more}
use Rattle.std.specs.Prelude.{All, slice_get, IsSome, option_and_then}
use Rattle.std.specs.Option.{option_map_or}
use Rattle.std.proofs.lemmas.Bool.{false≢true}
use Rattle.std.proofs.lemmas.List.Elements.{Contains-get_or}
use Rattle.nr_trace.specs.Recording.{Recording}
use Rattle.nr_trace.specs.Calls.{made_by, Response, reply_in, IsCall}
use Rattle.nr_trace.specs.Laws.{HasCleanLog}
use Rattle.nr_trace.specs.Orders.{recorded_order}
use Rattle.nr_trace.specs.declared.recordings.event.Event.{Event}
use Rattle.nr_trace.specs.declared.recordings.event.Event.TheVariants.{Reply}
use Rattle.nr_trace.proofs.LawsOfCalls.{update_is_call, read_is_call, reply_that_answers}
use Rattle.nr_trace.proofs.LawsOfLists.{in_from_Contains}
use Rattle.nr_trace.proofs.LawsOfOrder.{member_stands}
use Rattle.nr_audit.specs.inside.LastEvents.{IsLastEvent}
use Rattle.nr_audit.specs.inside.Tables.{AreReplies, IsReplyBelow}
use Rattle.nr_audit.proofs.RepliesByTable.{replied}

-- the members of the recorded order are calls
pub all_calls : (trace : Recording) → HasCleanLog trace → All (IsCall trace) (recorded_order trace)
all_calls trace clean k d lt =
    let call = get_or (recorded_order trace) k d in
    let stands = member_stands trace call clean (in_from_Contains call (recorded_order trace) (Contains-get_or (recorded_order trace) k d lt)) in
    elim stands.2 [
      | inl update ↦ update_is_call trace call update.0
      | inr read ↦ read_is_call trace call read.0
    ]

-- a call is no reply
call_or_reply : (o : Option Event) → IsSome (option_and_then made_by o) → option_and_then reply_in o ≡ None
call_or_reply (Some (Reply call at answer)) h = absurd (false≢true h)
call_or_reply _ h = refl

-- the reply that the table names
pub last_by_reply : (trace : Recording) (table : List (Option ℕ)) (call index : ℕ) → AreReplies trace table → call < length table
    → get_or table call None ≡ Some index → IsLastEvent trace call index
last_by_reply trace table call index are within e =
    let own = subst (λ o. IsReplyBelow trace (length trace.events) call o) e (are.each call within) in
    let named = reply_that_answers trace index call own.1 in
    record {
      within = own.0;
      names = ap (λ o. option_map_or (λ (r : Response). r.call) o index) named.1 ∙ named.2;
      only_reply = sym (replied trace call (Some index) own);
    }

-- the call itself
pub last_by_itself : (trace : Recording) (table : List (Option ℕ)) (call : ℕ) → AreReplies trace table → call < length table
    → IsCall trace call → get_or table call None ≡ None → IsLastEvent trace call call
last_by_itself trace table call are within is_call e =
    let none = call_or_reply (slice_get trace.events call) is_call in
    let own = subst (λ o. IsReplyBelow trace (length trace.events) call o) e (are.each call within) in
    record {
      within = omega (arith, are.one_each);
      names = ap (λ o. option_map_or (λ (r : Response). r.call) o call) none;
      only_reply = none ∙ sym (replied trace call None own);
    }

-- one more call is put in the place of its event
pub put_more : (calls order : List ℕ) (k call : ℕ) → k < length order → ((j : ℕ) → j < k → get_or order j 0 ≡ get_or calls j 0) → call ≡ get_or calls k 0
    → (j : ℕ) → j < k + 1 → get_or (set order k call) j 0 ≡ get_or calls j 0
put_more calls order k call within put is = below_more _ k (λ j lt. get_or-set_other order k j call 0 (λ same. omega arith) ∙ put j lt)
    (get_or-set_same order k call 0 within ∙ is)

pub left_more : (order old : List ℕ) (k call : ℕ) → ((j : ℕ) → k ≤ j → get_or order j 0 ≡ get_or old j 0) → (j : ℕ) → k + 1 ≤ j
    → get_or (set order k call) j 0 ≡ get_or old j 0
left_more order old k call left j le = get_or-set_other order k j call 0 (λ same. omega arith) ∙ left j (omega arith)
