-- The reply to a call, by the table of replies.
use Rattle.std.proofs.Common.{◌≡◌, ℕ, zero, suc, true, false, List, [], ◌∷◌, length, Some, None, Option, refl, sym, ap, subst, ◌∙◌}
use Rattle.std.proofs.Common.{arith}
use Rattle.std.specs.Prelude.{slice_get, filter_map, option_and_then, ◌==◌, if◌then◌else◌, is_some}
use Rattle.std.specs.List.{cons_option}
use Rattle.std.proofs.lemmas.Option.{slice_get_within}
use Rattle.nr_trace.specs.Recording.{Recording}
use Rattle.nr_trace.specs.Calls.{Response, reply_in, reply_of, reply_to}
use Rattle.nr_trace.specs.declared.recordings.event.Event.{Event}
use Rattle.std.proofs.lemmas.Bool.{eq-eqb, cond-true, false≢true}
use Rattle.std.specs.Prelude.{option_map}
use Rattle.nr_trace.specs.Calls.{Invocation, request_in, read_address, address_of, call_of, IsRead, IsUpdate}
use Rattle.nr_trace.proofs.LawsOfCalls.{not_both, reply_in_event, reply_that_answers}
use Rattle.nr_audit.specs.inside.Tables.{IsReplyBelow}
use Rattle.nr_audit.specs.inside.Replies.{position_of, entries_seen}

-- the first thing that is given, where just one is
pub only_given : {X Y : Type 0} (h : X → Option Y) (xs : List X) (i : ℕ) (x : X) (y : Y) → slice_get xs i ≡ Some x → h x ≡ Some y
    → ((k : ℕ) (z : X) (w : Y) → slice_get xs k ≡ Some z → h z ≡ Some w → k ≡ i) → slice_get (filter_map h xs) 0 ≡ Some y
only_given h [] i x y at gives only = absurd (cc)
only_given h (e ∷ es) zero x y at gives only =
    let same : e ≡ x = cc in
    subst (λ o. slice_get (cons_option o (filter_map h es)) 0 ≡ Some y) (sym (ap h same ∙ gives)) refl
only_given h (e ∷ es) (suc i) x y at gives only =
    skip (h e) refl (only_given h es i x y at gives (λ k z w is given. let later = only (suc k) z w is given in omega arith)) where
      skip : (o : Option _) → o ≡ h e → slice_get (filter_map h es) 0 ≡ Some y → slice_get (cons_option o (filter_map h es)) 0 ≡ Some y
      skip None told rest = rest
      skip (Some w) told rest = absurd (let first = only 0 e w refl (sym told) in omega arith)

pub none_given : {X Y : Type 0} (h : X → Option Y) (xs : List X) → ((k : ℕ) (z : X) (w : Y) → slice_get xs k ≡ Some z → h z ≡ Some w → ⊥)
    → slice_get (filter_map h xs) 0 ≡ None
none_given h [] none = refl
none_given h (e ∷ es) none = skip (h e) refl (none_given h es (λ k z w is given. none (suc k) z w is given)) where
  skip : (o : Option _) → o ≡ h e → slice_get (filter_map h es) 0 ≡ None → slice_get (cons_option o (filter_map h es)) 0 ≡ None
  skip None told rest = rest
  skip (Some w) told rest = absurd (none 0 e w refl (sym told))

-- what an event says of a call
abbrev says : ℕ → Event → Option Response
says call event = option_and_then (λ (reply : Response). if reply.call == call then Some reply else None) (reply_in event)

-- the reply to a call is the event that the table names
pub replied : (trace : Recording) (call : ℕ) (o : Option ℕ) → IsReplyBelow trace (length trace.events) call o
    → reply_to trace call ≡ option_and_then (λ index. reply_of trace index) o
replied trace call None h = none_given (says call) trace.events (λ k event reply is given.
    h k (slice_get_within trace.events k event is)
    (ap (λ (p : Option Event). is_some (option_and_then (λ (reply : Response). if reply.call == call then Some reply else None) (option_and_then reply_in p)))
    is ∙ ap is_some given))
replied trace call (Some index) h =
    let named = reply_that_answers trace index call h.1 in
    let event = reply_in_event (slice_get trace.events index) named.0 named.1 in
    let gives : says call event.0 ≡ Some named.0 =
    ap (λ o. option_and_then (λ (reply : Response). if reply.call == call then Some reply else None) o) event.2
    ∙ cond-true (named.0.call == call) (Some named.0) None (eq-eqb named.0.call call named.2) in
    only_given (says call) trace.events index event.0 named.0 event.1 gives (λ k other reply is given.
    h.2 k (slice_get_within trace.events k other is)
    (ap (λ (p : Option Event). is_some (option_and_then (λ (reply : Response). if reply.call == call then Some reply else None) (option_and_then reply_in p)))
    is ∙ ap is_some given)) ∙ sym named.1

seen_of : (address seen : Option ℕ) → is_some address ≡ true → seen ≡ option_and_then (λ (a : ℕ). seen) address
seen_of None seen read = absurd (false≢true read)
seen_of (Some a) seen read = refl

-- how many entries a read saw, by the reply to it
pub seen_by_read : (trace : Recording) (call : ℕ) → IsRead trace call → position_of trace call ≡ entries_seen trace call
seen_by_read trace call read = seen_of (address_of trace call) (position_of trace call) read

not_seen : (address : Option ℕ) (response : Option Response) → is_some address ≡ false
    → ◌≡◌ {A = Option ℕ} None (option_and_then (λ (a : ℕ). option_map (λ (r : Response). r.at) response) address)
not_seen None response none = refl
not_seen (Some a) response none = absurd (false≢true (sym none))

pub not_seen_by : (trace : Recording) (call : ℕ) → is_some (address_of trace call) ≡ false → None ≡ entries_seen trace call
not_seen_by trace call none = not_seen (address_of trace call) (reply_to trace call) none

seen_of_none : (address : Option ℕ) (response : Option Response) → (is_some address ≡ true → ⊥)
    → ◌≡◌ {A = Option ℕ} (option_and_then (λ (a : ℕ). option_map (λ (r : Response). r.at) response) address) None
seen_of_none None response none = refl
seen_of_none (Some a) response none = absurd (none refl)

-- an update saw nothing, and neither did what is no call
pub update_saw_nothing : (trace : Recording) (call : ℕ) → IsUpdate trace call → entries_seen trace call ≡ None
update_saw_nothing trace call update = seen_of_none (address_of trace call) (reply_to trace call) (not_both trace call update)

pub no_call_saw_nothing : (trace : Recording) (call : ℕ) → call_of trace call ≡ None → entries_seen trace call ≡ None
no_call_saw_nothing trace call none = seen_of_none (address_of trace call) (reply_to trace call)
    (λ read. false≢true (sym (ap (λ o. is_some (option_and_then read_address (option_and_then (λ (made : Invocation). request_in made.asked) o))) none)
    ∙ read))
