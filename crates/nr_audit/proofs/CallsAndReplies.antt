-- What an event is: a call or a reply.
use Rattle.std.proofs.Common.{◌≡◌, ◌≢◌, Bool, true, false, List, ℕ, ◌<◌, ◌≤◌, Some, None, Option, length, refl, sym, ap, subst, ◌∙◌, arith, get_or}
use Rattle.std.specs.Prelude.{slice_get, is_some, option_and_then, option_map, IfSome, IsSomeAnd}
use Rattle.std.proofs.lemmas.Bool.{false≢true}
use Rattle.std.proofs.lemmas.Option.{slice_get_past, slice_get-get_or}
use Rattle.std.proofs.lemmas.List.Elements.{All-get_or}
use Rattle.nr_trace.specs.Recording.{Recording, IsRecording, IsEvent}
use Rattle.nr_trace.specs.Calls.{Invocation, made_by, call_of, Response, reply_in, reply_of, Answers}
use Rattle.nr_trace.specs.Faults.{IsReplyWith}
use Rattle.nr_trace.specs.declared.recordings.event.Event.{Event}
use Rattle.nr_trace.proofs.LawsOfCalls.{read_event, reply_that_answers}
use Rattle.nr_trace.specs.declared.recordings.event.Event.TheVariants.{Call, Reply}
use Rattle.vs_types.specs.Config.{Layout}
use Rattle.nr_trace.specs.declared.formats.version.Version.{Version}
use Rattle.vs_types.specs.declared.requests.answer.Answer.{Answer}

-- an event that is no reply
pub no_reply_unless : (event : Event) → ((call at : ℕ) (answer : Answer) → event ≢ Reply call at answer) → reply_in event ≡ None
no_reply_unless (Reply call at answer) none = absurd (none call at answer refl)
no_reply_unless _ none = refl

pub no_reply_there : (trace : Recording) (i : ℕ) (event : Event) → slice_get trace.events i ≡ Some event → reply_in event ≡ None → reply_of trace i ≡ None
no_reply_there trace i event is none = ap (λ o. option_and_then reply_in o) is ∙ none

pub no_call_at_reply : (trace : Recording) (i call at : ℕ) (answer : Answer) → slice_get trace.events i ≡ Some (Reply call at answer) → call_of trace i ≡ None
no_call_at_reply trace i call at answer e = ap (λ o. option_and_then made_by o) e

pub no_call_past : (trace : Recording) (i : ℕ) → length trace.events ≤ i → call_of trace i ≡ None
no_call_past trace i past = ap (λ o. option_and_then made_by o) (slice_get_past trace.events i past)

pub no_reply_past : (trace : Recording) (i : ℕ) → length trace.events ≤ i → reply_of trace i ≡ None
no_reply_past trace i past = ap (λ o. option_and_then reply_in o) (slice_get_past trace.events i past)

-- the call at an index, as it is read from the events
pub read_call : (trace : Recording) (i : ℕ) (event : Event) → i < length trace.events → event ≡ get_or trace.events i event → call_of trace i ≡ made_by event
read_call trace i event lt e = ap (λ o. option_and_then made_by o) (slice_get-get_or trace.events i event lt ∙ ap (λ x. Some x) (sym e))

-- where no reply is there is none of any kind
pub no_reply_with : (trace : Recording) (i : ℕ) (P : Response → Type 0) → reply_of trace i ≡ None → IsReplyWith trace i P → ⊥
no_reply_with trace i P none h = let there = h.1 in cc

pub no_answer : (trace : Recording) (i call : ℕ) → reply_of trace i ≡ None → Answers trace i call → ⊥
no_answer trace i call none h = let there = (reply_that_answers trace i call h).1 in cc

-- a reply is to no other call than the one that it names
pub answers_only : (trace : Recording) (i call : ℕ) (reply : Response) → reply_of trace i ≡ Some reply → Answers trace i call → reply.call ≡ call
answers_only trace i call reply is h =
    let other = reply_that_answers trace i call h in
    let one = is in
    let two = other.1 in
    let named = other.2 in
    let same : reply ≡ other.0 = cc in
    ap (λ (r : Response). r.call) same ∙ named

-- what is read of a table
pub read_gone : (o p : Option ℕ) (told : Bool) → p ≡ o → is_some p ≡ told → told ≡ false → o ≡ None
read_gone None p told e f t = refl
read_gone (Some x) p told e f t = absurd (false≢true (sym t ∙ sym f ∙ ap is_some e))

pub read_some : (o p : Option ℕ) (told : Bool) → p ≡ o → is_some p ≡ told → told ≡ true → o ≢ None
read_some o p told e f t none = false≢true (sym (ap is_some (e ∙ none)) ∙ f ∙ t)

-- the call that an event is, where it is read that this is its thread
made_on : (event : Event) (thread : ℕ) → Some thread ≡ option_map (λ (made : Invocation). made.thread) (made_by event)
    → (made : Invocation) × (made_by event ≡ Some made) × (made.thread ≡ thread)
made_on (Call replica own asked) thread e = (record { replica = replica; thread = own; asked = asked }, refl, cc)
made_on (Reply call at answer) thread e = absurd (cc)

-- it is one of the layout
thread_in_layout : (version : Version) (layout : Layout) (event : Event) (thread : ℕ)
    → Some thread ≡ option_map (λ (made : Invocation). made.thread) (made_by event)
    → IsEvent version layout event → thread < layout.threads
thread_in_layout version layout (Call replica own asked) thread e is = let same : thread ≡ own = cc in omega (arith, is.1)
thread_in_layout version layout (Reply call at answer) thread e is = absurd (cc)

-- an event is a call or a reply
pub no_event : (event : Event) (thread : Option ℕ) → ((call at : ℕ) (answer : Answer) → event ≢ Reply call at answer)
    → thread ≡ option_map (λ (made : Invocation). made.thread) (made_by event) → ((own : ℕ) → thread ≢ Some own) → ⊥
no_event (Call replica own asked) thread none told gone = gone own told
no_event (Reply call at answer) thread none told gone = none call at answer refl

-- the event of an index is a call, a touch or a release on a thread
pub record IsCallOn (trace : Recording) (index thread : ℕ) : Type 0 where
  pub made : Invocation
  pub on : made.thread ≡ thread
  pub is : call_of trace index ≡ Some made
  pub no_reply : reply_of trace index ≡ None
  pub few : thread < trace.layout.threads

pub call_on : (trace : Recording) (events : List Event) (i : ℕ) (event shape : Event) (thread : ℕ) → IsRecording trace → events ≡ trace.events
    → i < length events → event ≡ get_or events i event → shape ≡ event → ((call at : ℕ) (answer : Answer) → shape ≢ Reply call at answer)
    → Some thread ≡ option_map (λ (made : Invocation). made.thread) (made_by shape) → IsCallOn trace i thread
call_on trace events i event shape thread ranged same lt read is none told =
    let own = made_on shape thread told in
    let there = read_event trace events i event shape same lt read (sym is) in
    let each = All-get_or (IsEvent trace.version trace.layout) trace.events i event (omega (arith, ap length same)) ranged.events in
    record {
      made = own.0;
      on = own.2;
      is = ap (λ o. option_and_then made_by o) there ∙ own.1;
      no_reply = no_reply_there trace i shape there (no_reply_unless shape none);
      few = thread_in_layout trace.version trace.layout shape thread told
          (subst (λ (e : Event). IsEvent trace.version trace.layout e) (sym (is ∙ read ∙ ap (λ (xs : List Event). get_or xs i event) same)) each);
    }

-- whether the event at an index is a call, as it is given
pub told_call : (trace : Recording) (events : List Event) (i : ℕ) (event : Event) (told : Bool) → events ≡ trace.events → i < length events
    → event ≡ get_or events i event → told ≡ is_some (made_by event) → told ≡ is_some (call_of trace i)
told_call trace events i event told same lt read is =
    is ∙ ap is_some (sym (read_call trace i event (omega (arith, ap length same)) (read ∙ ap (λ (xs : List Event). get_or xs i event) same)))

pub if_some : (read : Option ℕ) (P : ℕ → Type 0) → ((call : ℕ) → read ≡ Some call → P call) → IfSome read P
if_some None P h = tt
if_some (Some call) P h = h call refl

-- the call that a thread has open, as it is given
pub open_call : (read real : Option ℕ) (seen table : List (Option ℕ)) → read ≡ real → seen ≡ table → IsSomeAnd read (λ call. get_or seen call None ≡ None)
    → (call : ℕ) × (real ≡ Some call) × (get_or table call None ≡ None)
open_call None real seen table e s h = absurd h
open_call (Some call) real seen table e s h = (call, sym e, subst (λ (t : List (Option ℕ)). get_or t call None ≡ None) s h)

pub no_open_call : (read real : Option ℕ) (seen table : List (Option ℕ)) → read ≡ real → seen ≡ table
    → (IsSomeAnd read (λ call. get_or seen call None ≡ None) → ⊥) → (call : ℕ) → real ≡ Some call → get_or table call None ≢ None
no_open_call read real seen table e s h call is none =
    h (subst (λ o. IsSomeAnd o (λ call. get_or seen call None ≡ None)) (sym (e ∙ is)) (subst (λ (t : List (Option ℕ)). get_or t call None ≡ None) (sym s) none))
