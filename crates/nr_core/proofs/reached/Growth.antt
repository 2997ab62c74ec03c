-- What stays true while events, log, completed tail and replicas go on.
use Rattle.std.proofs.Common.{◌≡◌, ℕ, ◌+◌, ◌<◌, ◌≤◌, List, length, map, slice_get, Option, Some, None, option_and_then, refl, ap, sym, ◌∙◌, subst, arith}
use Rattle.std.specs.Option.{option_map_or}
use Rattle.std.proofs.lemmas.Option.{same_Some, none-some, slice_get_within}
use Rattle.vs_types.specs.Config.{Layout}
use Rattle.vs_types.specs.Space.{no_pages}
use Rattle.vs_types.specs.Step.{after_all}
use Rattle.vs_types.specs.declared.requests.answer.Answer.{Answer}
use Rattle.vs_types.specs.declared.log_entry.LogEntry.{LogEntry}
use Rattle.vs_types.specs.declared.requests.op.Action.{Action}
use Rattle.vs_types.specs.declared.requests.request.Query.{Query}
use Rattle.nr_trace.specs.Calls.{Invocation, made_by, operation_in, Response, reply_in}
use Rattle.nr_trace.specs.Orders.{answer_in}
use Rattle.nr_trace.specs.declared.recordings.event.Event.{Event}
use Rattle.nr_core.specs.State.{Replica}
use Rattle.nr_core.specs.declared.states.stage.Stage.{Stage}
use Rattle.nr_core.specs.declared.states.stage.Stage.TheVariants.{Called, Posted, Ready, Looked, HasRead}
use Rattle.nr_core.specs.inside.Reached.{request_made, At, call_at, reply_at, RepliesTo, reach, Behind, space_at, Shared, IsRight, FitsStage, AreReplies}
use Rattle.nr_core.proofs.reached.Places.{same_front}

-- ---- calls and replies by their events

pub then_parts : {A B : Type 0} (f : A → Option B) (o : Option A) (y : B) → option_and_then f o ≡ Some y → (x : A) × (o ≡ Some x) × (f x ≡ Some y)
then_parts f None y e = absurd (none-some y e)
then_parts f (Some x) y e = (x, refl, e)

pub then_from : {A B : Type 0} (f : A → Option B) (o : Option A) (x : A) (y : B) → o ≡ Some x → f x ≡ Some y → option_and_then f o ≡ Some y
then_from f o x y e h = ap (option_and_then f) e ∙ h

-- what a function of events gives of the one at an index: a call, or a reply
abbrev pub read_at : {B : Type 0} → (Event → Option B) → List Event → ℕ → Option B
read_at f events i = option_and_then f (slice_get events i)

pub read_within : {B : Type 0} (f : Event → Option B) (events : List Event) (i : ℕ) (y : B) → read_at f events i ≡ Some y → i < length events
read_within f events i y e = let (event, at, is) = then_parts f (slice_get events i) y e in slice_get_within events i event at

pub record Longer (events later : List Event) : Type 0 where
  pub stays : (i : ℕ) (event : Event) → At events i event → At later i event
  pub stood : (i : ℕ) (event : Event) → i < length events → At later i event → At events i event

pub read_stays : {B : Type 0} (f : Event → Option B) (events later : List Event) (i : ℕ) (y : B) → Longer events later → read_at f events i ≡ Some y
    → read_at f later i ≡ Some y
read_stays f events later i y longer e =
    let (event, at, is) = then_parts f (slice_get events i) y e in
    then_from f (slice_get later i) event y (longer.stays i event at) is

pub read_stood : {B : Type 0} (f : Event → Option B) (events later : List Event) (i : ℕ) (y : B) → Longer events later → i < length events
    → read_at f later i ≡ Some y → read_at f events i ≡ Some y
read_stood f events later i y longer l e =
    let (event, at, is) = then_parts f (slice_get later i) y e in
    then_from f (slice_get events i) event y (longer.stood i event l at) is

pub answer_stays : (events later : List Event) (index call : ℕ) → Longer events later → RepliesTo events index call → RepliesTo later index call
answer_stays events later index call longer h = (h.0, read_stays reply_in events later index h.0 longer h.1, h.2)

pub answer_stood : (events later : List Event) (index call : ℕ) → Longer events later → index < length events → RepliesTo later index call
    → RepliesTo events index call
answer_stood events later index call longer l h = (h.0, read_stood reply_in events later index h.0 longer l h.1, h.2)

-- each reply is to a call
abbrev pub HaveCalls : List Event → Type 0
HaveCalls events = (index : ℕ) (reply : Response) → reply_at events index ≡ Some reply → (made : Invocation) × (call_at events reply.call ≡ Some made)

pub replies_have_calls : (layout : Layout) (shared : Shared) → AreReplies layout shared → HaveCalls shared.events
replies_have_calls layout shared replies index reply e =
    let (made, before, is, right) = replies index reply e in
    (made, is)

pub behind_stays : (events later : List Event) (call n : ℕ) → Longer events later → HaveCalls events → call ≤ length events → Behind events call n
    → Behind later call n
behind_stays events later call n longer have l h index reply made less e f =
    let g = read_stood reply_in events later index reply longer (omega arith) e in
    let (first, is) = have index reply g in
    let same : first ≡ made = same_Some first made (sym (read_stays made_by events later reply.call first longer is) ∙ f) in
    subst (λ (m : Invocation). reach (request_made m) reply.at ≤ n) same (h index reply first less g is)

pub behind_more : (events : List Event) (call m n : ℕ) → m ≤ n → Behind events call m → Behind events call n
behind_more events call m n l h index reply made less e f = let k = h index reply made less e f in omega arith

-- what is known by any reply is completed
pub behind_completed : (layout : Layout) (shared : Shared) (call : ℕ) → AreReplies layout shared → Behind shared.events call shared.completed
behind_completed layout shared call replies index reply made less e f =
    let (first, before, is, right) = replies index reply e in
    let same : first ≡ made = same_Some first made (sym is ∙ f) in
    subst (λ (m : Invocation). reach (request_made m) reply.at ≤ shared.completed) same right.known

-- ---- answers

at_of_reach : (o : Option Action) (n : ℕ) → n ≤ option_map_or (λ (action : Action). n + 1) o n
at_of_reach None n = omega arith
at_of_reach (Some action) n = omega arith

pub at_within_reach : (request : Query) (n : ℕ) → n ≤ reach request n
at_within_reach request n = at_of_reach (operation_in request) n

pub record Grows (before after : Shared) : Type 0 where
  pub have : HaveCalls before.events
  pub within : before.completed ≤ length before.log
  pub longer : Longer before.events after.events
  pub entry_stays : (i : ℕ) (entry : LogEntry) → At before.log i entry → At after.log i entry
  pub rises : before.completed ≤ after.completed
  pub goes_on : (r : ℕ) (later : Replica) → At after.replicas r later → (replica : Replica) × At before.replicas r replica × (replica.applied ≤ later.applied)

pub space_stays : (layout : Layout) (log later : List LogEntry) (n : ℕ) → ((i : ℕ) (entry : LogEntry) → At log i entry → At later i entry) → n ≤ length log
    → space_at layout log n ≡ space_at layout later n
space_stays layout log later n h l =
    ap (λ (entries : List LogEntry). after_all layout.depth layout.tables no_pages (map (λ (entry : LogEntry). entry.op) entries))
    (sym (same_front log later n h l))

pub right_stays : {layout : Layout} {before after : Shared} {made : Invocation} {call n : ℕ} {answer : Answer} → Grows before after
    → call < length before.events → IsRight layout before made call n answer → IsRight layout after made call n answer
right_stays {layout} {before} {after} {made} {call} {n} grows made_before right = record {
  placed = λ action e. let (entry, at, is) = right.placed action e in (entry, grows.entry_stays n entry at, is);
  known = omega (arith, right.known, grows.rises);
  here = λ replica at. let (first, there, less) = grows.goes_on made.replica replica at in omega (arith, right.here first there, less);
  answered = right.answered ∙ ap (λ space. answer_in layout space (request_made made)) (space_stays layout before.log after.log n grows.entry_stays
      (omega (arith, right.known, at_within_reach (request_made made) n, grows.within)));
  in_time = behind_stays before.events after.events call n grows.longer grows.have (omega (arith, made_before)) right.in_time;
}

-- ---- stages

pub stage_fits : (layout : Layout) {before after : Shared} (t : ℕ) (stage : Stage) → Grows before after → FitsStage layout before t stage
    → FitsStage layout after t stage
stage_fits layout {before} {after} t (Called call request) grows fits = read_stays made_by before.events after.events call _ grows.longer fits
stage_fits layout {before} {after} t (Posted call action) grows fits = read_stays made_by before.events after.events call _ grows.longer fits
stage_fits layout {before} {after} t (Ready a) grows (request, asks, right) = (
  request,
  read_stays made_by before.events after.events a.call _ grows.longer asks,
  right_stays grows (read_within made_by before.events a.call _ asks) right,
)
stage_fits layout {before} {after} t (Looked call request noted) grows (asks, reads, behind) = (
  read_stays made_by before.events after.events call _ grows.longer asks,
  reads,
  behind_stays before.events after.events call noted grows.longer grows.have (omega (arith, read_within made_by before.events call _ asks)) behind,
)
stage_fits layout {before} {after} t (HasRead a) grows (request, asks, right) = (
  request,
  read_stays made_by before.events after.events a.call _ grows.longer asks,
  right_stays grows (read_within made_by before.events a.call _ asks) right,
)
stage_fits layout t _ grows fits = fits

-- ---- replies

pub replies_stay : (layout : Layout) {before after : Shared} → before.events ≡ after.events → Grows before after → AreReplies layout before
    → AreReplies layout after
replies_stay layout {before} {after} same grows replies index reply e =
    let (made, earlier, is, right) = replies index reply (ap (λ events. reply_at events index) same ∙ e) in (
      made,
      earlier,
      read_stays made_by before.events after.events reply.call made grows.longer is,
      right_stays grows (read_within made_by before.events reply.call made is) right,
    )
