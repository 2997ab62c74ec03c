-- What holds of every run that is recorded holds after each note.
use Rattle.std.proofs.Common.{◌≡◌, ℕ, ◌+◌, ◌/◌, ◌%◌, ◌<◌, ◌≤◌, ◌==◌, Bool, true, false, cond, ◌⊎◌, inl, inr}
use Rattle.std.proofs.Common.{Option, Some, None, List, [], ◌∷◌, ◌++◌, length, refl, ap, sym, subst, ◌∙◌, arith}
use Rattle.std.specs.Prelude.{slice_get, slice_set}
use Rattle.std.specs.Option.{option_map_or}
use Rattle.std.proofs.lemmas.Option.{none-some, same_Some}
use Rattle.vs_types.specs.Config.{Layout}
use Rattle.vs_types.specs.Space.{Space}
use Rattle.vs_types.specs.declared.requests.answer.Answer.{Answer}
use Rattle.vs_types.specs.declared.log_entry.LogEntry.{LogEntry}
use Rattle.vs_types.specs.declared.requests.op.Action.{Action}
use Rattle.vs_types.specs.declared.requests.request.Query.{Query}
use Rattle.vs_types.specs.declared.requests.request.Query.TheVariants as queries
use Rattle.nr_trace.specs.Calls.{Invocation, made_by, operation_in, Response, reply_in}
use Rattle.nr_trace.specs.Orders.{answer_in}
use Rattle.nr_trace.specs.declared.recordings.event.Event.{Event}
use Rattle.nr_trace.specs.declared.recordings.event.Event.TheVariants as event
use Rattle.nr_trace.specs.declared.recordings.event.Asked.TheVariants as askeds
use Rattle.nr_core.specs.State.{Replica, Thread}
use Rattle.nr_core.specs.inside.Reached.{At, AreCalls, Behind, IsRight, call_at, reach, reply_at}
use Rattle.nr_core.proofs.reached.Events.{one_longer, read_last}
use Rattle.nr_core.proofs.reached.Places.{each_set}
use Rattle.nr_core.proofs.reached.Growth.{Grows, HaveCalls, Longer, behind_completed, behind_more}
use Rattle.nr_core.proofs.reached.Growth.{read_stays, read_within, replies_stay, right_stays, then_from}
use Rattle.nr_machine.specs.declared.words.Operation.{Operation}
use Rattle.nr_machine.specs.declared.words.Operation.TheVariants.{Load, Store, Exchange, Max}
use Rattle.nr_machine.specs.declared.words.Word.TheVariants.{Head}
use Rattle.nr_machine.specs.declared.words.Update.{Update}
use Rattle.nr_machine.specs.Actor.{Actor, MayDo, MayEndAt, applies, begins, ends, learned, sees, update_at}
use Rattle.nr_machine.specs.States.{AllRight, IsRight as IsRightReply, Kind, Nodes, Reply, followed, state_after, with_reply}
use Rattle.nr_machine.specs.States.Reply.{Updated, Saw}
use Rattle.nr_machine.specs.Words.{told_by, with_at}
use Rattle.nr_machine.specs.World.{Act, MayAct, Read, World, acted, appended, log_after}
use Rattle.nr_machine.specs.World.Act.{Begins, Does, Applies, Ends, ReadBegins, ReadEnds}
use Rattle.nr_machine.proofs.Cases.{at_cases, both_cases, elsewhere}
use Rattle.nr_machine.proofs.Held.{IsBeginning, same_log}
use Rattle.nr_machine.proofs.Run.{acts_state}
use Rattle.nr_machine.proofs.Stated.{GoesOn as KeepsOn, goes_on, none_of}
use Rattle.nr_machine_runs.specs.History.{entries_to, values_to}
use Rattle.nr_machine_runs.specs.Recorded.{IsCallAt, MayNote, Run, SomeGives, idle, noted, replica_of, space_kind, waiting}
use Rattle.nr_machine_runs.specs.Recorded.Note.{Calls, Takes, Reads, Replies}
use Rattle.nr_machine_runs.proofs.Growing.{applied_rises, completed_rises}
use Rattle.nr_machine_runs.proofs.Histories.{appended_is, log_grows}
use Rattle.nr_machine_runs.proofs.Noted.{IsEntryAt, IsNoMore, IsPlaced, as_before, none_left, placed_appended, placed_begun, placed_later, placed_on}
use Rattle.nr_machine_runs.proofs.Opened.{closes, opens}
use Rattle.nr_machine_runs.proofs.Values.{answers_are, at_value, space_is, value_at}
use Rattle.nr_machine_runs.proofs.Ended.{AllEnded, GoesOn, IsNoted, IsPlain, IsReader, ReadEnded, UpdateEnded}
use Rattle.nr_machine_runs.proofs.Ended.{all_stay, grows, have_calls, reader_stays, same_events, shared_of}

-- ---- steps of the schedule

more_calls : (w : World) (act : Act) → w.calls ≤ (acted w act).calls
more_calls w (Begins n batch) = omega arith
more_calls w (Does n operation) = omega arith
more_calls w (Applies n) = omega arith
more_calls w (Ends n) = omega arith
more_calls w (ReadBegins n) = omega arith
more_calls w (ReadEnds c) = omega arith

one_world : (kind : Kind Space Answer) (v : Nodes Space Answer) (act : Act) → (followed kind v act).world ≡ acted v.world act
one_world kind v (Begins n batch) = refl
one_world kind v (Does n operation) = refl
one_world kind v (Applies n) = refl
one_world kind v (Ends n) = refl
one_world kind v (ReadBegins n) = refl
one_world kind v (ReadEnds c) = refl

goes : (layout : Layout) (means : Update → LogEntry) (run : Run) (act : Act) → layout.replicas ≤ 64 → IsNoted layout means run
    → MayAct layout.replicas run.nodes.world act → (reads' : ℕ → ℕ) → ((c : ℕ) → c < run.nodes.world.calls → reads' c ≡ run.reads c)
    → GoesOn run.events run.events run.nodes (followed (space_kind layout means) run.nodes act) run.reads reads'
goes layout means run act most is may reads' same =
    let w = run.nodes.world in
    let held = is.stated.held in
    let Later : World → Type 0 =
    λ v. (w.words.completed ≤ v.words.completed) × ((m : ℕ) → (w.actor m).applied ≤ (v.actor m).applied) × (w.calls ≤ v.calls) in
    let world = one_world (space_kind layout means) run.nodes act in
    let later = subst Later (sym world)
    (completed_rises layout.replicas w act most held may, applied_rises layout.replicas w act may, more_calls w act) in
    record {
      longer = same_events run.events;
      log = subst (λ (v : World). IsBeginning w.log v.log) (sym world) (log_grows layout.replicas w act most held may);
      completed = later.0;
      applied = later.1;
      calls = later.2;
      same = same;
    }

-- what holds after a step of the schedule, where the log, the batches, the reads and the new replies are as they should be
after_act : (layout : Layout) (means : Update → LogEntry) (run : Run) (act : Act) (given' : ℕ → Bool) (reads' : ℕ → ℕ)
    → layout.replicas ≤ 64
    → IsNoted layout means run → MayAct layout.replicas run.nodes.world act → ((c : ℕ) → c < run.nodes.world.calls → reads' c ≡ run.reads c)
    → IsPlaced layout.replicas means run.events (followed (space_kind layout means) run.nodes act).world.log
    (followed (space_kind layout means) run.nodes act).world.actor given'
    → ((c : ℕ) → IsReader run.events ((followed (space_kind layout means) run.nodes act).world.read c) (reads' c))
    → AllEnded layout means run.events (followed (space_kind layout means) run.nodes act) reads'
    (followed (space_kind layout means) run.nodes act).replies
    → IsNoted layout means (record run { nodes = followed (space_kind layout means) run.nodes act; given = given'; reads = reads' })
after_act layout means run act given' reads' most is may same placed readers ended =
    let next = followed (space_kind layout means) run.nodes act in
    let on = goes layout means run act most is may reads' same in
    record {
      stated = acts_state layout.replicas (space_kind layout means) run.nodes act most is.stated may;
      calls = is.calls;
      threads = is.threads;
      replies = replies_stay layout refl
          (grows layout means run.events run.events run.nodes next run.reads reads' (have_calls layout means run is) is.stated.held.below
          on) is.replies;
      placed = placed;
      readers = readers;
      ended = ended;
    }

-- the replies so far, after a step
so_far : (layout : Layout) (means : Update → LogEntry) (run : Run) (act : Act) → layout.replicas ≤ 64 → IsNoted layout means run
    → MayAct layout.replicas run.nodes.world act → (reads' : ℕ → ℕ) → ((c : ℕ) → c < run.nodes.world.calls → reads' c ≡ run.reads c)
    → AllEnded layout means run.events (followed (space_kind layout means) run.nodes act) reads' run.nodes.replies
so_far layout means run act most is may reads' same =
    all_stay layout means run.events run.events run.nodes (followed (space_kind layout means) run.nodes act) run.reads reads'
    run.nodes.replies
    (have_calls layout means run is) (goes layout means run act most is may reads' same) is.ended

-- nobody knows more than the log has
behind_all : (layout : Layout) (means : Update → LogEntry) (run : Run) → IsNoted layout means run → (call place : ℕ)
    → run.nodes.world.log.tail ≤ place
    → Behind run.events call place
behind_all layout means run is call place le =
    let below = is.stated.held.below in
    behind_more run.events call run.nodes.world.words.completed place (omega (arith, below, le))
    (behind_completed layout (shared_of layout means run.events run.nodes) call is.replies)

-- an operation keeps the batch
kept_batch : (nodes n m : ℕ) (w : World) (operation : Operation) → MayDo nodes n (w.actor n) operation
    → IsNoMore (w.actor m) (with_at w.actor n (learned n (w.actor n) operation (told_by w.words operation)) m)
kept_batch nodes n m w operation may =
    at_cases (λ a. IsNoMore (w.actor m) a) w.actor n (learned n (w.actor n) operation (told_by w.words operation)) m
    (λ e. subst (λ (k : ℕ). IsNoMore (w.actor k) new) (sym e) (as_before (w.actor n) new on.batch (free on.standing)))
    (λ apart. as_before (w.actor m) (w.actor m) refl (λ none. none)) where
      new : Actor
      new = learned n (w.actor n) operation (told_by w.words operation)

      on : KeepsOn (w.actor n) new
      on = goes_on nodes n (w.actor n) operation (told_by w.words operation) may

      free : (new.standing ≡ (w.actor n).standing) ⊎ (((w.actor n).standing ≡ None) × (new.standing ≡ Some (w.actor n).seen))
          → new.standing ≡ None
          → (w.actor n).standing ≡ None
      free (inl same) none = sym same ∙ none
      free (inr was) none = was.0

does_place : (layout : Layout) (means : Update → LogEntry) (run : Run) (n : ℕ) (operation : Operation) → IsNoted layout means run
    → (n < layout.replicas) × MayDo layout.replicas n (run.nodes.world.actor n) operation
    → IsPlaced layout.replicas means run.events (log_after run.nodes.world n operation)
    (with_at run.nodes.world.actor n (learned n (run.nodes.world.actor n) operation (told_by run.nodes.world.words operation))) run.given
does_place layout means run n (Load word) is may =
    placed_on layout.replicas means run.events run.nodes.world.log run.nodes.world.actor _ run.given
    (λ m. kept_batch layout.replicas n m run.nodes.world (Load word) may.1) is.placed
does_place layout means run n (Store word value) is may =
    placed_on layout.replicas means run.events run.nodes.world.log run.nodes.world.actor _ run.given
    (λ m. kept_batch layout.replicas n m run.nodes.world (Store word value) may.1) is.placed
does_place layout means run n (Max word value) is may =
    placed_on layout.replicas means run.events run.nodes.world.log run.nodes.world.actor _ run.given
    (λ m. kept_batch layout.replicas n m run.nodes.world (Max word value) may.1) is.placed
does_place layout means run n (Exchange Head old new) is may = by_test (run.nodes.world.words.head == old) where
  w : World
  w = run.nodes.world

  a : Actor
  a = w.actor n

  by_test : (b : Bool) → IsPlaced layout.replicas means run.events (cond b (appended w.log n (w.call n) a.batch) w.log)
      (with_at w.actor n (cond b (record (sees a (a.seen + length a.batch) n) { standing = Some a.seen })
      (sees a (w.words.head / 128) (w.words.head % 128)))) run.given
  by_test true = placed_appended layout.replicas means run.events w.log (appended w.log n (w.call n) a.batch) w.actor run.given n a.seen
      (record (sees a (a.seen + length a.batch) n) { standing = Some a.seen }) may.0 (appended_is w.log n (w.call n) a.batch)
      (none_of a.standing may.1.wants)
      refl refl (behind_all layout means run is) is.placed
  by_test false = placed_on layout.replicas means run.events w.log w.actor _ run.given
      (λ m. at_cases (λ x. IsNoMore (w.actor m) x) w.actor n (sees a (w.words.head / 128) (w.words.head % 128)) m
      (λ e. subst (λ (k : ℕ). IsNoMore (w.actor k) (sees a (w.words.head / 128) (w.words.head % 128))) (sym e)
      (as_before a (sees a (w.words.head / 128) (w.words.head % 128)) refl (λ none. none)))
      (λ apart. as_before (w.actor m) (w.actor m) refl (λ none. none))) is.placed
does_place layout means run n (Exchange word old new) is may = absurd may.1

-- an update that ends
update_ends : (layout : Layout) (means : Update → LogEntry) (events : List Event) (v : Nodes Space Answer) (reads : ℕ
    → ℕ) (n call applied published : ℕ)
    (batch : List Update) (standing : Option ℕ) (answers : List Answer) (replies : List (Reply Space Answer)) → n < layout.replicas
    → MayEndAt standing (length batch) applied published → applied ≤ (v.world.actor n).applied → published ≤ v.world.words.completed
    → ((i : ℕ) → i < length batch → IsCallAt events n (means (update_at batch i)))
    → AllEnded layout means events v reads replies → AllEnded layout means events v reads (with_reply standing call batch answers replies)
update_ends layout means events v reads n call applied published batch None answers replies lt may more most calls all = all
update_ends layout means events v reads n call applied published batch (Some first) answers replies lt may more most calls all =
    let one = may.0 in
    let two = may.1 in (
      record { node = n; there = lt; applied = omega (arith, one, more); completed = omega (arith, two, most); calls = calls },
      all,
    )

pub takes : (layout : Layout) (means : Update → LogEntry) (run : Run) (act : Act) → layout.replicas ≤ 64 → IsNoted layout means run
    → MayNote layout means run (Takes act) → IsNoted layout means (noted layout means run (Takes act))
takes layout means run (Begins n batch) most is may =
    after_act layout means run (Begins n batch) _ run.reads most is may.0 (λ c lt. refl)
    (placed_begun layout.replicas means run.events run.nodes.world.log run.nodes.world.actor run.given n
    (begins (run.nodes.world.actor n) batch) may.1 is.placed)
    is.readers (so_far layout means run (Begins n batch) most is may.0 run.reads (λ c lt. refl))
takes layout means run (Does n operation) most is may =
    after_act layout means run (Does n operation) run.given run.reads most is may (λ c lt. refl)
    (does_place layout means run n operation is may)
    is.readers (so_far layout means run (Does n operation) most is may run.reads (λ c lt. refl))
takes layout means run (Applies n) most is may =
    let w = run.nodes.world in
    after_act layout means run (Applies n) run.given run.reads most is may (λ c lt. refl)
    (placed_on layout.replicas means run.events w.log w.actor _ run.given
    (λ m. at_cases (λ x. IsNoMore (w.actor m) x) w.actor n (applies (w.actor n)) m
    (λ e. subst (λ (k : ℕ). IsNoMore (w.actor k) (applies (w.actor n))) (sym e)
    (as_before (w.actor n) (applies (w.actor n)) refl (λ none. none)))
    (λ apart. as_before (w.actor m) (w.actor m) refl (λ none. none))) is.placed)
    is.readers (so_far layout means run (Applies n) most is may run.reads (λ c lt. refl))
takes layout means run (Ends n) most is may =
    let w = run.nodes.world in
    let a = w.actor n in
    after_act layout means run (Ends n) run.given run.reads most is may (λ c lt. refl)
    (placed_on layout.replicas means run.events w.log w.actor _ run.given
    (λ m. at_cases (λ x. IsNoMore (w.actor m) x) w.actor n (ends a) m (λ e. none_left (w.actor m) (ends a) refl)
    (λ apart. as_before (w.actor m) (w.actor m) refl (λ none. none))) is.placed)
    is.readers
    (update_ends layout means run.events (followed (space_kind layout means) run.nodes (Ends n)) run.reads n (w.call n) a.applied
    a.published a.batch a.standing
    (run.nodes.answers n) run.nodes.replies may.0 may.1 (applied_rises layout.replicas w (Ends n) may n) (is.stated.held.published n)
    (is.placed.calls n may.0) (so_far layout means run (Ends n) most is may run.reads (λ c lt. refl)))
takes layout means run (ReadBegins n) most is may = absurd may
takes layout means run (ReadEnds c) most is may =
    let w = run.nodes.world in
    let n = (w.read c).node in
    let lt = is.stated.readers c may.0 in
    let reader = is.readers c may.0 in
    let loaded = may.1 in
    let told = may.2 in
    let published = is.stated.held.published n in
    after_act layout means run (ReadEnds c) run.given run.reads most is may (λ d below. refl) is.placed
    (λ d. at_cases (λ x. IsReader run.events x (run.reads d)) w.read c (record { waits = false; node = n; loaded = (w.read c).loaded }) d
    (λ e waits. absurd (cc)) (λ apart. is.readers d)) (
      record {
        node = n;
        there = lt;
        applied = omega arith;
        completed = omega (arith, told, published);
        reads = reader.0;
        behind = behind_more run.events (run.reads c) (w.read c).loaded (w.actor n).applied loaded reader.1;
        begun = (is.stated.held.read c may.0).0;
      },
      so_far layout means run (ReadEnds c) most is may run.reads (λ d below. refl),
    )

-- a read begins for a call
pub reads : (layout : Layout) (means : Update → LogEntry) (run : Run) (n call : ℕ) → layout.replicas ≤ 64 → IsNoted layout means run
    → MayNote layout means run (Reads n call) → IsNoted layout means (noted layout means run (Reads n call))
reads layout means run n call most is may =
    let w = run.nodes.world in
    let same : (c : ℕ) → c < w.calls → with_at run.reads w.calls call c ≡ run.reads c =
    λ c lt. elsewhere run.reads w.calls call c (λ e. omega (arith, e, lt)) in
    after_act layout means run (ReadBegins n) run.given (with_at run.reads w.calls call) most is may.0 same is.placed
    (λ c. both_cases (λ (k : ℕ) (x : Read) (y : ℕ). IsReader run.events x y) w.read run.reads w.calls
    (record { waits = true; node = n; loaded = w.words.completed }) call c
    (λ waits. (may.1, behind_completed layout (shared_of layout means run.events run.nodes) call is.replies)) (λ apart. is.readers c))
    (so_far layout means run (ReadBegins n) most is may.0 (with_at run.reads w.calls call) same)

-- ---- events

event_noted : (layout : Layout) (means : Update → LogEntry) (run : Run) (e : Event) (threads : List Thread) → IsNoted layout means run
    → AreCalls (run.events ++ e ∷ []) threads → ((t : ℕ) (thread : Thread) → At threads t thread → IsPlain thread)
    → ((reply : Response) → reply_in e ≡ Some reply → (made : Invocation) × (call_at run.events reply.call ≡ Some made)
    × IsRight layout (shared_of layout means run.events run.nodes) made reply.call reply.at reply.answer)
    → IsNoted layout means (record run { events = run.events ++ e ∷ []; threads = threads })
event_noted layout means run e threads is calls plain right = record {
  stated = is.stated;
  calls = calls;
  threads = plain;
  replies = λ index reply h. each index reply (read_last reply_in run.events e index reply h);
  placed = placed_later layout.replicas means run.events later run.nodes.world.log run.nodes.world.actor run.given longer have is.placed;
  readers = λ c. reader_stays run.events later (run.nodes.world.read c) (run.reads c) longer have (is.readers c);
  ended = all_stay layout means run.events later run.nodes run.nodes run.reads run.reads run.nodes.replies have on is.ended;
} where
  later : List Event
  later = run.events ++ e ∷ []

  longer : Longer run.events later
  longer = one_longer run.events e

  have : HaveCalls run.events
  have = have_calls layout means run is

  on : GoesOn run.events later run.nodes run.nodes run.reads run.reads
  on = record {
    longer = longer;
    log = same_log run.nodes.world.log;
    completed = omega arith;
    applied = λ m. omega arith;
    calls = omega arith;
    same = λ c lt. refl;
  }

  more : Grows (shared_of layout means run.events run.nodes) (shared_of layout means later run.nodes)
  more = grows layout means run.events later run.nodes run.nodes run.reads run.reads have is.stated.held.below on

  each : (index : ℕ) (reply : Response)
      → (reply_at run.events index ≡ Some reply) ⊎ ((index ≡ length run.events) × (reply_in e ≡ Some reply))
      → (made : Invocation) × (reply.call < index) × (call_at later reply.call ≡ Some made)
      × IsRight layout (shared_of layout means later run.nodes) made reply.call reply.at reply.answer
  each index reply (inl h) =
      let (made, before, at, old) = is.replies index reply h in (
        made,
        before,
        read_stays made_by run.events later reply.call made longer at,
        right_stays more (read_within made_by run.events reply.call made at) old,
      )
  each index reply (inr (last, h)) =
      let (made, at, new) = right reply h in
      let within = read_within made_by run.events reply.call made at in
      (made, omega (arith, last, within), read_stays made_by run.events later reply.call made longer at, right_stays more within new)

pub called : (layout : Layout) (means : Update → LogEntry) (run : Run) (t r : ℕ) (request : Query) → IsNoted layout means run
    → MayNote layout means run (Calls t r request) → IsNoted layout means (noted layout means run (Calls t r request))
called layout means run t r request is may =
    event_noted layout means run (event.Call r t (askeds.Request request)) (slice_set run.threads t (waiting (length run.events))) is
    (opens run.events run.threads t r request is.calls
    (λ index reply h. let (made, before, at, right) = is.replies index reply h in (made, before, at)) may)
    (each_set (λ (u : ℕ) (thread : Thread). IsPlain thread) run.threads t (waiting (length run.events)) (inr (length run.events, refl))
    (λ u thread out at. is.threads u thread at))
    (λ reply h. absurd (none-some reply h))

-- what a machine's reply gives is right
abbrev GaveRight : Layout → (Update → LogEntry) → Run → ℕ → ℕ → Answer → Type 0
GaveRight layout means run call place answer = (made : Invocation) × (call_at run.events call ≡ Some made)
    × IsRight layout (shared_of layout means run.events run.nodes) made call place answer

-- the node of this number, as the core sees it
its_node : (layout : Layout) (v : Nodes Space Answer) (n reached : ℕ) → reached ≤ (v.world.actor n).applied → (replica : Replica)
    → At (values_to (replica_of v) layout.replicas) n replica → reached ≤ replica.applied
its_node layout v n reached le replica at =
    subst (λ (x : Replica). reached ≤ x.applied) (sym (value_at (replica_of v) layout.replicas n replica at).1) le

update_right : (layout : Layout) (means : Update
    → LogEntry) (run : Run) (c first i : ℕ) (batch : List Update) (answers : List Answer) (answer : Answer)
    → IsNoted layout means run → IsRightReply (space_kind layout means) run.nodes.world (Updated c first batch answers)
    → UpdateEnded layout means run.events run.nodes first batch → i < length batch → slice_get answers i ≡ Some answer
    → GaveRight layout means run (means (update_at batch i)).call (first + i) answer
update_right layout means run c first i batch answers answer is right ended lt at =
    let w = run.nodes.world in
    let entry = means (update_at batch i) in
    let asked = ended.calls i lt in
    let made : Invocation = record { replica = ended.node; thread = asked.0; asked = askeds.Request (queries.Update entry.op) } in
    let most = right.0 in
    let within : first + i < w.log.tail = omega (arith, most, lt) in
    let here : w.log.entry (first + i) ≡ update_at batch i = (right.2 i lt).1 in
    let kind = space_kind layout means in
    let gave = value_at (λ j. kind.answer (state_after kind w.log.entry (first + j)) (w.log.entry (first + j))) (length batch) i answer
    (subst (λ (xs : List Answer). slice_get xs i ≡ Some answer) (right.1 ∙ answers_are kind w.log.entry first (length batch)) at) in
    let done = ended.completed in
    let applied = ended.applied in (
      made,
      then_from made_by (slice_get run.events entry.call) (event.Call ended.node asked.0 (askeds.Request (queries.Update entry.op))) made asked.1 refl,
      record {
        placed = λ action e. (
          entry,
          subst (λ (u : Update). At (entries_to means w.log.entry w.log.tail) (first + i) (means u)) here
              (at_value (λ p. means (w.log.entry p)) w.log.tail (first + i) within),
          refl,
        );
        known = omega (arith, done, lt);
        here = λ replica there. its_node layout run.nodes ended.node (first + i + 1) (omega (arith, applied, lt)) replica there;
        answered = gave.1
            ∙ ap (λ (u : Update). kind.answer (state_after kind w.log.entry (first + i)) u) here
            ∙ ap (λ (space : Space). kind.answer space (update_at batch i))
            (space_is layout means w.log.entry w.log.tail (first + i) (omega (arith, within)));
        in_time = in_time (subst (λ (u : Update). IsEntryAt run.events (means u) (first + i)) here
            (is.placed.entries (first + i) within));
      },
    ) where
      in_time : IsEntryAt run.events (means (update_at batch i)) (first + i)
          → Behind run.events (means (update_at batch i)).call (first + i)
      in_time (made, there, asks, behind) = behind

-- what is known by a read is what it saw
reach_of_read : (request : Query) (n : ℕ) → operation_in request ≡ None → reach request n ≡ n
reach_of_read request n none = ap (λ (o : Option Action). option_map_or (λ (action : Action). n + 1) o n) none

read_right : (layout : Layout) (means : Update
    → LogEntry) (run : Run) (c count n thread : ℕ) (space : Space) (request : Query) (answer : Answer)
    → IsNoted layout means run → IsRightReply (space_kind layout means) run.nodes.world (Saw c count space)
    → ReadEnded layout run.events run.nodes (run.reads c) c count → slice_get run.events (run.reads c) ≡ Some (event.Call n thread (askeds.Request request))
    → answer ≡ answer_in layout space request → GaveRight layout means run (run.reads c) count answer
read_right layout means run c count n thread space request answer is right ended at gave =
    let w = run.nodes.world in
    let its = ended.reads in
    let made : Invocation = record { replica = ended.node; thread = its.0; asked = askeds.Request its.1 } in
    let same : event.Call n thread (askeds.Request request) ≡ event.Call ended.node its.0 (askeds.Request its.1) =
    same_Some (event.Call n thread (askeds.Request request)) (event.Call ended.node its.0 (askeds.Request its.1)) (sym at ∙ its.2) in
    let asks : request ≡ its.1 = cc in
    let known = reach_of_read its.1 count its.3 in
    let done = ended.completed in
    let applied = ended.applied in (
      made,
      then_from made_by (slice_get run.events (run.reads c)) (event.Call ended.node its.0 (askeds.Request its.1)) made its.2 refl,
      record {
        placed = λ action e. absurd (none-some action (sym its.3 ∙ e));
        known = omega (arith, known, done);
        here = λ replica there. its_node layout run.nodes ended.node (reach its.1 count) (omega (arith, known, applied)) replica there;
        answered = gave
            ∙ ap (λ (q : Query). answer_in layout space q) asks
            ∙ ap (λ (s : Space). answer_in layout s its.1) (right.1 ∙ space_is layout means w.log.entry w.log.tail count right.0);
        in_time = ended.behind;
      },
    )

given_right : (layout : Layout) (means : Update
    → LogEntry) (run : Run) (replies : List (Reply Space Answer)) (call place : ℕ) (answer : Answer)
    → IsNoted layout means run → AllRight (space_kind layout means) run.nodes.world replies
    → AllEnded layout means run.events run.nodes run.reads replies
    → SomeGives layout means run replies call place answer → GaveRight layout means run call place answer
given_right layout means run [] call place answer is right ended gives = absurd gives
given_right layout means run (reply ∷ replies) call place answer is right ended (inr later) =
    given_right layout means run replies call place answer is right.1 ended.1 later
given_right layout means run (Updated c first batch answers ∷ replies) call place answer is right ended (inl gives) =
    subst (λ (k : ℕ). GaveRight layout means run k place answer) gives.2
    (subst (λ (p : ℕ). GaveRight layout means run (means (update_at batch gives.0)).call p answer) (sym gives.3)
    (update_right layout means run c first gives.0 batch answers answer is right.0 ended.0 gives.1 gives.4))
given_right layout means run (Saw c count space ∷ replies) call place answer is right ended (inl gives) =
    subst (λ (k : ℕ). GaveRight layout means run k place answer) gives.0
    (subst (λ (p : ℕ). GaveRight layout means run (run.reads c) p answer) (sym gives.1)
    (read_right layout means run c count gives.2 gives.3 space gives.4 answer is right.0 ended.0
    (ap (slice_get run.events) gives.0 ∙ gives.5) gives.6))

pub replied : (layout : Layout) (means : Update → LogEntry) (run : Run) (t call place : ℕ) (answer : Answer) → IsNoted layout means run
    → MayNote layout means run (Replies t call place answer) → IsNoted layout means (noted layout means run (Replies t call place answer))
replied layout means run t call place answer is may =
    event_noted layout means run (event.Reply call place answer) (slice_set run.threads t idle) is
    (closes run.events run.threads t call place answer is.calls may.0)
    (each_set (λ (u : ℕ) (thread : Thread). IsPlain thread) run.threads t idle (inl refl) (λ u thread out at. is.threads u thread at))
    (λ reply h. subst (λ (r : Response). GaveRight layout means run r.call r.at r.answer)
    (same_Some (record { call = call; at = place; answer = answer }) reply h)
    (given_right layout means run run.nodes.replies call place answer is is.stated.replies is.ended may.1))
