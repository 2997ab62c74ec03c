-- The calls of a trace are those of the threads whose pens it was made of.
use Rattle.std.proofs.lemmas.Bool.{false≢true}
use Rattle.std.proofs.lemmas.Simd.{map-map}
use Rattle.std.proofs.Common.{◌≡◌, ℕ, zero, suc, ◌+◌, ◌<◌, ◌≤◌, Bool, true, false, List, []}
use Rattle.std.proofs.Common.{◌∷◌, All, Contains, length, get_or, map, eqb, eq-eqb, refl, ap, sym}
use Rattle.std.proofs.Common.{◌∙◌, subst, arith}
use Rattle.std.specs.Prelude.{Option, Some, IsSome, slice_get, option_and_then, take, option_map}
use Rattle.std.specs.Option.{option_map_or}
use Rattle.std.proofs.lemmas.List.{get_or-map, length-map}
use Rattle.std.proofs.lemmas.List.Elements.{All-contains, All-head, All-map, All-tail}
use Rattle.std.proofs.lemmas.Option.{get_or_from_slice_get, slice_get-get_or, slice_get_within, slice_get-map}
use Rattle.std.proofs.lemmas.Bool.Decides.{Decides-eqb}
use Rattle.vs_types.proofs.Lists.{item_of}
use Rattle.vs_types.specs.Config.{Layout}
use Rattle.vs_types.specs.declared.requests.op.Action.{Action}
use Rattle.vs_types.specs.declared.requests.request.Query.{Query}
use Rattle.vs_types.specs.declared.requests.request.Query.TheVariants.{Update}
use Rattle.nr_ring.specs.LogHistory.{Log, log_after}
use Rattle.nr_ring.specs.Pass.{Known, TableId}
use Rattle.nr_trace.proofs.LawsOfLists.{slice_get-unmap}
use Rattle.nr_trace.specs.Calls.{Invocation, Response, read_address, request_in, call_of, made_by, operation_in, reply_to}
use Rattle.nr_trace.specs.Recording.{Recording}
use Rattle.nr_trace.specs.declared.recordings.event.Event.{Event}
use Rattle.nr_trace.specs.declared.recordings.event.Event.TheVariants.{Call}
use Rattle.nr_record.specs.Events.{AreEventsOf, HasNotes, caller, events_of}
use Rattle.nr_record.specs.Pen.{ClockId, PenState, call_by, stamps_of}
use Rattle.nr_record.specs.Stamps.{Rise}
use Rattle.nr_record.specs.declared.stamped.Stamped.{Stamped}
use Rattle.nr_record.proofs.Finished.{pen_of_stamp, once_in}
use Rattle.nr_serve.specs.inside.Calls.{AreServed, IsServed, IsTrueOf, MadeCall, Since, WorkerState, since}
use Rattle.nr_serve.specs.SegmentRun.{HasSeenAnswersFrom}
use Rattle.nr_serve.specs.Run.{AreCallsOf, HasAllOrStopped, HasSeenAnswers, StopsLast, asked_by, calls_of, said_of}
use Rattle.nr_serve.specs.inside.Ending.{pens_of}
use Rattle.nr_serve.specs.declared.endings.call_outcome.CallOutcome.{CallOutcome}
use Rattle.nr_serve.specs.declared.endings.call_outcome.CallOutcome.TheVariants.{Answer, Stopped}
use Rattle.nr_serve.proofs.Notes.{AreNoted, answers_are, made_calls, note_is_call, numbers, response, rise_numbers, spoken, stamps}
use Rattle.nr_serve.proofs.Numbers.{passes_below}

pub all_at : {X : Type 0} (P : X → Type 0) (xs : List X) (k : ℕ) (x : X) → All P xs → slice_get xs k ≡ Some x → P x
all_at P xs k x all at = subst P (get_or_from_slice_get xs k x x at) (all k x (slice_get_within xs k x at))

-- a thread's calls are in the events as its notes say
noted_of : (clock : ClockId) (of : Since) (thread : ℕ) (script : List Query) (worker : WorkerState) (workers : List WorkerState) (events : List Event)
    → AreEventsOf events (pens_of workers) → slice_get workers thread ≡ Some worker → (served : IsServed clock of thread script worker)
    → AreNoted events clock.layout thread served.calls
noted_of clock of thread script worker workers events are at served =
    let pens = pens_of workers in
    let pen = worker.pen in
    let here : slice_get pens thread ≡ Some pen = slice_get-map (λ (w : WorkerState). w.pen) workers thread ∙ ap (option_map (λ (w : WorkerState). w.pen)) at in
    record {
      rising = subst (λ (made : List Stamped). Rise (stamps made)) served.notes (all_at (λ (p : PenState). Rise (stamps_of p)) pens thread pen are.rising here);
      noted = subst (λ (made : List Stamped). All (λ (item : Stamped). slice_get events item.stamp ≡ Some item.event) made) served.notes
          (all_at (HasNotes events) pens thread pen are.noted here);
      own = ap (λ (t : ℕ). events_of t events) (sym served.of_thread)
          ∙ all_at (λ (p : PenState). events_of p.thread events ≡ map (λ (item : Stamped). item.event) p.made) pens thread pen are.own here
          ∙ ap spoken served.notes;
    }

-- whether the event of this index is a call of the thread
abbrev makes : ℕ → List Event → ℕ → Bool
makes thread events call = option_map_or (λ made. eqb made.thread thread) (option_and_then made_by (slice_get events call)) false

abbrev tested : ℕ → Option Event → Bool
tested thread event = option_map_or (λ (made : Invocation). eqb made.thread thread) (option_and_then made_by event) false

record IsCallAt (events : List Event) (thread i : ℕ) : Type 0 where
  event : Event
  at : slice_get events i ≡ Some event
  made : caller event ≡ Some thread

called_by : (events : List Event) (thread i : ℕ) → makes thread events i ≡ true → (o : Option Event) → slice_get events i ≡ o → IsCallAt events thread i
called_by events thread i holds (Some (Call replica who asked)) at =
    let test : eqb who thread ≡ true = sym (ap (tested thread) at) ∙ holds in
    let same : who ≡ thread = (Decides-eqb who thread).0 test in
    record { event = Call replica who asked; at = at; made = ap (λ (t : ℕ). Some t) same }
called_by events thread i holds _ at = absurd (false≢true (sym (ap (tested thread) at) ∙ holds))

called : (events : List Event) (thread i : ℕ) → makes thread events i ≡ true → IsCallAt events thread i
called events thread i holds = called_by events thread i holds (slice_get events i) refl

all_make : (events : List Event) (layout : Layout) (thread : ℕ) (calls : List MadeCall) → AreNoted events layout thread calls
    → All (λ i. makes thread events i ≡ true) (numbers calls)
all_make events layout thread calls are =
    All-map (λ (i : ℕ). makes thread events i ≡ true) (λ (call : MadeCall). call.number) calls
    (λ k d lt. ap (tested thread) (made_calls events layout thread calls are k d lt) ∙ eq-eqb thread thread refl)

all_within : (events : List Event) (layout : Layout) (thread : ℕ) (calls : List MadeCall) → AreNoted events layout thread calls
    → All (λ i. i < length events) (numbers calls)
all_within events layout thread calls are =
    All-map (λ (i : ℕ). i < length events) (λ (call : MadeCall). call.number) calls
    (λ k d lt. slice_get_within events (get_or calls k d).number (call_by layout thread (get_or calls k d).request)
    (made_calls events layout thread calls are k d lt))

-- an event that is a call of the thread is one of the calls that its notes say
only_own : (clock : ClockId) (of : Since) (scripts : List (List Query)) (workers : List WorkerState) (events : List Event)
    → AreServed clock of scripts workers → AreEventsOf events (pens_of workers) → (thread : ℕ) (script : List Query) (worker : WorkerState)
    → slice_get workers thread ≡ Some worker → (served : IsServed clock of thread script worker)
    → (i : ℕ) → makes thread events i ≡ true → Contains (numbers served.calls) i
only_own clock of scripts workers events all are thread script worker at served i holds =
    let pens = pens_of workers in
    let call = called events thread i holds in
    let lt = slice_get_within events i call.event call.at in
    let found = pen_of_stamp pens i (omega (arith, are.stamps i, once_in (length events) i lt)) in
    let pen = found.0 in
    let item = found.2.0 in
    let stands = All-contains (λ (other : Stamped). slice_get events other.stamp ≡ Some other.event) pen.made item
    (All-contains (HasNotes events) pens pen are.noted found.1) found.2.1 in
    let stands' : slice_get events i ≡ Some item.event = subst (λ (s : ℕ). slice_get events s ≡ Some item.event) found.2.2 stands in
    let both : Some item.event ≡ Some call.event = sym stands' ∙ call.at in
    let event : caller item.event ≡ Some thread = ap (λ o. option_and_then caller o) both ∙ call.made in
    let k : ℕ = found.1.0 in
    let long = length-map workers (λ (w : WorkerState). w.pen) in
    let within : k < length workers = omega (arith, found.1.1, long) in
    let other : WorkerState = get_or workers k worker in
    let other_at : slice_get workers k ≡ Some other = slice_get-get_or workers k worker within in
    let pen_is : pen ≡ other.pen = sym found.1.2 ∙ get_or-map (λ (w : WorkerState). w.pen) workers k worker pen within in
    let its = item_of scripts k (omega (arith, within, all.one_each)) in
    let others = all.each k its.0 other its.1 other_at in
    let theirs = subst (λ (made : List Stamped). Contains made item) (ap (λ (p : PenState). p.made) pen_is ∙ others.notes) found.2.1 in
    let one = note_is_call clock.layout k others.calls item thread theirs event in
    let same : Some other ≡ Some worker = sym other_at ∙ ap (λ (j : ℕ). slice_get workers j) (sym one.by_thread) ∙ at in
    let worker_is : other ≡ worker = cc in
    let mine = subst (λ (made : List Stamped). Contains made item)
    (ap (λ (p : PenState). p.made) (pen_is ∙ ap (λ (w : WorkerState). w.pen) worker_is) ∙ served.notes) found.2.1 in
    subst (λ (s : ℕ). Contains (numbers served.calls) s) found.2.2
    (note_is_call clock.layout thread served.calls item thread mine event).is_call

calls_are : (clock : ClockId) (of : Since) (scripts : List (List Query)) (workers : List WorkerState) (trace : Recording)
    → AreServed clock of scripts workers → AreEventsOf trace.events (pens_of workers) → (thread : ℕ) (script : List Query) (worker : WorkerState)
    → slice_get workers thread ≡ Some worker → (served : IsServed clock of thread script worker)
    → calls_of trace thread ≡ numbers served.calls
calls_are clock of scripts workers trace all are thread script worker at served =
    let noted = noted_of clock of thread script worker workers trace.events are at served in
    let calls = served.calls in
    passes_below (makes thread trace.events) (numbers calls) (length trace.events) (rise_numbers clock.layout thread calls noted.rising)
    (all_within trace.events clock.layout thread calls noted)
    (only_own clock of scripts workers trace.events all are thread script worker at served)
    (λ i has. All-contains (λ (j : ℕ). makes thread trace.events j ≡ true) (numbers calls) i (all_make trace.events clock.layout thread calls noted) has)

map_both : {Y : Type 0} (f : ℕ → Y) (g : MadeCall → Y) (calls : List MadeCall) → All (λ c. f c.number ≡ g c) calls → map f (numbers calls) ≡ map g calls
map_both f g [] all = refl
map_both f g (c ∷ cs) all =
    ap (λ y. y ∷ map f (numbers cs)) (All-head (λ (d : MadeCall). f d.number ≡ g d) c cs all)
    ∙ ap (λ ys. g c ∷ ys) (map_both f g cs (All-tail (λ (d : MadeCall). f d.number ≡ g d) c cs all))

said_back : (number : ℕ) (said : CallOutcome) → option_map_or (λ reply. Answer reply.at reply.answer) (response number said) Stopped ≡ said
said_back number (Answer at answer) = refl
said_back number Stopped = refl

-- the calls of each thread are those that it made, and its answers theirs
pub are_calls : (clock : ClockId) (of : Since) (scripts : List (List Query)) (workers : List WorkerState) (trace : Recording)
    → AreServed clock of scripts workers → AreEventsOf trace.events (pens_of workers) → trace.layout ≡ clock.layout
    → (thread : ℕ) (script : List Query) (said : List CallOutcome) → slice_get scripts thread ≡ Some script
    → slice_get (map (λ w. w.said) workers) thread ≡ Some said → AreCallsOf trace thread script said
are_calls clock of scripts workers trace all are layout thread script said at_script at_said =
    let there = slice_get-unmap (λ (w : WorkerState). w.said) workers thread said at_said in
    let worker = there.0 in
    let served = all.each thread script worker at_script there.1 in
    let calls = served.calls in
    let noted = noted_of clock of thread script worker workers trace.events are there.1 served in
    let is = calls_are clock of scripts workers trace all are thread script worker there.1 served in
    let asked : Query → Option Invocation = λ request. Some (asked_by trace.layout thread request) in
    let long : length calls ≡ length (calls_of trace thread) =
    sym (length-map calls (λ (c : MadeCall). c.number)) ∙ ap (λ (xs : List ℕ). length xs) (sym is) in
    record {
      asked = ap (λ (xs : List ℕ). map (call_of trace) xs) is
          ∙ map_both (call_of trace) (λ (c : MadeCall). asked c.request) calls
          (λ k d lt.
          ap (λ o. option_and_then made_by o) (made_calls trace.events clock.layout thread calls noted k d lt)
          ∙ ap (λ (l : Layout). Some (asked_by l thread (get_or calls k d).request)) (sym layout))
          ∙ sym (map-map asked (λ (c : MadeCall). c.request) calls) ∙ ap (λ (rs : List Query). map asked rs) served.requests
          ∙ ap (λ (n : ℕ). map asked (take n script)) long;
      said = sym there.2 ∙ served.said
          ∙ sym (ap (λ (xs : List ℕ). map (said_of trace) xs) is ∙ map_both (said_of trace) (λ (c : MadeCall). c.said) calls
          (λ k d lt.
          ap (λ o. option_map_or (λ (reply : Response). Answer reply.at reply.answer) o Stopped)
          (answers_are trace.events clock.layout thread calls noted k d lt)
          ∙ said_back (get_or calls k d).number (get_or calls k d).said));
      stops_last = subst (λ (s : List CallOutcome). StopsLast s) there.2 served.stops_last;
      to_the_end = subst (λ (s : List CallOutcome). HasAllOrStopped script s) there.2 served.to_the_end;
    }

call_of_number : (calls : List MadeCall) (n : ℕ) → Contains (numbers calls) n → (c : MadeCall) × Contains calls c × (c.number ≡ n)
call_of_number [] n has = absurd (omega (arith, has.1))
call_of_number (c ∷ cs) n has = at has.0 has.1 has.2 (λ rest. call_of_number cs n rest) where
  at : (k : ℕ) → k < length (numbers (c ∷ cs)) → get_or (numbers (c ∷ cs)) k n ≡ n
      → (Contains (numbers cs) n → (d : MadeCall) × Contains cs d × (d.number ≡ n)) → (d : MadeCall) × Contains (c ∷ cs) d × (d.number ≡ n)
  at zero lt is more = (c, (zero, omega arith, refl), is)
  at (suc k) lt is more =
      let rest = more (k, omega arith, is) in (rest.0, (suc rest.1.0, omega (arith, rest.1.1), rest.1.2), rest.2)

-- where what came of a call is true of a log, an answered update is at its place
stands : (layout : Layout) (from : ℕ) (log : Log) (number : ℕ) (request : Query) (said : CallOutcome) → IsTrueOf layout from log number request said
    → (action : Action) (reply : Response) → operation_in request ≡ Some action → response number said ≡ Some reply
    → slice_get log.entries (from + reply.at) ≡ Some (record { call = number; op = action })
stands layout from log number (Update act) (Answer at answer) is action reply op rep =
    let same : act ≡ action = cc in
    let r : Response = record { call = number; at = at; answer = answer } in
    let reply_is : r ≡ reply = cc in
    subst (λ (p : ℕ). slice_get log.entries (from + p) ≡ Some (record { call = number; op = action })) (ap (λ (x : Response). x.at) reply_is)
    (is.stands ∙ ap (λ (a : Action). Some (record { call = number; op = a })) same)
stands layout from log number _ _ is action reply op rep = absurd cc

-- and an answered read saw no more entries than there are
known : (layout : Layout) (from : ℕ) (log : Log) (number : ℕ) (request : Query) (said : CallOutcome) → IsTrueOf layout from log number request said
    → (reply : Response) → IsSome (read_address request) → response number said ≡ Some reply → from + reply.at ≤ length log.entries
known layout from log number (Update act) said is reply read rep = absurd (false≢true read)
known layout from log number _ Stopped is reply read rep = absurd cc
known layout from log number _ (Answer at answer) is reply read rep =
    let r : Response = record { call = number; at = at; answer = answer } in
    let reply_is : r ≡ reply = cc in
    subst (λ (p : ℕ). from + p ≤ length log.entries) (ap (λ (x : Response). x.at) reply_is) is.known

-- a call of the thread, with what is known of it
record IsKnownCall (trace : Recording) (layout : Layout) (from : ℕ) (log : Log) (thread call : ℕ) : Type 0 where
  request : Query
  said : CallOutcome
  asked : slice_get trace.events call ≡ Some (call_by layout thread request)
  replied : reply_to trace call ≡ response call said
  is_true : IsTrueOf layout from log call request said

known_call : (clock : ClockId) (of : Since) (scripts : List (List Query)) (workers : List WorkerState) (trace : Recording)
    → AreServed clock of scripts workers → AreEventsOf trace.events (pens_of workers) → (thread : ℕ) (worker : WorkerState)
    → slice_get workers thread ≡ Some worker → (call : ℕ) (made : Invocation) → call_of trace call ≡ Some made → made.thread ≡ thread
    → IsKnownCall trace clock.layout of.from (log_after clock.layout.replicas worker.pass.view.seen) thread call
known_call clock of scripts workers trace all are thread worker at call made is_made who =
    let its = item_of scripts thread (omega (arith, slice_get_within workers thread worker at, all.one_each)) in
    let served = all.each thread its.0 worker its.1 at in
    let calls = served.calls in
    let noted = noted_of clock of thread its.0 worker workers trace.events are at served in
    let holds : makes thread trace.events call ≡ true =
    ap (λ o. option_map_or (λ (m : Invocation). eqb m.thread thread) o false) is_made ∙ eq-eqb made.thread thread who in
    let found = call_of_number calls call (only_own clock of scripts workers trace.events all are thread its.0 worker at served call holds) in
    let c = found.0 in
    record {
      request = c.request;
      said = c.said;
      asked = subst (λ (n : ℕ). slice_get trace.events n ≡ Some (call_by clock.layout thread c.request)) found.2
          (All-contains (λ (d : MadeCall). slice_get trace.events d.number ≡ Some (call_by clock.layout thread d.request)) calls c
          (made_calls trace.events clock.layout thread calls noted) found.1);
      replied = subst (λ (n : ℕ). reply_to trace n ≡ response n c.said) found.2
          (All-contains (λ (d : MadeCall). reply_to trace d.number ≡ response d.number d.said) calls c
          (answers_are trace.events clock.layout thread calls noted) found.1);
      is_true = subst (λ (n : ℕ). IsTrueOf clock.layout of.from (log_after clock.layout.replicas worker.pass.view.seen) n c.request c.said) found.2
          (All-contains (λ (d : MadeCall). IsTrueOf clock.layout of.from (log_after clock.layout.replicas worker.pass.view.seen) d.number d.request d.said)
          calls c served.true_calls found.1);
    }

-- each thread's pass has seen all on which its answers depend
pub have_seen_from : (clock : ClockId) (of : Since) (scripts : List (List Query)) (workers : List WorkerState) (trace : Recording)
    → AreServed clock of scripts workers → AreEventsOf trace.events (pens_of workers) → trace.layout ≡ clock.layout
    → (thread : ℕ) (pass : Known) → slice_get (map (λ w. w.pass) workers) thread ≡ Some pass → HasSeenAnswersFrom of.from trace thread pass
have_seen_from clock of scripts workers trace all are layout thread pass at_pass =
    let there = slice_get-unmap (λ (w : WorkerState). w.pass) workers thread pass at_pass in
    let worker = there.0 in
    let here : log_after clock.layout.replicas worker.pass.view.seen ≡ log_after trace.layout.replicas pass.view.seen =
    ap (λ (l : Layout). log_after l.replicas worker.pass.view.seen) (sym layout)
    ∙ ap (λ (p : Known). log_after trace.layout.replicas p.view.seen) there.2 in
    record {
      updates = λ call made action reply is_made who op rep.
          let its = known_call clock of scripts workers trace all are thread worker there.1 call made is_made who in
          let op' : operation_in its.request ≡ Some action =
          sym (ap (λ o. option_and_then operation_in (option_and_then (λ (m : Invocation). request_in m.asked) (option_and_then made_by o))) its.asked) ∙ op in
          subst (λ (l : Log). slice_get l.entries (of.from + reply.at) ≡ Some (record { call = call; op = action })) here
          (stands clock.layout of.from (log_after clock.layout.replicas worker.pass.view.seen) call its.request its.said its.is_true action reply op'
          (sym its.replied ∙ rep));
      reads = λ call made reply is_made who read rep.
          let its = known_call clock of scripts workers trace all are thread worker there.1 call made is_made who in
          let read' : IsSome (read_address its.request) =
          subst (λ o. IsSome (option_and_then read_address (option_and_then (λ (m : Invocation). request_in m.asked) (option_and_then made_by o)))) its.asked
          read in
          subst (λ (l : Log). of.from + reply.at ≤ length l.entries) here
          (known clock.layout of.from (log_after clock.layout.replicas worker.pass.view.seen) call its.request its.said its.is_true reply read'
          (sym its.replied ∙ rep));
    }

-- where places are counted from the first one on
from_first : (trace : Recording) (thread : ℕ) (pass : Known) → HasSeenAnswersFrom 0 trace thread pass → HasSeenAnswers trace thread pass
from_first trace thread pass seen = record {
  updates = λ call made action reply is_made who op rep.
      let same : 0 + reply.at ≡ reply.at = omega arith in
      subst (λ (p : ℕ). slice_get (log_after trace.layout.replicas pass.view.seen).entries p ≡ Some (record { call = call; op = action })) same
      (seen.updates call made action reply is_made who op rep);
  reads = λ call made reply is_made who read rep. omega (arith, seen.reads call made reply is_made who read rep);
}

pub have_seen : (clock : ClockId) (log : TableId) (scripts : List (List Query)) (workers : List WorkerState) (trace : Recording)
    → AreServed clock (since log 0) scripts workers → AreEventsOf trace.events (pens_of workers) → trace.layout ≡ clock.layout
    → (thread : ℕ) (pass : Known) → slice_get (map (λ w. w.pass) workers) thread ≡ Some pass → HasSeenAnswers trace thread pass
have_seen clock log scripts workers trace all are layout thread pass at_pass =
    from_first trace thread pass (have_seen_from clock (since log 0) scripts workers trace all are layout thread pass at_pass)
