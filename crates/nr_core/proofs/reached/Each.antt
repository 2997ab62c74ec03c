-- What each step makes of a state, where it is enabled; and what each step keeps holds after all.
use Rattle.std.proofs.Common.{◌≡◌, ℕ, ◌<◌, ◌≤◌, ◌⊎◌, inl, inr, Bool, true, false, nat_lt, nat_le, ◌==◌, ◌&&◌, not, List, [], ◌∷◌, ◌++◌, length, map, slice_get}
use Rattle.std.proofs.Common.{Option, Some, None, option_and_then, refl, eqb-true}
use Rattle.std.specs.Prelude.{⊤, find, is_none, if◌then◌else◌, unwrap_or}
use Rattle.std.proofs.lemmas.Bool.{and_parts, leb-true, ltb-true, not-true}
use Rattle.vs_types.specs.declared.log_entry.LogEntry.{LogEntry}
use Rattle.vs_types.specs.declared.requests.op.Action.{Action}
use Rattle.vs_types.specs.declared.requests.request.Query.{Query}
use Rattle.vs_types.specs.declared.requests.request.Query.TheVariants.{Update, Resolve, Access}
use Rattle.nr_trace.specs.Calls.{operation_in}
use Rattle.nr_trace.specs.Orders.{answer_in}
use Rattle.nr_trace.specs.declared.recordings.event.Event.TheVariants as events
use Rattle.nr_trace.specs.declared.recordings.event.Asked.TheVariants as askeds
use Rattle.nr_trace.proofs.LawsOfLists.{In}
use Rattle.nr_core.specs.Run.{after_steps}
use Rattle.nr_core.specs.State.{State, Thread, Replica, home, tail, has_applied_all, with_thread, with_replica}
use Rattle.nr_core.specs.Steps.{act, after_step, when, by_thread, by_holder, call, with_call, post, with_post, take_lock, collect, has_place, with_collected}
use Rattle.nr_core.specs.Steps.{with_update}
use Rattle.nr_core.specs.Steps.{append, may_append, has_room, advance, apply, with_entry, answer, noted_for, with_answer, without, release, look, with_look}
use Rattle.nr_core.specs.Steps.{read, with_read, reply, reply_at}
use Rattle.nr_core.specs.declared.states.stage.Answered.{Answered}
use Rattle.nr_core.specs.declared.states.stage.Collected.{Collected}
use Rattle.nr_core.specs.declared.states.stage.Stage.{Stage}
use Rattle.nr_core.specs.declared.states.stage.Stage.TheVariants.{Idle, Called, Posted, Taken, Ready, Looked, HasRead}
use Rattle.nr_core.specs.declared.runs.step.Act.{Act}
use Rattle.nr_core.specs.declared.runs.step.Act.TheVariants.{Call, Post, Take, Collect, Append, Advance, Apply, Answer, Release, Look, Read, Reply}
use Rattle.nr_core.specs.declared.runs.step.Step.{Step}
use Rattle.nr_core.specs.inside.Reached.{At}
use Rattle.nr_core.proofs.reached.Growth.{then_parts}
use Rattle.nr_core.proofs.reached.Places.{found_in}

-- where a step is enabled, the state after it has the property
abbrev pub After : (State → Type 0) → Option State → Type 0
After P None = ⊤
After P (Some state) = P state

then_after : (P : State → Type 0) {A : Type 0} (o : Option A) (go : A → Option State) → ((x : A) → o ≡ Some x → After P (go x))
    → After P (option_and_then go o)
then_after P None go h = tt
then_after P (Some x) go h = h x refl

when_after : (P : State → Type 0) (test : Bool) (state : State) → (test ≡ true → P state) → After P (if test then Some state else None)
when_after P true state h = h refl
when_after P false state h = tt

holder_after : (P : State → Type 0) (state : State) (t : ℕ) (go : Thread → ℕ → Replica → Option State)
    → ((thread : Thread) (r : ℕ) (replica : Replica) → At state.threads t thread → thread.holds ≡ Some r → At state.replicas r replica
    → After P (go thread r replica))
    → After P (by_holder state t go)
holder_after P state t go h =
    then_after P (slice_get state.threads t) (λ thread. option_and_then (λ r. option_and_then (go thread r) (slice_get state.replicas r)) thread.holds)
    (λ thread at. then_after P thread.holds (λ r. option_and_then (go thread r) (slice_get state.replicas r))
    (λ r e. then_after P (slice_get state.replicas r) (go thread r) (λ replica there. h thread r replica at e there)))

-- the state after each step of a thread that is enabled has the property
pub record AfterEach (P : State → Type 0) (state : State) (t : ℕ) : Type 0 where
  pub call : (thread : Thread) (request : Query) (left : List Query) → At state.threads t thread → thread.stage ≡ Idle
      → P (record (with_thread state t (record thread { script = left; stage = Called (length state.events) request }))
      { events = state.events ++ events.Call (home state t) t (askeds.Request request) ∷ [] })
  pub post : (thread : Thread) (call : ℕ) (action : Action) → At state.threads t thread → thread.stage ≡ Called call (Update action)
      → P (with_thread state t (record thread { stage = Posted call action }))
  pub take : (r : ℕ) (thread : Thread) (replica : Replica) → At state.threads t thread → At state.replicas r replica → is_none thread.holds ≡ true
      → is_none replica.holder ≡ true
      → P (with_replica (with_thread state t (record thread { holds = Some r })) r (record replica { holder = Some t }))
  pub collect : (s r call : ℕ) (replica : Replica) (other : Thread) (action : Action) → At state.replicas r replica → At state.threads s other
      → other.stage ≡ Posted call action → home state s ≡ r
      → P (with_replica (with_thread state s (record other { stage = Taken call })) r
      (with_update replica (record { thread = s; entry = record { call = call; op = action }; noted = None })))
  pub append : (r : ℕ) (replica : Replica) → At state.replicas r replica → replica.placed ≡ false
      → P (with_replica (record state { log = state.log ++ map (λ update. update.entry) replica.batch }) r (record replica { placed = true }))
  pub advance : (r : ℕ) (replica : Replica) → At state.replicas r replica
      → P (with_replica (record state { completed = tail state }) r (record replica { local = tail state }))
  pub apply : (r : ℕ) (replica : Replica) (entry : LogEntry) → At state.replicas r replica → At state.log replica.applied entry
      → replica.applied < replica.local → P (with_replica state r (with_entry state replica entry))
  pub answer : (s r call : ℕ) (replica : Replica) (other : Thread) (u : Collected) (a : Answered) → At state.replicas r replica → At state.threads s other
      → In u replica.batch → u.thread ≡ s → u.noted ≡ Some a → other.stage ≡ Taken call
      → P (with_replica (with_thread state s (record other { stage = Ready a })) r (without s replica))
  pub release : (r : ℕ) (thread : Thread) (replica : Replica) → At state.threads t thread → thread.holds ≡ Some r → At state.replicas r replica
      → P (with_replica (with_thread state t (record thread { holds = None })) r (record replica { holder = None }))
  pub look : (thread : Thread) (call : ℕ) (request : Query) → At state.threads t thread → thread.stage ≡ Called call request → operation_in request ≡ None
      → P (with_thread state t (record thread { stage = Looked call request state.completed }))
  pub read : (thread : Thread) (replica : Replica) (call : ℕ) (request : Query) (completed : ℕ) → At state.threads t thread
      → At state.replicas (home state t) replica → thread.stage ≡ Looked call request completed → completed ≤ replica.applied
      → P (with_thread state t (record thread {
        stage = HasRead (record { call = call; at = replica.applied; answer = answer_in state.layout replica.space request });
      }))
  pub reply : (thread : Thread) (a : Answered) → At state.threads t thread → (thread.stage ≡ Ready a) ⊎ (thread.stage ≡ HasRead a)
      → P (record (with_thread state t (record thread { stage = Idle })) { events = state.events ++ events.Reply a.call a.at a.answer ∷ [] })

module _ (P : State → Type 0) (state : State) (t : ℕ) (each : AfterEach P state t) where
  call_after : After P (call state t)
  call_after =
      then_after P (slice_get state.threads t) (λ thread. with_call state t thread thread.script thread.stage)
      (λ thread at. by_stage thread at thread.script thread.stage refl) where
        by_stage : (thread : Thread) → At state.threads t thread → (script : List Query) (stage : Stage) → thread.stage ≡ stage
            → After P (with_call state t thread script stage)
        by_stage thread at (request ∷ left) Idle is = each.call thread request left at is
        by_stage thread at script stage is = tt

  post_after : After P (post state t)
  post_after =
      then_after P (slice_get state.threads t) (λ thread. with_post state t thread thread.stage) (λ thread at. by_stage thread at thread.stage refl) where
        by_stage : (thread : Thread) → At state.threads t thread → (stage : Stage) → thread.stage ≡ stage → After P (with_post state t thread stage)
        by_stage thread at (Called call (Update action)) is = each.post thread call action at is
        by_stage thread at stage is = tt

  take_after : (r : ℕ) → After P (take_lock state t r)
  take_after r =
      then_after P (slice_get state.threads t) (λ thread. option_and_then (go thread) (slice_get state.replicas r))
      (λ thread at. then_after P (slice_get state.replicas r) (go thread)
      (λ replica there. when_after P (is_none thread.holds && is_none replica.holder) _
      (λ test. let free = and_parts (is_none thread.holds) (is_none replica.holder) test in each.take r thread replica at there free.0 free.1))) where
        go : Thread → Replica → Option State
        go thread replica = when (is_none thread.holds && is_none replica.holder)
            (with_replica (with_thread state t (record thread { holds = Some r })) r (record replica { holder = Some t }))

  collect_after : (s : ℕ) → After P (collect state t s)
  collect_after s =
      holder_after P state t (λ thread r replica. by_thread state s (λ other. with_collected state r replica s other other.stage))
      (λ thread r replica at e there. then_after P (slice_get state.threads s) (λ other. with_collected state r replica s other other.stage)
      (λ other here. by_stage r replica other there here other.stage refl)) where
        by_stage : (r : ℕ) (replica : Replica) (other : Thread) → At state.replicas r replica → At state.threads s other → (stage : Stage)
            → other.stage ≡ stage → After P (with_collected state r replica s other stage)
        by_stage r replica other there here (Posted call action) is =
            when_after P ((home state s == r) && has_place replica) _
            (λ test. each.collect s r call replica other action there here is
            (eqb-true (home state s) r (and_parts (home state s == r) (has_place replica) test).0))
        by_stage r replica other there here stage is = tt

  append_after : After P (append state t)
  append_after =
      holder_after P state t (λ thread r replica. when (may_append state replica)
      (with_replica (record state { log = state.log ++ map (λ update. update.entry) replica.batch }) r (record replica { placed = true })))
      (λ thread r replica at e there. when_after P (may_append state replica) _
      (λ test. each.append r replica there (not-true replica.placed ((and_parts (nat_lt 0 (length replica.batch)) (not replica.placed)
      ((and_parts (nat_lt 0 (length replica.batch) && not replica.placed) (has_room state (length replica.batch)) test).0)).1))))

  advance_after : After P (advance state t)
  advance_after =
      holder_after P state t (λ thread r replica. when (has_applied_all replica && nat_lt replica.local (tail state))
      (with_replica (record state { completed = tail state }) r (record replica { local = tail state })))
      (λ thread r replica at e there. when_after P (has_applied_all replica && nat_lt replica.local (tail state)) _ (λ test. each.advance r replica there))

  apply_after : After P (apply state t)
  apply_after =
      holder_after P state t (λ thread r replica. option_and_then (go r replica) (slice_get state.log replica.applied))
      (λ thread r replica at e there. then_after P (slice_get state.log replica.applied) (go r replica)
      (λ entry stands. when_after P (nat_lt replica.applied replica.local) _
      (λ test. each.apply r replica entry there stands (ltb-true replica.applied replica.local test)))) where
        go : ℕ → Replica → LogEntry → Option State
        go r replica entry = when (nat_lt replica.applied replica.local) (with_replica state r (with_entry state replica entry))

  answer_after : (s : ℕ) → After P (answer state t s)
  answer_after s =
      holder_after P state t (λ thread r replica. by_thread state s (λ other.
      option_and_then (λ a. with_answer state r replica s other a other.stage) (noted_for s replica)))
      (λ thread r replica at e there. then_after P (slice_get state.threads s)
      (λ other. option_and_then (λ a. with_answer state r replica s other a other.stage) (noted_for s replica))
      (λ other here. then_after P (noted_for s replica) (λ a. with_answer state r replica s other a other.stage)
      (λ a e. by_stage r replica other a there here
      (then_parts (λ (u : Collected). u.noted) (find (λ (u : Collected). u.thread == s) replica.batch) a e) other.stage refl))) where
        by_stage : (r : ℕ) (replica : Replica) (other : Thread) (a : Answered) → At state.replicas r replica → At state.threads s other
            → (u : Collected) × (find (λ (v : Collected). v.thread == s) replica.batch ≡ Some u) × (u.noted ≡ Some a) → (stage : Stage)
            → other.stage ≡ stage → After P (with_answer state r replica s other a stage)
        by_stage r replica other a there here (u, found, noted) (Taken call) is =
            let (i, test) = found_in (λ (v : Collected). v.thread == s) replica.batch u found in
            each.answer s r call replica other u a there here i (eqb-true u.thread s test) noted is
        by_stage r replica other a there here h stage is = tt

  release_after : After P (release state t)
  release_after =
      holder_after P state t (λ thread r replica. when (has_applied_all replica)
      (with_replica (with_thread state t (record thread { holds = None })) r (record replica { holder = None })))
      (λ thread r replica at e there. when_after P (has_applied_all replica) _ (λ test. each.release r thread replica at e there))

  look_after : After P (look state t)
  look_after =
      then_after P (slice_get state.threads t) (λ thread. with_look state t thread thread.stage) (λ thread at. by_stage thread at thread.stage refl) where
        by_stage : (thread : Thread) → At state.threads t thread → (stage : Stage) → thread.stage ≡ stage → After P (with_look state t thread stage)
        by_stage thread at (Called call (Resolve address)) is = each.look thread call (Resolve address) at is refl
        by_stage thread at (Called call (Access address mode access)) is = each.look thread call (Access address mode access) at is refl
        by_stage thread at stage is = tt

  read_after : After P (read state t)
  read_after =
      then_after P (slice_get state.threads t)
      (λ thread. option_and_then (λ replica. with_read state t thread replica thread.stage) (slice_get state.replicas (home state t)))
      (λ thread at. then_after P (slice_get state.replicas (home state t)) (λ replica. with_read state t thread replica thread.stage)
      (λ replica there. by_stage thread replica at there thread.stage refl)) where
        by_stage : (thread : Thread) (replica : Replica) → At state.threads t thread → At state.replicas (home state t) replica → (stage : Stage)
            → thread.stage ≡ stage → After P (with_read state t thread replica stage)
        by_stage thread replica at there (Looked call request completed) is =
            when_after P (is_none replica.holder && nat_le completed replica.applied) _
            (λ test. each.read thread replica call request completed at there is
            (leb-true completed replica.applied ((and_parts (is_none replica.holder) (nat_le completed replica.applied) test).1)))
        by_stage thread replica at there stage is = tt

  reply_after : After P (reply state t)
  reply_after =
      then_after P (slice_get state.threads t) (λ thread. reply_at state t thread thread.stage) (λ thread at. by_stage thread at thread.stage refl) where
        by_stage : (thread : Thread) → At state.threads t thread → (stage : Stage) → thread.stage ≡ stage → After P (reply_at state t thread stage)
        by_stage thread at (Ready a) is = each.reply thread a at (inl is)
        by_stage thread at (HasRead a) is = each.reply thread a at (inr is)
        by_stage thread at stage is = tt

  after_each : (what : Act) → After P (act state t what)
  after_each Call = call_after
  after_each Post = post_after
  after_each (Take r) = take_after r
  after_each (Collect s) = collect_after s
  after_each Append = append_after
  after_each Advance = advance_after
  after_each Apply = apply_after
  after_each (Answer s) = answer_after s
  after_each Release = release_after
  after_each Look = look_after
  after_each Read = read_after
  after_each Reply = reply_after

-- a property that each step keeps holds after all steps
stays : (P : State → Type 0) (state : State) (o : Option State) → P state → After P o → P (unwrap_or o state)
stays P state None before after = before
stays P state (Some next) before after = after

pub after_all : (P : State → Type 0) → ((state : State) (t : ℕ) → P state → AfterEach P state t) → (state : State) (steps : List Step) → P state
    → P (after_steps state steps)
after_all P each state [] before = before
after_all P each state (step ∷ steps) before = after_all P each (unwrap_or (after_step state step) state) steps
    (stays P state (after_step state step) before (after_each P state step.thread (each state step.thread before) step.act))
