-- What holds of every run that is recorded, with the replies of its machines; and that it stays so.
use Rattle.std.proofs.Common.{◌≡◌, ℕ, ◌+◌, ◌<◌, ◌≤◌, true, ◌⊎◌, List, [], ◌∷◌, length, ap, sym, subst, ◌∙◌, arith}
use Rattle.std.specs.Prelude.{⊤}
use Rattle.std.proofs.lemmas.Option.{slice_get_within}
use Rattle.vs_types.specs.Config.{Layout}
use Rattle.vs_types.specs.Space.{Space}
use Rattle.vs_types.specs.declared.requests.answer.Answer.{Answer}
use Rattle.vs_types.specs.declared.log_entry.LogEntry.{LogEntry}
use Rattle.nr_trace.specs.declared.recordings.event.Event.{Event}
use Rattle.nr_core.specs.State.{Replica, Thread}
use Rattle.nr_core.specs.declared.states.stage.Stage.TheVariants.{Idle, Taken}
use Rattle.nr_core.specs.inside.Reached.{At, AreCalls, AreReplies, Behind, Shared}
use Rattle.nr_core.proofs.reached.Growth.{Grows, HaveCalls, Longer, behind_stays, replies_have_calls}
use Rattle.nr_machine.specs.declared.words.Update.{Update}
use Rattle.nr_machine.specs.Actor.{update_at}
use Rattle.nr_machine.specs.States.{Nodes, Reply}
use Rattle.nr_machine.specs.States.Reply.{Updated, Saw}
use Rattle.nr_machine.specs.World.{Read}
use Rattle.nr_machine.proofs.Held.{IsBeginning}
use Rattle.nr_machine.proofs.Stated.{IsStated}
use Rattle.nr_machine_runs.specs.History.{entries_to, values_to}
use Rattle.nr_machine_runs.specs.Recorded.{IsCallAt, IsReadAt, Run, replica_of, space_kind}
use Rattle.nr_machine_runs.proofs.Histories.{length-values_to}
use Rattle.nr_machine_runs.proofs.Noted.{IsPlaced, call_stays}
use Rattle.nr_machine_runs.proofs.Values.{at_value, value_at}

-- what threads share, as the core's
abbrev pub shared_of : Layout → (Update → LogEntry) → List Event → Nodes Space Answer → Shared
shared_of layout means events nodes = record {
  events = events;
  log = entries_to means nodes.world.log.entry nodes.world.log.tail;
  completed = nodes.world.words.completed;
  replicas = values_to (replica_of nodes) layout.replicas;
}

-- ---- on what a machine's reply depends

pub record UpdateEnded (layout : Layout) (means : Update → LogEntry) (events : List Event) (nodes : Nodes Space Answer) (first : ℕ)
    (batch : List Update) : Type 0 where
  pub node : ℕ
  pub there : node < layout.replicas
  pub applied : first + length batch ≤ (nodes.world.actor node).applied
  pub completed : first + length batch ≤ nodes.world.words.completed
  pub calls : (i : ℕ) → i < length batch → IsCallAt events node (means (update_at batch i))

pub record ReadEnded (layout : Layout) (events : List Event) (nodes : Nodes Space Answer) (call c count : ℕ) : Type 0 where
  pub node : ℕ
  pub there : node < layout.replicas
  pub applied : count ≤ (nodes.world.actor node).applied
  pub completed : count ≤ nodes.world.words.completed
  pub reads : IsReadAt events node call
  pub behind : Behind events call count
  pub begun : c < nodes.world.calls

abbrev pub IsEnded : Layout → (Update → LogEntry) → List Event → Nodes Space Answer → (ℕ → ℕ) → Reply Space Answer → Type 0
IsEnded layout means events nodes reads (Updated c first batch answers) = UpdateEnded layout means events nodes first batch
IsEnded layout means events nodes reads (Saw c count space) = ReadEnded layout events nodes (reads c) c count

abbrev pub AllEnded : Layout → (Update → LogEntry) → List Event → Nodes Space Answer → (ℕ → ℕ) → List (Reply Space Answer) → Type 0
AllEnded layout means events nodes reads [] = ⊤
AllEnded layout means events nodes reads (reply ∷ replies) =
    IsEnded layout means events nodes reads reply × AllEnded layout means events nodes reads replies

-- it waits for what was known when its call was made
abbrev pub IsReader : List Event → Read → ℕ → Type 0
IsReader events read call = read.waits ≡ true → IsReadAt events read.node call × Behind events call read.loaded

-- it has no call open, or waits
abbrev pub IsPlain : Thread → Type 0
IsPlain thread = (thread.stage ≡ Idle) ⊎ ((call : ℕ) × (thread.stage ≡ Taken call))

pub record IsNoted (layout : Layout) (means : Update → LogEntry) (run : Run) : Type 0 where
  pub stated : IsStated layout.replicas (space_kind layout means) run.nodes
  pub calls : AreCalls run.events run.threads
  pub threads : (t : ℕ) (thread : Thread) → At run.threads t thread → IsPlain thread
  pub replies : AreReplies layout (shared_of layout means run.events run.nodes)
  pub placed : IsPlaced layout.replicas means run.events run.nodes.world.log run.nodes.world.actor run.given
  pub readers : (c : ℕ) → IsReader run.events (run.nodes.world.read c) (run.reads c)
  pub ended : AllEnded layout means run.events run.nodes run.reads run.nodes.replies

-- ---- what grows

pub record GoesOn (events later : List Event) (v v' : Nodes Space Answer) (reads reads' : ℕ → ℕ) : Type 0 where
  pub longer : Longer events later
  pub log : IsBeginning v.world.log v'.world.log
  pub completed : v.world.words.completed ≤ v'.world.words.completed
  pub applied : (m : ℕ) → (v.world.actor m).applied ≤ (v'.world.actor m).applied
  pub calls : v.world.calls ≤ v'.world.calls
  pub same : (c : ℕ) → c < v.world.calls → reads' c ≡ reads c

pub have_calls : (layout : Layout) (means : Update → LogEntry) (run : Run) → IsNoted layout means run → HaveCalls run.events
have_calls layout means run is = replies_have_calls layout (shared_of layout means run.events run.nodes) is.replies

pub grows : (layout : Layout) (means : Update → LogEntry) (events later : List Event) (v v' : Nodes Space Answer) (reads reads' : ℕ → ℕ)
    → HaveCalls events
    → v.world.words.completed ≤ v.world.log.tail → GoesOn events later v v' reads reads'
    → Grows (shared_of layout means events v) (shared_of layout means later v')
grows layout means events later v v' reads reads' have below on = record {
  have = have;
  within = let long = length-values_to (λ p. means (v.world.log.entry p)) v.world.log.tail in omega (arith, below, long);
  longer = on.longer;
  entry_stays = λ i x at. stays i x (value_at (λ p. means (v.world.log.entry p)) v.world.log.tail i x at);
  rises = on.completed;
  goes_on = λ r x at. on_at r x (value_at (replica_of v') layout.replicas r x at);
} where
  stays : (i : ℕ) (x : LogEntry) → (i < v.world.log.tail) × (x ≡ means (v.world.log.entry i))
      → At (entries_to means v'.world.log.entry v'.world.log.tail) i x
  stays i x is =
      let lt = is.0 in
      let more = on.log.tail in
      subst (λ (y : LogEntry). At (entries_to means v'.world.log.entry v'.world.log.tail) i y) (ap means (on.log.entry i lt) ∙ sym is.1)
      (at_value (λ p. means (v'.world.log.entry p)) v'.world.log.tail i (omega (arith, lt, more)))

  on_at : (r : ℕ) (x : Replica) → (r < layout.replicas) × (x ≡ replica_of v' r)
      → (replica : Replica) × At (values_to (replica_of v) layout.replicas) r replica × (replica.applied ≤ x.applied)
  on_at r x is = (
    replica_of v r,
    at_value (replica_of v) layout.replicas r is.0,
    subst (λ (y : Replica). (v.world.actor r).applied ≤ y.applied) (sym is.1) (on.applied r),
  )

read_stays_at : (events later : List Event) (n call : ℕ) → Longer events later → IsReadAt events n call → IsReadAt later n call
read_stays_at events later n call longer (thread, request, at, none) = (thread, request, longer.stays call _ at, none)

pub reader_stays : (events later : List Event) (read : Read) (call : ℕ) → Longer events later → HaveCalls events → IsReader events read call
    → IsReader later read call
reader_stays events later read call longer have is waits =
    let at = (is waits).0 in
    let within = slice_get_within events call _ at.2 in (
      read_stays_at events later read.node call longer at,
      behind_stays events later call read.loaded longer have (omega (arith, within)) (is waits).1,
    )

ended_stays : (layout : Layout) (means : Update → LogEntry) (events later : List Event) (v v' : Nodes Space Answer) (reads reads' : ℕ → ℕ)
    (reply : Reply Space Answer) → HaveCalls events → GoesOn events later v v' reads reads' → IsEnded layout means events v reads reply
    → IsEnded layout means later v' reads' reply
ended_stays layout means events later v v' reads reads' (Updated c first batch answers) have on is = record {
  node = is.node;
  there = is.there;
  applied = let one = is.applied in let two = on.applied is.node in omega (arith, one, two);
  completed = let one = is.completed in let two = on.completed in omega (arith, one, two);
  calls = λ i lt. call_stays events later is.node (means (update_at batch i)) on.longer (is.calls i lt);
}
ended_stays layout means events later v v' reads reads' (Saw c count space) have on is =
    subst (λ (call : ℕ). ReadEnded layout later v' call c count) (sym (on.same c is.begun)) (record {
      node = is.node;
      there = is.there;
      applied = let one = is.applied in let two = on.applied is.node in omega (arith, one, two);
      completed = let one = is.completed in let two = on.completed in omega (arith, one, two);
      reads = read_stays_at events later is.node (reads c) on.longer is.reads;
      behind = let within = slice_get_within events (reads c) _ is.reads.2 in
          behind_stays events later (reads c) count on.longer have (omega (arith, within)) is.behind;
      begun = let one = is.begun in let two = on.calls in omega (arith, one, two);
    })

pub all_stay : (layout : Layout) (means : Update → LogEntry) (events later : List Event) (v v' : Nodes Space Answer) (reads reads' : ℕ → ℕ)
    (replies : List (Reply Space Answer)) → HaveCalls events → GoesOn events later v v' reads reads'
    → AllEnded layout means events v reads replies
    → AllEnded layout means later v' reads' replies
all_stay layout means events later v v' reads reads' [] have on all = tt
all_stay layout means events later v v' reads reads' (reply ∷ replies) have on all = (
  ended_stays layout means events later v v' reads reads' reply have on all.0,
  all_stay layout means events later v v' reads reads' replies have on all.1,
)

pub same_events : (events : List Event) → Longer events events
same_events events = record { stays = λ i x at. at; stood = λ i x lt at. at }
