-- A run's state is one that the core's recordings are proved of: so no recording of it has a fault.
use Rattle.std.proofs.Common.{◌≡◌, ℕ, zero, suc, ◌<◌, ◌≤◌, inl, inr, List, [], ◌∷◌, map, replicate, nat_eq, Some, None, refl, ap, sym, subst, ◌∙◌, arith}
use Rattle.std.specs.List.{IsDistinct}
use Rattle.std.specs.Prelude.{slice_get}
use Rattle.std.proofs.lemmas.List.{map-append}
use Rattle.std.proofs.lemmas.Option.{none-some, same_Some}
use Rattle.vs_types.specs.Config.{Layout}
use Rattle.vs_types.specs.Space.{no_pages}
use Rattle.vs_types.specs.declared.log_entry.LogEntry.{LogEntry}
use Rattle.vs_walk.specs.Dump.{Image}
use Rattle.nr_trace.specs.Laws.{HasCleanLog, IsFaultless}
use Rattle.nr_trace.specs.Orders.{FitsOrder, IsLegalOrder, recorded_order}
use Rattle.nr_trace.specs.Recording.{IsThere, Recording}
use Rattle.nr_trace.specs.declared.refusals.fault.Fault.TheVariants.{ThreadOpen, NoSuchCall, AnsweredTwice, NotAnUpdate, PlacedTwice, NotPlaced, PastLog, Early}
use Rattle.nr_trace.specs.declared.refusals.fault.Fault.TheVariants.{WrongAnswer, PrefixPastLog, PrefixShort, MissingFrame, SharedFrame, ReservedBit, StrayFrame}
use Rattle.nr_trace.specs.declared.refusals.fault.Fault.TheVariants.{Differs}
use Rattle.nr_trace.specs.declared.formats.version.Version.{Version}
use Rattle.nr_trace.proofs.LawsOfDumps.{legal_if_faultless, fits_if_faultless}
use Rattle.nr_core.specs.State.{Replica, State, Thread}
use Rattle.nr_trace.proofs.LawsOfLists.{In, distinct_append, in_map, option_distinct}
use Rattle.nr_core.specs.declared.states.stage.Collected.{Collected}
use Rattle.nr_core.specs.inside.Reached.{At, FitsStage, IsReached, IsReplicaOf, calls_of, open_in, shared_in, waiting_in}
use Rattle.nr_core.proofs.reached.Places.{at_in}
use Rattle.nr_core.proofs.reached.Growth.{Grows, replies_have_calls, replies_stay}
use Rattle.nr_core.proofs.reached.CleanLog.{clean_log}
use Rattle.nr_core.proofs.reached.Dumps.{AreDumps, none_past_log, none_short, none_in_walk, none_stray, none_differs}
use Rattle.nr_core.proofs.reached.InTime.{none_early}
use Rattle.nr_core.proofs.reached.RightAnswers.{none_wrong}
use Rattle.nr_core.proofs.reached.Recorded.{recording, of_recording}
use Rattle.nr_machine.specs.declared.words.Update.{Update}
use Rattle.nr_machine.specs.World.{World}
use Rattle.nr_machine.proofs.Run.{first_stated}
use Rattle.nr_machine_runs.specs.History.{entries_to, values_to}
use Rattle.nr_machine_runs.specs.Recorded.{IsRecordingOfRun, MayAll, MayNote, Note, Run, idle, new_run, noted, noted_all, replica_of, space_kind, state_of}
use Rattle.nr_machine_runs.specs.Recorded.Note.{Calls, Takes, Reads, Replies}
use Rattle.nr_machine_runs.proofs.Histories.{length-values_to}
use Rattle.nr_machine_runs.proofs.Noted.{entries_placed}
use Rattle.nr_machine_runs.proofs.Ended.{IsNoted, IsPlain, shared_of}
use Rattle.nr_machine_runs.proofs.Steps.{called, reads, replied, takes}
use Rattle.nr_machine_runs.proofs.Values.{space_is, value_at}

-- calls at places that are all different
calls_distinct : (f : ℕ → LogEntry) (n : ℕ) → ((p q : ℕ) → p < q → q < n → (f p).call ≡ (f q).call → ⊥)
    → IsDistinct nat_eq (calls_of (values_to f n))
calls_distinct f zero apart = option_distinct None
calls_distinct f (suc n) apart =
    subst (IsDistinct nat_eq) (sym (map-append (λ (e : LogEntry). e.call) (values_to f n) (f n ∷ [])))
    (distinct_append (calls_of (values_to f n)) ((f n).call ∷ []) (calls_distinct f n (λ p q lt below. apart p q lt (omega (arith, below))))
    (option_distinct (Some (f n).call)) differ) where
      found : (x : ℕ) → (f n).call ≡ x → (entry : LogEntry) × In entry (values_to f n) × (entry.call ≡ x) → ⊥
      found x last (entry, there, same) =
          let (place, at) = at_in (values_to f n) entry there in
          let is = value_at f n place entry at in
          apart place n is.0 (omega arith) (ap (λ (e : LogEntry). e.call) (sym is.1) ∙ same ∙ sym last)

      differ : (x : ℕ) → In x (calls_of (values_to f n)) → In x ((f n).call ∷ []) → ⊥
      differ x one (inl last) = found x last (in_map (λ (e : LogEntry). e.call) (values_to f n) x one)
      differ x one (inr none) = none

pub is_reached : (layout : Layout) (means : Update → LogEntry) (run : Run) → IsNoted layout means run
    → IsReached (state_of layout means run)
is_reached layout means run is = record {
  calls = is.calls;
  replies = replies_stay layout refl on is.replies;
  threads = λ t thread at. fits t thread (is.threads t thread at);
  waiting = λ t thread call at waits. absurd (none_waits thread call (is.threads t thread at) waits);
  entries = entries_placed layout.replicas means run.events w.log w.actor run.given is.placed;
  distinct = calls_distinct (λ p. means (w.log.entry p)) w.log.tail is.placed.apart;
  completed = let long = length-values_to (λ p. means (w.log.entry p)) w.log.tail in omega (arith, long);
  replicas = λ r replica at. let here = value_at (replica_of run.nodes) layout.replicas r replica at in
      subst (λ (x : Replica). IsReplicaOf layout (entries_to means w.log.entry w.log.tail) w.log.tail x) (sym here.1)
      (its_replica r here.0);
  collected = λ r replica update at there. absurd (none_collected r replica update at there);
  batches = λ r replica at. let here = value_at (replica_of run.nodes) layout.replicas r replica at in
      subst (λ (x : Replica). IsDistinct nat_eq (map (λ (update : Collected). update.entry.call) x.batch)) (sym here.1)
      (option_distinct None);
} where
  w : World
  w = run.nodes.world

  state : State
  state = state_of layout means run

  on : Grows (shared_of layout means run.events run.nodes) (shared_in state)
  on = record {
    have = replies_have_calls layout (shared_of layout means run.events run.nodes) is.replies;
    within = let long = length-values_to (λ p. means (w.log.entry p)) w.log.tail in let below = is.stated.held.below in
        omega (arith, below, long);
    longer = record { stays = λ i x at. at; stood = λ i x lt at. at };
    entry_stays = λ i x at. at;
    rises = is.stated.held.below;
    goes_on = λ r x at. (x, at, omega arith);
  }

  fits : (t : ℕ) (thread : Thread) → IsPlain thread → FitsStage layout (shared_in state) t thread.stage
  fits t thread (inl none) = subst (FitsStage layout (shared_in state) t) (sym none) tt
  fits t thread (inr (call, waits)) = subst (FitsStage layout (shared_in state) t) (sym waits) tt

  none_waits : (thread : Thread) (call : ℕ) → IsPlain thread → waiting_in thread.stage ≡ Some call → ⊥
  none_waits thread call (inl none) waits = none-some call (sym (ap waiting_in none) ∙ waits)
  none_waits thread call (inr (other, taken)) waits = none-some call (sym (ap waiting_in taken) ∙ waits)

  its_replica : (r : ℕ) → r < layout.replicas
      → IsReplicaOf layout (entries_to means w.log.entry w.log.tail) w.log.tail (replica_of run.nodes r)
  its_replica r lt =
      let k = is.stated.held.kept.actors r lt in
      let order = k.order in
      let one = order.0 in
      let two = order.1 in
      let three = k.seen in
      let below : (w.actor r).applied ≤ w.log.tail = omega (arith, one, two, three) in
      record {
        fetched = omega arith;
        known = below;
        space = is.stated.state r lt ∙ space_is layout means w.log.entry w.log.tail (w.actor r).applied below;
      }

  none_collected : (r : ℕ) (replica : Replica) (update : Collected) → At (values_to (replica_of run.nodes) layout.replicas) r replica
      → In update replica.batch → ⊥
  none_collected r replica update at there =
      subst (λ (x : Replica). In update x.batch) (value_at (replica_of run.nodes) layout.replicas r replica at).1 there

-- ---- all notes

noted_one : (layout : Layout) (means : Update → LogEntry) (run : Run) (note : Note) → layout.replicas ≤ 64 → IsNoted layout means run
    → MayNote layout means run note → IsNoted layout means (noted layout means run note)
noted_one layout means run (Calls t r request) most is may = called layout means run t r request is may
noted_one layout means run (Takes act) most is may = takes layout means run act most is may
noted_one layout means run (Reads n call) most is may = reads layout means run n call most is may
noted_one layout means run (Replies t call place answer) most is may = replied layout means run t call place answer is may

noted_each : (layout : Layout) (means : Update → LogEntry) (run : Run) (notes : List Note) → layout.replicas ≤ 64 → IsNoted layout means run
    → MayAll layout means run notes → IsNoted layout means (noted_all layout means run notes)
noted_each layout means run [] most is may = is
noted_each layout means run (note ∷ notes) most is may =
    noted_each layout means (noted layout means run note) notes most (noted_one layout means run note most is may.0) may.1

at_idle : (n t : ℕ) (thread : Thread) → At (replicate n idle) t thread → idle ≡ thread
at_idle zero t thread at = absurd (none-some thread at)
at_idle (suc n) zero thread at = same_Some idle thread at
at_idle (suc n) (suc t) thread at = at_idle n t thread at

new_noted : (layout : Layout) (means : Update → LogEntry) → IsNoted layout means (new_run layout means)
new_noted layout means = record {
  stated = first_stated layout.replicas (space_kind layout means);
  calls = record {
    opened =
        λ t thread call at is. absurd (none-some call (ap (λ (x : Thread). open_in x.stage) (at_idle layout.threads t thread at) ∙ is));
    ended = λ call made at. absurd (none-some made at);
    once = λ first second call lt h k. absurd (none-some h.0 h.1);
    in_turn = λ earlier later first second lt at there. absurd (none-some first at);
  };
  threads = λ t thread at. inl (ap (λ (x : Thread). x.stage) (sym (at_idle layout.threads t thread at)));
  replies = λ index reply at. absurd (none-some reply at);
  placed = record {
    apart = λ p q lt below. absurd (omega (arith, below));
    marked = λ p below. absurd (omega (arith, below));
    entries = λ p below. absurd (omega (arith, below));
    calls = λ n lt i within. absurd (omega (arith, within));
    taken = λ n lt i within. absurd (omega (arith, within));
    fresh = λ n lt none i p within. absurd (omega (arith, within));
    own = λ n lt none i j below within. absurd (omega (arith, within));
    others = λ n m apart lt there none none' i j within. absurd (omega (arith, within));
  };
  readers = λ c waits. absurd (cc);
  ended = tt;
}

-- of a recording of such a state
module _ (state : State) (version : Version) (dumps : List Image) (reached : IsReached state) (are : AreDumps state dumps) where
  clean : HasCleanLog (recording state version dumps)
  clean = clean_log state version dumps reached

  faultless : IsFaultless (recording state version dumps)
  faultless (ThreadOpen index) h = clean.no_thread_open index h
  faultless (NoSuchCall index) h = clean.no_such_call index h
  faultless (AnsweredTwice index) h = clean.none_twice index h
  faultless (NotAnUpdate place) h = clean.updates_alone place h
  faultless (PlacedTwice place) h = clean.placed_once place h
  faultless (NotPlaced index) h = clean.all_placed index h
  faultless (PastLog index) h = clean.none_past_log index h
  faultless (Early call) h = none_early state version dumps call reached h
  faultless (WrongAnswer call) h = none_wrong state version dumps call reached h
  faultless (PrefixPastLog r) h = none_past_log state version dumps r reached are h
  faultless (PrefixShort r) h = none_short state version dumps r reached are h
  faultless (MissingFrame r number) h = none_in_walk state dumps r _ are h
  faultless (SharedFrame r number) h = none_in_walk state dumps r _ are h
  faultless (ReservedBit r number index) h = none_in_walk state dumps r _ are h
  faultless (StrayFrame r number) h = none_stray state version dumps r number are h
  faultless (Differs r address) h = none_differs state version dumps r address reached are h
  faultless _ h = h

pub none_of_runs : (trace : Recording) → IsRecordingOfRun trace → IsFaultless trace
none_of_runs trace is =
    let run = noted_all is.layout is.means (new_run is.layout is.means) is.notes in
    let reached = is_reached is.layout is.means run
    (noted_each is.layout is.means (new_run is.layout is.means) is.notes is.few (new_noted is.layout is.means) is.may) in
    of_recording IsFaultless (state_of is.layout is.means run) trace is.recorded
    (λ version dumps are. faultless (state_of is.layout is.means run) version dumps reached are)

pub legal_of_runs : (trace : Recording) → IsRecordingOfRun trace → IsLegalOrder trace (recorded_order trace)
legal_of_runs trace is = legal_if_faultless no_pages trace (none_of_runs trace is)

pub fits_of_runs : (trace : Recording) (replica : ℕ) (dump : Image) → IsRecordingOfRun trace → slice_get trace.dumps replica ≡ Some dump
    → IsThere dump
    → FitsOrder trace (recorded_order trace) replica dump
fits_of_runs trace replica dump is at there = fits_if_faultless no_pages trace replica dump (none_of_runs trace is) at there
