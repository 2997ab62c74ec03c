-- Apply.
use Rattle.std.proofs.Common.{◌≡◌, ℕ, ◌+◌, ◌<◌, ◌≤◌, slice_get, Bool, true, false, nat_eq, ◌==◌, List, [], ◌∷◌, map, Some, refl, ap, ap₂, sym, ◌∙◌, subst}
use Rattle.std.proofs.Common.{arith, eqb-true}
use Rattle.std.specs.Prelude.{slice_set, if◌then◌else◌}
use Rattle.std.specs.List.{IsDistinct}
use Rattle.std.proofs.lemmas.List.{take-map}
use Rattle.std.proofs.lemmas.Option.{same_Some}
use Rattle.vs_types.proofs.Afterwards.{after_next}
use Rattle.vs_types.specs.Config.{Layout}
use Rattle.vs_types.specs.Space.{Space, no_pages}
use Rattle.vs_types.specs.Step.{step, after_all}
use Rattle.vs_types.specs.declared.log_entry.LogEntry.{LogEntry}
use Rattle.vs_types.specs.declared.requests.op.Action.{Action}
use Rattle.vs_types.specs.declared.requests.request.Query.TheVariants.{Update}
use Rattle.nr_trace.specs.Calls.{Invocation, operation_in}
use Rattle.nr_trace.proofs.LawsOfLists.{In, in_map}
use Rattle.nr_core.specs.State.{State, Replica, with_replica}
use Rattle.nr_core.specs.Steps.{note, with_entry}
use Rattle.nr_core.specs.declared.states.stage.Answered.{Answered}
use Rattle.nr_core.specs.declared.states.stage.Collected.{Collected}
use Rattle.nr_core.specs.inside.Reached.{request_made, At, call_at, made_of, space_at, shared_in, IsRight, IsCollected, IsReplicaOf, IsReached}
use Rattle.nr_core.proofs.reached.Places.{at_set, at_mapped}
use Rattle.nr_core.proofs.reached.Changes.{replica_changes, still_collected}

-- ---- the space after one entry more

space_goes_on : (layout : Layout) (log : List LogEntry) (n : ℕ) (entry : LogEntry) → At log n entry
    → space_at layout log (n + 1) ≡ (step layout.depth layout.tables (space_at layout log n) entry.op).space
space_goes_on layout log n entry e =
    let op : LogEntry → Action = λ x. x.op in
    ap (after_all layout.depth layout.tables no_pages) (sym (take-map op (n + 1) log))
    ∙ after_next layout.depth layout.tables n (map op log) entry.op (at_mapped op log n entry e)
    ∙ ap (λ actions. (step layout.depth layout.tables (after_all layout.depth layout.tables no_pages actions) entry.op).space) (take-map op n log)

-- ---- notes

note_call : (a : Answered) (u : Collected) → (note a u).entry.call ≡ u.entry.call
note_call a u = by_test (u.entry.call == a.call) where
  by_test : (b : Bool) → (let x : Collected = if b then record u { noted = Some a } else u in x.entry.call) ≡ u.entry.call
  by_test true = refl
  by_test false = refl

noted_calls : (a : Answered) (batch : List Collected) → map (λ (u : Collected). u.entry.call) (map (note a) batch) ≡ map (λ (u : Collected). u.entry.call) batch
noted_calls a [] = refl
noted_calls a (u ∷ batch) = ap₂ ◌∷◌ (note_call a u) (noted_calls a batch)

pub applied : (state : State) (r : ℕ) (replica : Replica) (entry : LogEntry) → IsReached state → At state.replicas r replica
    → At state.log replica.applied entry → replica.applied < replica.local
    → IsReached (with_replica state r (with_entry state replica entry))
applied state r replica entry reached there stands less =
    replica_changes state r replica later reached there (omega arith) (record {
      fetched = omega arith;
      known = is.known;
      space = ap (λ (space : Space). (step state.layout.depth state.layout.tables space entry.op).space) is.space
          ∙ sym (space_goes_on state.layout state.log replica.applied entry stands);
    })
    (λ v i. each v (in_map (note a) replica.batch v i)) (subst (IsDistinct nat_eq) (sym (noted_calls a replica.batch)) (reached.batches r replica there)) where
      is : IsReplicaOf state.layout state.log state.completed replica
      is = reached.replicas r replica there

      a : Answered
      a = record {
        call = entry.call;
        at = replica.applied;
        answer = (step state.layout.depth state.layout.tables replica.space entry.op).answer;
      }

      later : Replica
      later = with_entry state replica entry

      same_operation : (action : Action) (made first : Invocation) → request_made made ≡ Update action → request_made first ≡ Update entry.op → made ≡ first
          → action ≡ entry.op
      same_operation action made first e f one =
          same_Some action entry.op
          (ap operation_in (sym e) ∙ ap (λ (m : Invocation). operation_in (request_made m)) one ∙ ap operation_in f)

      base : (u : Collected) → In u replica.batch
          → IsCollected state.layout (shared_in (with_replica state r later)) state.threads r replica.placed u
      base u i = still_collected state r replica later u reached there (omega arith) (λ h. h) i

      right : (u : Collected) → In u replica.batch → u.entry.call ≡ entry.call
          → IsRight state.layout (shared_in (with_replica state r later)) (made_of state.layout u.thread (Update u.entry.op))
          entry.call replica.applied a.answer
      right u i e =
          let item = reached.collected r replica u there i in
          let (made, is_made, asks, behind) = reached.entries replica.applied entry stands in
          let same : u.entry.op ≡ entry.op = same_operation u.entry.op (made_of state.layout u.thread (Update u.entry.op)) made refl asks
          (same_Some (made_of state.layout u.thread (Update u.entry.op)) made (sym item.asks ∙ ap (call_at state.events) e ∙ is_made)) in
          record {
            placed = λ action f. (entry, stands, refl);
            known = known is.known;
            here = λ x f. here x (same_Some later x
                (sym (at_set state.replicas r replica later there) ∙ ap (slice_get (slice_set state.replicas r later)) (sym item.home) ∙ f));
            answered = ap (λ (space : Space). (step state.layout.depth state.layout.tables space entry.op).answer) is.space
                ∙ ap (λ (action : Action). (step state.layout.depth state.layout.tables (space_at state.layout state.log replica.applied) action).answer)
                (sym same);
            in_time = behind;
          } where
            known : replica.local ≤ state.completed → replica.applied + 1 ≤ state.completed
            known l = omega arith

            here : (x : Replica) → later ≡ x → replica.applied + 1 ≤ x.applied
            here x one = let f : replica.applied + 1 ≡ x.applied = ap (λ (y : Replica). y.applied) one in omega arith

      noted : (u : Collected) → In u replica.batch → (b : Bool) → (u.entry.call == a.call) ≡ b
          → IsCollected state.layout (shared_in (with_replica state r later)) state.threads r replica.placed
          (if b then record u { noted = Some a } else u)
      noted u i true e =
          let same = eqb-true u.entry.call a.call e in
          let old = base u i in
          record {
            home = old.home;
            taken = old.taken;
            asks = old.asks;
            noted = λ b f. subst (λ (x : Answered). (x.call ≡ u.entry.call) × IsRight state.layout
                (shared_in (with_replica state r later)) (made_of state.layout u.thread (Update u.entry.op)) x.call x.at x.answer) (same_Some a b f)
                (sym same, right u i same);
            fresh = old.fresh;
          }
      noted u i false e = base u i

      each : (v : Collected) → (u : Collected) × In u replica.batch × (note a u ≡ v)
          → IsCollected state.layout (shared_in (with_replica state r later)) state.threads r replica.placed v
      each v (u, i, e) = subst (λ (x : Collected).
          IsCollected state.layout (shared_in (with_replica state r later)) state.threads r replica.placed x) e
          (noted u i (u.entry.call == a.call) refl)
