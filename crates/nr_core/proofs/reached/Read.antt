-- Read.
use Rattle.std.proofs.Common.{◌≡◌, ℕ, ◌+◌, ◌≤◌, Option, None, refl, ap, sym, ◌∙◌, subst, arith}
use Rattle.std.specs.Option.{option_map_or}
use Rattle.std.proofs.lemmas.Option.{same_Some, none-some}
use Rattle.vs_types.specs.declared.requests.op.Action.{Action}
use Rattle.vs_types.specs.declared.requests.request.Query.{Query}
use Rattle.nr_trace.specs.Calls.{operation_in}
use Rattle.nr_trace.specs.Orders.{answer_in}
use Rattle.nr_core.specs.State.{State, Thread, Replica, home, with_thread}
use Rattle.nr_core.specs.declared.states.stage.Answered.{Answered}
use Rattle.nr_core.specs.declared.states.stage.Stage.TheVariants.{Looked, HasRead}
use Rattle.nr_core.specs.inside.Reached.{At, made_of, reach, Behind, shared_in, FitsStage, IsRight, IsReplicaOf, open_in, IsReached}
use Rattle.nr_core.proofs.reached.Changes.{thread_changes, collected_keep}
use Rattle.nr_core.proofs.reached.Growth.{behind_more}

reach_of_read : (o : Option Action) (n : ℕ) → o ≡ None → option_map_or (λ (action : Action). n + 1) o n ≡ n
reach_of_read o n e = rw e refl

pub has_read : (state : State) (t : ℕ) (thread : Thread) (replica : Replica) (call : ℕ) (request : Query) (completed : ℕ) → IsReached state
    → At state.threads t thread → At state.replicas (home state t) replica → thread.stage ≡ Looked call request completed → completed ≤ replica.applied
    → IsReached (with_thread state t (record thread {
      stage = HasRead (record { call = call; at = replica.applied; answer = answer_in state.layout replica.space request });
    }))
has_read state t thread replica call request completed reached at there is less =
    let a : Answered = record { call = call; at = replica.applied; answer = answer_in state.layout replica.space request } in
    let next : Thread = record thread { stage = HasRead a } in
    let (asks, reads, behind) = subst (FitsStage state.layout (shared_in state) t) is (reached.threads t thread at) in
    thread_changes state t thread next reached at (sym (ap open_in is))
    (request, asks, right reads behind (reached.replicas (home state t) replica there) (reach_of_read (operation_in request) replica.applied reads))
    (λ c e. absurd (none-some c e)) (collected_keep state t thread next reached at (λ c e. cc)) where
      right : operation_in request ≡ None → Behind state.events call completed → IsReplicaOf state.layout state.log state.completed replica
          → reach request replica.applied ≡ replica.applied
          → IsRight state.layout (shared_in state) (made_of state.layout t request) call replica.applied
          (answer_in state.layout replica.space request)
      right reads behind is none = record {
        placed = λ action e. absurd (none-some action (sym reads ∙ e));
        known = let l : reach request replica.applied ≤ state.completed = omega (arith, none, is.fetched, is.known) in l;
        here = λ other e.
            let same : replica.applied ≡ other.applied = ap (λ (x : Replica). x.applied) (same_Some replica other (sym there ∙ e)) in
            let l : reach request replica.applied ≤ other.applied = omega (arith, none, same) in l;
        answered = ap (λ space. answer_in state.layout space request) is.space;
        in_time = behind_more state.events call completed replica.applied less behind;
      }
