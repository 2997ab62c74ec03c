-- Look.
use Rattle.std.proofs.Common.{◌≡◌, ℕ, None, ap, sym, subst}
use Rattle.std.proofs.lemmas.Option.{none-some}
use Rattle.vs_types.specs.declared.requests.request.Query.{Query}
use Rattle.nr_trace.specs.Calls.{operation_in}
use Rattle.nr_core.specs.State.{State, Thread, with_thread}
use Rattle.nr_core.specs.declared.states.stage.Stage.TheVariants.{Called, Looked}
use Rattle.nr_core.specs.inside.Reached.{At, shared_in, FitsStage, open_in, IsReached}
use Rattle.nr_core.proofs.reached.Changes.{thread_changes, collected_keep}
use Rattle.nr_core.proofs.reached.Growth.{behind_completed}

pub looked : (state : State) (t : ℕ) (thread : Thread) (call : ℕ) (request : Query) → IsReached state → At state.threads t thread
    → thread.stage ≡ Called call request → operation_in request ≡ None
    → IsReached (with_thread state t (record thread { stage = Looked call request state.completed }))
looked state t thread call request reached at is reads =
    let next : Thread = record thread { stage = Looked call request state.completed } in
    thread_changes state t thread next reached at (sym (ap open_in is)) (
      subst (FitsStage state.layout (shared_in state) t) is (reached.threads t thread at),
      reads,
      behind_completed state.layout (shared_in state) call reached.replies,
    )
    (λ c e. absurd (none-some c e)) (collected_keep state t thread next reached at (λ c e. cc))
