-- Post.
use Rattle.std.proofs.Common.{◌≡◌, ℕ, ap, sym, ◌∙◌, subst}
use Rattle.vs_types.specs.declared.requests.op.Action.{Action}
use Rattle.vs_types.specs.declared.requests.request.Query.TheVariants.{Update}
use Rattle.nr_core.specs.State.{State, Thread, with_thread}
use Rattle.nr_core.specs.declared.states.stage.Stage.TheVariants.{Called, Posted}
use Rattle.nr_core.specs.inside.Reached.{At, shared_in, FitsStage, open_in, waiting_in, IsReached}
use Rattle.nr_core.proofs.reached.Changes.{thread_changes, collected_keep}

pub posted : (state : State) (t : ℕ) (thread : Thread) (call : ℕ) (action : Action) → IsReached state → At state.threads t thread
    → thread.stage ≡ Called call (Update action) → IsReached (with_thread state t (record thread { stage = Posted call action }))
posted state t thread call action reached at is =
    let next : Thread = record thread { stage = Posted call action } in
    thread_changes state t thread next reached at (sym (ap open_in is))
    (subst (FitsStage state.layout (shared_in state) t) is (reached.threads t thread at)) (λ c e. ap waiting_in is ∙ e)
    (collected_keep state t thread next reached at (λ c e. cc))
