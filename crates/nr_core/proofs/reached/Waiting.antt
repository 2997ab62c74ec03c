-- Calls that are open, and the updates of batches.
use Rattle.std.proofs.Common.{◌≡◌, ℕ, slice_get, Some, refl, ap, sym, ◌∙◌}
use Rattle.std.proofs.lemmas.Option.{same_Some, none-some}
use Rattle.vs_types.specs.declared.requests.request.Query.TheVariants.{Update}
use Rattle.nr_trace.specs.Calls.{Invocation}
use Rattle.nr_trace.proofs.LawsOfLists.{In}
use Rattle.nr_core.specs.State.{State, Thread, Replica}
use Rattle.nr_core.specs.declared.states.stage.Collected.{Collected}
use Rattle.nr_core.specs.declared.states.stage.Stage.{Stage}
use Rattle.nr_core.specs.declared.states.stage.Stage.TheVariants.{Called, Posted, Taken}
use Rattle.nr_core.specs.inside.Reached.{At, call_at, made_of, open_in, waiting_in, IsReached}

-- a waiting call is open
pub waiting_is_open : (stage : Stage) (call : ℕ) → waiting_in stage ≡ Some call → open_in stage ≡ Some call
waiting_is_open (Called c request) call e = e
waiting_is_open (Posted c action) call e = e
waiting_is_open _ call e = absurd (none-some call e)

-- two calls of one number are one call
pub same_thread : (state : State) (call other s t : ℕ) (made : Invocation) → call ≡ other → made.thread ≡ s
    → (first : Invocation) → first.thread ≡ t → call_at state.events call ≡ Some made → call_at state.events other ≡ Some first → s ≡ t
same_thread state call other s t made e f first g is_made is_first =
    let one : made ≡ first = same_Some made first (sym is_made ∙ ap (call_at state.events) e ∙ is_first) in
    sym f ∙ ap (λ (m : Invocation). m.thread) one ∙ g

-- an item in a batch with the open call of a thread is of this thread, whose call is taken
pub collector : (state : State) (r t call : ℕ) (replica : Replica) (update : Collected) (thread : Thread) → IsReached state → At state.replicas r replica
    → In update replica.batch → At state.threads t thread → open_in thread.stage ≡ Some call → update.entry.call ≡ call
    → (update.thread ≡ t) × (thread.stage ≡ Taken call)
collector state r t call replica update thread reached there i at is e =
    let item = reached.collected r replica update there i in
    let (made, is_made, of_t, no_reply) = reached.calls.opened t thread call at is in
    let same = same_thread state update.entry.call call update.thread t (made_of state.layout update.thread (Update update.entry.op)) e refl made of_t
    item.asks is_made in
    let (other, other_at, taken) = item.taken in
    let one : other ≡ thread = same_Some other thread (sym other_at ∙ ap (slice_get state.threads) same ∙ at) in
    (same, ap (λ (x : Thread). x.stage) (sym one) ∙ taken ∙ ap Taken e)

pub waiting_not_collected : (state : State) (r t call : ℕ) (replica : Replica) (update : Collected) (thread : Thread) → IsReached state
    → At state.replicas r replica → In update replica.batch → At state.threads t thread → waiting_in thread.stage ≡ Some call → update.entry.call ≡ call
    → ⊥
waiting_not_collected state r t call replica update thread reached there i at is e =
    let both = collector state r t call replica update thread reached there i at (waiting_is_open thread.stage call is) e in
    none-some call (sym (ap waiting_in both.1) ∙ is)
