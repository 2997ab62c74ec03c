-- Steps in turn.
use Rattle.std.proofs.Common.{◌≡◌, ℕ, ◌+◌, ◌<◌, ◌≤◌, Bool, List, length, take, get_or, Option, Some, None, subst, ap, sym, ◌∙◌}
use Rattle.std.proofs.lemmas.List.{take_all}
use Rattle.std.proofs.lemmas.List.Sums.{fold_more}
use Rattle.std.specs.Prelude.{unwrap_or}
use Rattle.vs_types.specs.Config.{Layout}
use Rattle.vs_types.specs.declared.requests.request.Query.{Query}
use Rattle.nr_trace.specs.Recording.{Recording}
use Rattle.nr_core.specs.State.{State, start}
use Rattle.nr_core.specs.Steps.{after_step}
use Rattle.nr_core.specs.Run.{after_steps, IsRecordingOf, IsStepped}
use Rattle.nr_core.specs.declared.runs.step.Step.{Step}

stepped : (old : State) (o : Option State) (done : Bool) (new : State) → IsStepped old o done new → new ≡ unwrap_or o old
stepped old None done new is = is.1
stepped old (Some next) done new is = is.1

-- one step more
pub stepped_more : (first core next : State) (steps : List Step) (i : ℕ) (d : Step) (done : Bool) → i < length steps → core ≡ after_steps first (take i steps)
    → IsStepped core (after_step core (get_or steps i d)) done next → next ≡ after_steps first (take (i + 1) steps)
stepped_more first core next steps i d done within before taken =
    stepped core (after_step core (get_or steps i d)) done next taken
    ∙ ap (λ s. unwrap_or (after_step s (get_or steps i d)) s) before
    ∙ sym (fold_more (λ s step. unwrap_or (after_step s step) s) first steps i d within)

-- after all of them
pub is_after_all : (layout : Layout) (scripts : List (List Query)) (steps : List Step) (core : State) (trace : Recording) (i : ℕ) → length steps ≤ i
    → core ≡ after_steps (start layout scripts) (take i steps) → IsRecordingOf core trace → IsRecordingOf (after_steps (start layout scripts) steps) trace
is_after_all layout scripts steps core trace i past before is =
    subst (λ s. IsRecordingOf s trace) (before ∙ ap (after_steps (start layout scripts)) (take_all i steps past)) is
