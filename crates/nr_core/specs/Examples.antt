-- A worked example: one thread of one replica maps a page and resolves an address in it, by each of the twelve steps.
use Rattle.std.specs.Prelude.{List, [], ◌∷◌, map}
use Rattle.vs_types.specs.declared.requests.request.Query.{Query}
use Rattle.nr_trace.specs.Examples.{map_it, resolve_it, map_then_resolve}
use Rattle.nr_core.specs.State.{State, start}
use Rattle.nr_core.specs.Run.{after_steps}
use Rattle.nr_core.specs.declared.runs.step.Act.{Act}
use Rattle.nr_core.specs.declared.runs.step.Act.TheVariants.{Call, Post, Take, Collect, Append, Advance, Apply, Answer, Release, Look, Read, Reply}
use Rattle.nr_core.specs.declared.runs.step.Step.{Step}

abbrev pub one_script : List (List Query)
one_script = (map_it ∷ resolve_it ∷ []) ∷ []

-- steps of thread 0
abbrev pub by_thread_0 : List Act → List Step
by_thread_0 acts = map (λ act. record { thread = 0; act = act }) acts

-- as a combiner of its own update, and then as a reader
abbrev pub map_and_resolve : List Step
map_and_resolve = by_thread_0
    (Call ∷ Post ∷ Take 0 ∷ Collect 0 ∷ Append ∷ Advance ∷ Apply ∷ Answer 0 ∷ Release ∷ Reply ∷ Call ∷ Look ∷ Read ∷ Reply ∷ [])

abbrev pub after_both : State
after_both = after_steps (start map_then_resolve.layout one_script) map_and_resolve
