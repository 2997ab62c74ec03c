-- Works of one node that can be done to the end of a call, with whatever plan is right for its entry.
use Rattle.std.specs.Prelude.{ℕ, List, [], ◌∷◌, Option}
use Rattle.vs_types.specs.Space.{Space}
use Rattle.vs_types.specs.declared.requests.answer.Answer.{Answer}
use Rattle.vs_walk.specs.Memory.{Memory}
use Rattle.vs_plan.specs.declared.plans.plan.Plan.{Plan}
use Rattle.vs_plan.specs.declared.plans.request.Request.{Request}
use Rattle.vs_plan.specs.Processor.{Moment}
use Rattle.nr_machine.specs.declared.words.Operation.TheVariants.{Load, Store, Exchange, Max}
use Rattle.nr_machine.specs.declared.words.Word.TheVariants.{Head, Completed, Local, Done, First, Second}
use Rattle.nr_machine.specs.States.{Kind}
use Rattle.nr_machine.specs.World.Act.{Begins, Does, Ends}
use Rattle.nr_nodes_space.specs.Tables.{Tables, Work, after_works, new_tables}
use Rattle.nr_nodes_space.specs.Tables.Work.{CarriesOut, Takes}

-- a node alone, with a memory
abbrev pub one_table : Kind Space Answer → Memory → Tables
one_table kind memory = new_tables 1 kind (λ n. memory)

-- it appends an entry, and takes it
abbrev pub first_works : List Work
first_works = Takes (Begins 0 (record { first = 7; second = 3 } ∷ [])) ∷ Takes (Does 0 (Load Head)) ∷ Takes (Does 0 (Store (First 0 0) 7))
    ∷ Takes (Does 0 (Store (Second 0 0) 384)) ∷ Takes (Does 0 (Exchange Head 0 128)) ∷ Takes (Does 0 (Load (First 0 0)))
    ∷ Takes (Does 0 (Load (Second 0 0))) ∷ Takes (Does 0 (Store (Local 0) 1)) ∷ []

-- where the plan is carried out
abbrev pub at_plan : Kind Space Answer → Memory → Tables
at_plan kind memory = after_works kind (one_table kind memory) first_works

-- then it carries a plan out, flushes, says that the entry is completed, and the call ends
abbrev pub example : Request → List (Option ℕ) → Plan → Memory → List Moment → List Work
example request offered plan now lived = Takes (Begins 0 (record { first = 7; second = 3 } ∷ [])) ∷ Takes (Does 0 (Load Head))
    ∷ Takes (Does 0 (Store (First 0 0) 7)) ∷ Takes (Does 0 (Store (Second 0 0) 384)) ∷ Takes (Does 0 (Exchange Head 0 128))
    ∷ Takes (Does 0 (Load (First 0 0))) ∷ Takes (Does 0 (Load (Second 0 0))) ∷ Takes (Does 0 (Store (Local 0) 1))
    ∷ CarriesOut 0 request offered plan now lived ∷ Takes (Does 0 (Store (Done 0) 1)) ∷ Takes (Does 0 (Load Completed))
    ∷ Takes (Does 0 (Max Completed 1)) ∷ Takes (Ends 0) ∷ []
