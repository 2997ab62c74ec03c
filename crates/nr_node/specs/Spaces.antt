-- The address space that the entries of a log make, and what each of them is answered.
use Rattle.std.specs.Prelude.{ℕ, List, map, take}
use Rattle.vs_types.specs.Space.{Space, no_pages}
use Rattle.vs_types.specs.Step.{step, after_all}
use Rattle.vs_types.specs.declared.requests.answer.Answer.{Answer}
use Rattle.vs_types.specs.declared.addresses.depth.Depth.{Depth}
use Rattle.vs_types.specs.declared.log_entry.LogEntry.{LogEntry}
use Rattle.vs_types.specs.declared.requests.op.Action.{Action}

-- the space after the operations of these entries, from the empty space on, under a limit of tables
abbrev pub space_of : Depth → ℕ → List LogEntry → Space
space_of depth tables entries = after_all depth tables no_pages (map (λ entry. entry.op) entries)

-- the space after the first n entries
abbrev pub space_at : Depth → ℕ → List LogEntry → ℕ → Space
space_at depth tables entries n = space_of depth tables (take n entries)

-- what an operation is answered at a place: in the space after the entries before that place
abbrev pub answer_at : Depth → ℕ → List LogEntry → ℕ → Action → Answer
answer_at depth tables entries place op = (step depth tables (space_at depth tables entries place) op).answer
