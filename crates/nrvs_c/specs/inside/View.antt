-- The memory lent, as a walk through the tables reads it.
use Rattle.std.specs.Prelude.{ℕ, List, length}
use Rattle.std.specs.List.{slice_get}
use Rattle.vs_arena.specs.Marked.{all_below}
use Rattle.vs_walk.specs.Memory.{Memory}
use Rattle.vs_space.specs.Held.{numbered}

-- all frames that are lent, in use or not, by number; the first has this one
abbrev pub lent_memory : ℕ → List (List ℕ) → Memory
lent_memory base words = numbered base (all_below (length words) (slice_get words))
