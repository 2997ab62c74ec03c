-- The words beside a cell, each of which belongs to one pass at most.
use Rattle.std.specs.Prelude.{◌≡◌, ◌≢◌, ℕ, ◌+◌, ◌-◌, ◌<◌, ◌≤◌, List, length, slice_index}
use mathlib.Core.Option.{some}
use lib.ListN.{get_elem?}

-- the place is among those of words from one on
abbrev pub IsOwn : ℕ → List ℕ → ℕ → Type 0
IsOwn from own place = (from ≤ place) × (place < from + length own)

-- and the word lies there
abbrev pub LiesIn : ℕ → List ℕ → ℕ → ℕ → Type 0
LiesIn from own place word = IsOwn from own place × (slice_index own (place - from) ≡ word)

-- whatever the others know when a pass has the value go from x to y, each word that x needs and another counts on is needed still
abbrev pub Leaves : {V X : Type 0} → (X → List V → Type 0) → (X → ℕ → ℕ → Type 0) → (V → X → ℕ → ℕ → Type 0) → ℕ → V → X → X → Type 0
Leaves {V} {X} holds needs lasts pass v x y = (views : List V) → holds x views → get_elem? views pass ≡ some v
    → (other : ℕ) (w : V) (seen : X) (place word : ℕ) → other ≢ pass → get_elem? views other ≡ some w
    → lasts w seen place word → needs seen place word → needs x place word → needs y place word
