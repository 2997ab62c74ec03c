-- How the frames of an arena in one region are kept. No public clause cites it.
use Rattle.std.specs.Prelude.{◌≡◌, ℕ, ◌-◌, Bool, List, [], ◌∷◌, ◌++◌, map, length, replicate, Option, Some, None}
use Rattle.vs_arena.specs.Marked.{IsArena}

-- the values of the places that have one
abbrev pub values : {X : Type 0} → List (Option X) → List X
values [] = []
values (None ∷ places) = values places
values (Some x ∷ places) = x ∷ values places

-- the first places have the frames that were ever taken, and the others nothing
pub record IsRawArena (base size : ℕ) (places : List (Option (List ℕ))) (marks : List Bool) (notes free : List ℕ) : Type 0 where
  pub arena : IsArena base size (values places) marks notes free
  pub laid : places ≡ map Some (values places) ++ replicate (size - length (values places)) None
