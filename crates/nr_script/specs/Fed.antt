-- What a piece of a script makes of the line that has begun.
use Rattle.std.specs.Prelude.{◌≡◌, ◌<◌, ◌≤◌, ◌++◌, ℕ, List, [], ◌∷◌, Option, length, take}
use Rattle.vs_types.specs.Finds.{Finds}
use Rattle.vs_types.specs.declared.addresses.depth.Depth.{Depth}
use Rattle.nr_script.specs.Lines.{lines, Says}
use Rattle.nr_script.specs.declared.line.Line.{Line}
use Rattle.nr_script.specs.declared.line_feed.Fed.{Fed}
use Rattle.nr_script.specs.declared.line_feed.Fed.TheVariants.{More, Ended}

-- the lines of a text are these, and behind them one that has begun
abbrev pub EndsIn : List ℕ → List (List ℕ) → List ℕ → Type 0
EndsIn text before begun = lines text ≡ before ++ begun ∷ []

-- the line goes on: of any text that ends in it, with the piece, the lines before it are the same
pub record GoesOn (old piece new : List ℕ) : Type 0 where
  pub more : new ≡ old ++ piece
  pub lines_are : (text : List ℕ) (before : List (List ℕ)) → EndsIn text before old → EndsIn (text ++ piece) before new

-- so many bytes at the front of the piece end the line: of any text that ends in it, with them, it is a line more, and the next has begun
pub record EndsLine (depth : Depth) (old piece new : List ℕ) (count : ℕ) (said : Option Line) : Type 0 where
  pub some : 0 < count
  pub within : count ≤ length piece
  pub none_begun : new ≡ []
  pub line : List ℕ
  pub says : Finds (Says depth line) said
  pub lines_are : (text : List ℕ) (before : List (List ℕ)) → EndsIn text before old → EndsIn (text ++ take count piece) (before ++ line ∷ []) new

-- what a piece makes of the line that has begun
abbrev pub FeedsLine : Depth → List ℕ → List ℕ → List ℕ → Fed → Type 0
FeedsLine depth old piece new More = GoesOn old piece new
FeedsLine depth old piece new (Ended count said) = EndsLine depth old piece new count said
