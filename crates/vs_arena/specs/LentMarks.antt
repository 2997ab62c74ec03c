-- How the frames of an arena over lent memory are kept.
use Rattle.std.specs.Prelude.{ℕ, zero, suc, ◌<◌, ◌≤◌, Bool, nat_eq, List, [], ◌∷◌, ◌++◌, map, take, length, slice_index}
use Rattle.vs_arena.specs.declared.mark.FrameMark.{FrameMark}
use Rattle.vs_arena.specs.declared.mark.TheConstants.{IN_USE}
use Rattle.vs_arena.specs.Marked.{IsArena}

-- what each of the first n marks has
abbrev pub column : {X : Type 0} → (FrameMark → X) → ℕ → List FrameMark → List X
column part n marks = map part (take n marks)

-- whether each of so many frames is in use
abbrev pub uses_of_first : ℕ → List FrameMark → List Bool
uses_of_first = column (λ mark. nat_eq mark.before IN_USE)

-- the note of each of so many frames
abbrev pub notes_of_first : ℕ → List FrameMark → List ℕ
notes_of_first = column (λ mark. mark.note)

-- so many frames, of which this is the last; each names the one before it
unfoldable pub chain : ℕ → ℕ → List ℕ → List ℕ
chain zero last before = []
chain (suc n) last before = chain n (slice_index before last) before ++ last ∷ []

-- the frames that were freed, so many, and this one last, by the marks of those that were ever taken
abbrev pub given_back : ℕ → ℕ → ℕ → List FrameMark → List ℕ
given_back taken given last marks = chain given last (column (λ mark. mark.before) taken marks)

-- lent words and marks, where so many frames, which come first, were ever taken, so many of these freed, and this one last, or any
-- where none was
pub record IsLentArena (base taken given last : ℕ) (words : List (List ℕ)) (marks : List FrameMark) : Type 0 where
  pub arena : IsArena base (length words) (take taken words) (uses_of_first taken marks) (notes_of_first taken marks) (given_back taken given last marks)
  pub taken_within : taken ≤ length words
  pub given_within : given ≤ taken
  pub marks_for_each : length words ≤ length marks
  pub last_below : last < IN_USE
