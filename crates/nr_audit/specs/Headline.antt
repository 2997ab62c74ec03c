-- What bytes are right with an order of calls.
use Rattle.std.specs.Prelude.{◌≡◌, ℕ, List, slice_get, Some}
use Rattle.vs_types.specs.Space.{Space, no_pages}
use Rattle.vs_walk.specs.Dump.{Image}
use Rattle.nr_trace.specs.Recording.{Recording, IsThere}
use Rattle.nr_trace.specs.Spelling.{Spells}
use Rattle.nr_trace.specs.Calls.{IsWellFormedHistory}
use Rattle.nr_trace.specs.Orders.{HasItsCalls, KeepsPrecedence, HasTheAnswers, FitsFrom}

-- the bytes spell the trace and no other
pub record SpellsAlone (bytes : List ℕ) (trace : Recording) : Type 0 where
  pub spelled : Spells bytes trace
  pub no_other : (other : Recording) → Spells bytes other → other ≡ trace

-- every dump that is there fits the order, from a start on
abbrev pub HasDumpsFrom : Space → Recording → List ℕ → Type 0
HasDumpsFrom start trace order = (replica : ℕ) (dump : Image) → slice_get trace.dumps replica ≡ Some dump → IsThere dump
    → FitsFrom start trace order replica dump

-- every dump fits it
abbrev pub HasFittingDumps : Recording → List ℕ → Type 0
HasFittingDumps trace order = (replica : ℕ) (dump : Image) → slice_get trace.dumps replica ≡ Some dump → FitsFrom no_pages trace order replica dump

-- what the bytes spell has the property
abbrev pub IsSpelledWith : List ℕ → (Recording → Type 0) → Type 0
IsSpelledWith bytes P = (trace : Recording) × SpellsAlone bytes trace × P trace

-- the bytes are right with the order: they spell one trace; its events are a well-formed history; all its answered calls and some
-- unanswered updates are in the order, each once; a call answered before another was made comes first; each answer is that of one
-- sequential address space; and each dump translates every address as that space does after some of the updates
pub record AreRightWith (bytes : List ℕ) (order : List ℕ) : Type 0 where
  pub trace : Recording
  pub spelled : SpellsAlone bytes trace
  pub events : IsWellFormedHistory trace
  pub members : HasItsCalls trace order
  pub precedence : KeepsPrecedence trace order
  pub answers : HasTheAnswers trace order
  pub dumps : HasFittingDumps trace order
