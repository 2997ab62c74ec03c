-- A part of the traversal, as the code makes it with the frames marked that it has reached. No public clause
-- cites this file.
use Rattle.std.specs.Prelude.{◌≡◌, ℕ, ◌+◌, ◌<◌, ◌≤◌, List, ◌++◌, Some, None, slice_index}
use Rattle.vs_types.specs.Depth.{table_bytes}
use Rattle.vs_types.specs.Format.{Format}
use Rattle.vs_walk.specs.Memory.{Memory}
use Rattle.vs_walk.specs.Reached.{AreJust}
use Rattle.vs_walk.specs.Traversal.{VisitOf, TableOf, reached, found, first_fault_after}
use Rattle.vs_walk.specs.declared.traversal.TablePosition.{TablePosition}
use Rattle.vs_walk.specs.declared.walk.WalkFault.{WalkFault}

abbrev pub table_at : {R : Type 0} → TablePosition R → TableOf R
table_at place = record { number = place.number; start = place.start; rights = place.rights }

-- a table of one of the levels that covers translated bits alone
pub record Fits {R P : Type 0} (f : Format R P) (place : TablePosition R) : Type 0 where
  pub lowest : 1 ≤ place.level
  pub highest : place.level ≤ f.levels
  pub in_range : place.start + table_bytes place.level ≤ f.end

-- these visits have no fault after visits that reached the frames marked before, and then those marked after are reached
pub record GoesOn {P : Type 0} (memory : Memory) (before after : List ℕ) (ms : List (VisitOf P)) : Type 0 where
  pub faultless : (earlier : List (VisitOf P)) → AreJust before (reached earlier) → first_fault_after memory earlier ms ≡ None
  pub marked : AreJust after (before ++ reached ms)

-- the first fault of these visits is this one, after visits that reached the frames marked before
pub record Stops {P : Type 0} (memory : Memory) (before : List ℕ) (ms : List (VisitOf P)) (fault : WalkFault) : Type 0 where
  pub first : (earlier : List (VisitOf P)) → AreJust before (reached earlier) → first_fault_after memory earlier ms ≡ Some fault

-- what has taken some pages has then taken those of the visits too
abbrev pub TakesFound : {P : Type 0} → (List P → Type 0) → (List P → Type 0) → List (VisitOf P) → Type 0
TakesFound {P = P} HadTaken HasTaken ms = (pages : List P) → HadTaken pages → HasTaken (pages ++ found ms)

-- the words from one index up to another are 0
abbrev pub AreZeros : List ℕ → ℕ → ℕ → Type 0
AreZeros words from to = (i : ℕ) → from ≤ i → i < to → slice_index words i ≡ 0
