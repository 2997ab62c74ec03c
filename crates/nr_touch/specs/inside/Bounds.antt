-- Lists of numbers beside the numbers of pages, the pages by rising number. No public clause cites this file.
use Rattle.std.specs.Prelude.{◌≡◌, ℕ, ◌+◌, ◌<◌, ◌≤◌, List, length, slice_index, Option, Some, None}

-- the bounds of each page rise
pub record IsRising (numbers bounds : List ℕ) : Type 0 where
  pub one_each : length bounds ≡ length numbers
  pub by_page : (k : ℕ) → k + 1 < length numbers → slice_index numbers k ≤ slice_index numbers (k + 1)
  pub of_page : (k : ℕ) → k + 1 < length numbers → slice_index numbers k ≡ slice_index numbers (k + 1) → slice_index bounds k ≤ slice_index bounds (k + 1)

-- where the pages begin whose number and bound are at least these
pub record IsBoundary (numbers bounds : List ℕ) (number bound k : ℕ) : Type 0 where
  pub within : k ≤ length numbers
  pub before : (j : ℕ) → j < k → slice_index numbers j ≤ number
  pub less : (j : ℕ) → j < k → slice_index numbers j ≡ number → slice_index bounds j < bound
  pub behind : (j : ℕ) → k ≤ j → j < length numbers → number ≤ slice_index numbers j
  pub reached : (j : ℕ) → k ≤ j → j < length numbers → slice_index numbers j ≡ number → bound ≤ slice_index bounds j

-- the first row of a page whose bound is this one or more
pub record IsFirstRow (numbers bounds : List ℕ) (number bound k : ℕ) : Type 0 where
  pub within : k < length numbers
  pub own : slice_index numbers k ≡ number
  pub reached : bound ≤ slice_index bounds k
  pub before : (j : ℕ) → j < k → slice_index numbers j ≡ number → slice_index bounds j < bound

abbrev pub IsFirstFrom : List ℕ → List ℕ → ℕ → ℕ → Option ℕ → Type 0
IsFirstFrom numbers bounds number bound None = (j : ℕ) → j < length numbers → slice_index numbers j ≡ number → slice_index bounds j < bound
IsFirstFrom numbers bounds number bound (Some k) = IsFirstRow numbers bounds number bound k

-- the last row of a page whose bound is below this one
pub record IsLastRow (numbers bounds : List ℕ) (number bound k : ℕ) : Type 0 where
  pub within : k < length numbers
  pub own : slice_index numbers k ≡ number
  pub less : slice_index bounds k < bound
  pub behind : (j : ℕ) → k < j → j < length numbers → slice_index numbers j ≡ number → bound ≤ slice_index bounds j

abbrev pub IsLastBelow : List ℕ → List ℕ → ℕ → ℕ → Option ℕ → Type 0
IsLastBelow numbers bounds number bound None = (j : ℕ) → j < length numbers → slice_index numbers j ≡ number → bound ≤ slice_index bounds j
IsLastBelow numbers bounds number bound (Some k) = IsLastRow numbers bounds number bound k

-- each number is raised to the greatest one of its page up to it
pub record IsRaised (numbers old new : List ℕ) (end : ℕ) : Type 0 where
  pub one_each : length new ≡ length old
  pub at_least : (k : ℕ) → k < end → slice_index old k ≤ slice_index new k
  pub rising : (k : ℕ) → k + 1 < end → slice_index numbers k ≡ slice_index numbers (k + 1) → slice_index new k ≤ slice_index new (k + 1)
  pub attained : (k : ℕ) → k < end → (j : ℕ) × (j ≤ k) × (slice_index numbers j ≡ slice_index numbers k) × (slice_index new k ≡ slice_index old j)

-- from an index on each number is lowered to the least one of its page from it on
pub record IsLowered (numbers old new : List ℕ) (begin : ℕ) : Type 0 where
  pub one_each : length new ≡ length old
  pub at_most : (k : ℕ) → begin ≤ k → k < length old → slice_index new k ≤ slice_index old k
  pub rising : (k : ℕ) → begin ≤ k → k + 1 < length old → slice_index numbers k ≡ slice_index numbers (k + 1)
      → slice_index new k ≤ slice_index new (k + 1)
  pub attained : (k : ℕ) → begin ≤ k → k < length old
      → (j : ℕ) × (k ≤ j) × (j < length old) × (slice_index numbers j ≡ slice_index numbers k) × (slice_index new k ≡ slice_index old j)
