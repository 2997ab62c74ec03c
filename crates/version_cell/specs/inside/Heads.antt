-- What a code says.
use Rattle.std.specs.Prelude.{◌≡◌, ℕ, ◌<◌, List, slice_index}

-- these are the first places, so many, as a code has them
abbrev pub IsHead : (ℕ → ℕ → ℕ) → ℕ → ℕ → List ℕ → Type 0
IsHead head code h words = (i : ℕ) → i < h → slice_index words i ≡ head code i
