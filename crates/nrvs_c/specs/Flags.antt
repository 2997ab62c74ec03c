-- The memory lent after a processor has walked the tables in it.
use Rattle.std.specs.Prelude.{ℕ, List}
use Rattle.std.specs.List.{AllZip}
use Rattle.vs_space.specs.Flags.{IsSameButFlags}

-- as many frames, each word of which is as it was, but for the accessed flag and the dirty flag where it is present
abbrev pub IsLentSameButFlags : List (List ℕ) → List (List ℕ) → Type 0
IsLentSameButFlags = AllZip (AllZip IsSameButFlags)
