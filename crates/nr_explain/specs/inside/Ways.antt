-- Ways through the tables of a dump, as they are looked for.
use Rattle.std.specs.Prelude.{◌≡◌, ◌≢◌, ℕ, ◌<◌, Bool, true, false, List, ◌++◌, length, slice_index, Some, IfSome}
use Rattle.std.specs.FinMap as finite
use Rattle.vs_types.specs.Entry.{meaning}
use Rattle.vs_types.specs.declared.entries.entry.Meaning.TheVariants as entry
use Rattle.vs_walk.specs.Memory.{Memory}
use Rattle.nr_explain.specs.Facts.{IsPath}
use Rattle.nr_explain.specs.declared.trace.evidence.TableEntry.{TableEntry}
use Rattle.nr_explain.specs.declared.tables.paths.Target.{Target}

-- the word of the frame at the index has a reserved bit set, as an entry of this level
pub record IsReservedAt (memory : Memory) (level frame index : ℕ) : Type 0 where
  pub words : List ℕ
  pub there : finite.get memory frame ≡ Some words
  pub within : index < length words
  pub reserved : meaning level (slice_index words index) ≡ entry.Reserved

-- a way that ends at a table of this level is one that is looked for
pub record IsMet (memory : Memory) (target : Target) (level : ℕ) (way : List TableEntry) : Type 0 where
  pub reserved : IfSome target.reserved (IsReservedAt memory level target.frame)
  pub other : IfSome target.other (λ other. way ≢ other.items)

-- the way goes on from the frame of a table of this level to what is looked for
pub record GoesOnTo (memory : Memory) (target : Target) (level number : ℕ) (begun way : List TableEntry) : Type 0 where
  pub rest : List TableEntry
  pub end : ℕ
  pub goes_on : way ≡ begun ++ rest
  pub leads : IsPath memory level number end target.frame rest
  pub met : IsMet memory target end way

-- no way goes on so
abbrev pub GoesNowhere : Memory → Target → ℕ → ℕ → List TableEntry → Type 0
GoesNowhere memory target level number begun = (way : List TableEntry) → GoesOnTo memory target level number begun way → ⊥

-- whether a way was found, and which
abbrev pub IsSearched : Memory → Target → ℕ → ℕ → List TableEntry → List TableEntry → Bool → Type 0
IsSearched memory target level number begun way true = GoesOnTo memory target level number begun way
IsSearched memory target level number begun way false = (way ≡ begun) × GoesNowhere memory target level number begun

-- two ways to the frame
pub record HasTwoWays (memory : Memory) (level number frame : ℕ) : Type 0 where
  pub first : List TableEntry
  pub second : List TableEntry
  pub first_end : ℕ
  pub second_end : ℕ
  pub first_leads : IsPath memory level number first_end frame first
  pub second_leads : IsPath memory level number second_end frame second
  pub apart : first ≢ second

-- a second way to the frame, other than the first
abbrev pub IsAnotherWay : Memory → ℕ → ℕ → ℕ → List TableEntry → List TableEntry → Type 0
IsAnotherWay memory level number frame first second = (end : ℕ) × IsPath memory level number end frame second × (second ≢ first)
