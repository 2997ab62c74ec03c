-- The tables on the path of an address, from the root down, in a memory.
use Rattle.std.specs.Prelude.{◌≡◌, ℕ, zero, suc, ◌<◌, ◌≤◌, nat_eq, Option, Some, None, option_map, option_and_then, if◌then◌else◌}
use Rattle.vs_types.specs.Depth.{index_at}
use Rattle.vs_types.specs.Entry.{meaning}
use Rattle.vs_types.specs.declared.addresses.frame.TheConstants.{FRAME_WORDS}
use Rattle.vs_types.specs.declared.entries.entry.Meaning.{Meaning}
use Rattle.vs_types.specs.declared.entries.entry.Meaning.TheVariants as entry
use Rattle.vs_walk.specs.Memory.{Memory}
use Rattle.vs_space.specs.Held.{word_at}

-- what the entry for an address says, in the table of this level in this frame; nothing where the frame is missing
unfoldable pub found_at : ℕ → Memory → ℕ → ℕ → Option Meaning
found_at level memory number address = option_map (meaning level) (word_at memory number (index_at level address))

-- the table that an entry leads to
abbrev pub table_in : Option Meaning → Option ℕ
table_in None = None
table_in (Some entry.Absent) = None
table_in (Some entry.Reserved) = None
table_in (Some (entry.Table number own)) = Some number
table_in (Some (entry.Leaf phys own)) = None

-- the table of this level on the path of an address, from the table of the highest level down
unfoldable pub table_at : ℕ → Memory → ℕ → ℕ → ℕ → Option ℕ
table_at zero memory root level address = if nat_eq level zero then Some root else None
table_at (suc top) memory root level address =
    if nat_eq level (suc top) then Some root
    else option_and_then (λ next. table_at top memory next level address) (table_in (found_at (suc top) memory root address))

-- two addresses that take the same entries, from the highest level down to this one
abbrev pub SamePath : ℕ → ℕ → ℕ → ℕ → Type 0
SamePath top level a b = (i : ℕ) → level ≤ i → i ≤ top → index_at i a ≡ index_at i b

-- what the entry at an index says, in the table of this level in this frame
unfoldable pub entry_in : ℕ → Memory → ℕ → ℕ → Option Meaning
entry_in level memory number index = option_map (meaning level) (word_at memory number index)

-- a table has an entry that isn't absent
pub record HasPresent (level : ℕ) (memory : Memory) (number : ℕ) : Type 0 where
  pub index : ℕ
  pub within : index < FRAME_WORDS
  pub present : entry_in level memory number index ≡ Some entry.Absent → ⊥

-- the first entry of a table that isn't absent, if there is one
pub record IsFirstPresent (level : ℕ) (memory : Memory) (number index : ℕ) : Type 0 where
  pub within : index < FRAME_WORDS
  pub present : entry_in level memory number index ≡ Some entry.Absent → ⊥
  pub before : (i : ℕ) → i < index → entry_in level memory number i ≡ Some entry.Absent
