-- Where a descent through the tables ends. No public clause cites it.
use Rattle.std.specs.Prelude.{◌≡◌, ℕ, ◌<◌, ◌≤◌, List, Some, None, slice_index}
use Rattle.vs_types.specs.Depth.{levels}
use Rattle.vs_types.specs.Entry.{meaning}
use Rattle.vs_types.specs.declared.addresses.depth.Depth.{Depth}
use Rattle.vs_types.specs.declared.limits.TheConstants.{MOST_LEVELS}
use Rattle.vs_types.specs.Page.{level_of}
use Rattle.vs_types.specs.declared.addresses.page.Page.{Page}
use Rattle.vs_types.specs.declared.entries.entry.Meaning.{Meaning}
use Rattle.vs_walk.specs.Memory.{Memory}
use Rattle.vs_space.specs.declared.descent.Descent.{Descent}
use Rattle.vs_space.specs.Path.{found_at, table_at, table_in}
use Rattle.vs_space.specs.Table.{PageTable}
use Rattle.vs_types.specs.Bits.{IsWritten}
use Rattle.vs_space.specs.Invariant.{IsPageTable}

-- the table of this level is reached, those above it are on the path, and its entry leads no further, or is of the lowest level that is asked for
pub record IsDescent (depth : Depth) (memory : Memory) (root address lowest level : ℕ) (path : List ℕ) (found : Meaning) : Type 0 where
  pub above : lowest ≤ level
  pub below : level ≤ levels depth
  pub reached : (j : ℕ) → level ≤ j → j ≤ levels depth → table_at (levels depth) memory root j address ≡ Some (slice_index path j)
  pub is : found_at level memory (slice_index path level) address ≡ Some found
  pub ends : lowest < level → table_in (Some found) ≡ None

-- a descent ends so: at a word as it is written of a table that is reached
pub record EndsAt (depth : Depth) (memory : Memory) (root address lowest : ℕ) (end : Descent) : Type 0 where
  pub descent : IsDescent depth memory root address lowest end.level end.path (meaning end.level end.word)
  pub last : end.number ≡ slice_index end.path end.level
  pub written : IsWritten end.level end.word
  pub some_level : 1 ≤ end.level
  pub few_levels : end.level ≤ MOST_LEVELS

-- a descent through a page table, which goes on as far as it can, has ended at this level, at this word of the table with this number
pub record HasEnded (t : PageTable) (address level number word : ℕ) (path : List ℕ) : Type 0 where
  pub table : IsPageTable t
  pub descent : IsDescent t.depth t.memory t.root address 1 level path (meaning level word)
  pub last : number ≡ slice_index path level
  pub written : IsWritten level word

-- a descent for a page through a page table has ended at this level, and has met this entry of the table with this number
pub record HasMet (t : PageTable) (page : Page) (level number : ℕ) (met : Meaning) : Type 0 where
  pub path : List ℕ
  pub table : IsPageTable t
  pub descent : IsDescent t.depth t.memory t.root page.base (level_of page.size) level path met
  pub last : number ≡ slice_index path level
