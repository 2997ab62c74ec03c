-- What a handle and the memory lent are: a page table.
use Rattle.std.specs.Prelude.{◌≡◌, ℕ, ◌+◌, nat_eq, nat_lt, nat_le, Bool, ◌&&◌, ◌||◌, List, length, if◌then◌else◌}
use Rattle.vs_types.specs.declared.addresses.depth.Depth.{Depth}
use Rattle.vs_types.specs.declared.addresses.depth.Depth.TheVariants.{Four, Five}
use Rattle.vs_arena.specs.Store.{Lenders}
use Rattle.vs_arena.specs.declared.mark.FrameMark.{FrameMark}
use Rattle.vs_arena.specs.Lent.{frames_in, notes_in}
use Rattle.vs_arena.specs.LentMarks.{IsLentArena}
use Rattle.vs_space.specs.Kept.{KeepsTable, table_of}
use Rattle.vs_space.specs.Table.{PageTable}
use Rattle.nrvs_c.specs.declared.table.Table.{Table}
use Rattle.nrvs_c.specs.declared.table.TheConstants.{MADE}

-- the depth with so many levels
abbrev pub depth_in : Table → Depth
depth_in handle = if nat_eq handle.levels 5 then Five else Four

-- the page table of a handle, in the memory lent
abbrev pub lent_table : Lenders → Table → List (List ℕ) → List FrameMark → PageTable
lent_table lenders handle words marks =
    table_of lenders (depth_in handle) handle.root handle.base (length words) (frames_in handle.taken marks words)

-- the numbers of a handle are in range. It has 4 or 5 levels. At most all of its frames were ever taken, and at most these freed. The
-- root is one that was taken, and so is the one that was freed last, if there is one
abbrev pub is_in_range : Table → Bool
is_in_range handle =
    (nat_eq handle.levels 4 || nat_eq handle.levels 5) && nat_le handle.taken handle.frames && nat_le handle.given handle.taken
    && nat_le handle.base handle.root && nat_lt handle.root (handle.base + handle.taken)
    && (nat_eq handle.given 0 || nat_lt handle.last handle.taken)

-- what is wrong with a handle and as much memory. 1: it has no magic word or isn't in range, so was never made. 3: it was made over another
-- number of frames. 4: there are fewer marks than frames. Else 0
abbrev pub lent_status : Table → List (List ℕ) → List FrameMark → ℕ
lent_status handle words marks =
    if nat_eq handle.magic MADE && is_in_range handle then
    (if nat_eq (length words) handle.frames then (if nat_lt (length marks) (length words) then 4 else 0) else 3)
    else 1

-- nothing is wrong with the handle, the words and the marks
abbrev pub IsUsable : Table → List (List ℕ) → List FrameMark → Type 0
IsUsable handle words marks = lent_status handle words marks ≡ 0

-- words and marks are those with which the handle was left, where it was made
pub record IsOpen (handle : Table) (words : List (List ℕ)) (marks : List FrameMark) : Type 0 where
  pub laid_out : IsLentArena handle.base handle.taken handle.given handle.last words marks
  pub keeps : KeepsTable (depth_in handle) handle.root handle.base (length words) (frames_in handle.taken marks words) (notes_in handle.taken marks)
