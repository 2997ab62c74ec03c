-- The numbers of a handle whose page table is in the memory lent are in range.
use Rattle.std.proofs.Common.{◌≡◌, ◌≢◌, ℕ, ◌+◌, ◌-◌, ◌<◌, Bool, true, false, List, length, take, ⊎_elim, refl, sym, ap, ◌∙◌, arith}
use Rattle.std.specs.Prelude.{◌||◌, ◌&&◌, nat_eq, nat_lt, if◌then◌else◌}
use Rattle.std.proofs.lemmas.Bool.{cases_eq, eq-eqb, lt-ltb, le-leb, le-ltb}
use Rattle.vs_types.specs.Depth.{levels}
use Rattle.vs_arena.specs.Lent.{frames_in}
use Rattle.vs_arena.specs.LentMarks.{uses_of_first}
use Rattle.vs_arena.specs.declared.mark.FrameMark.{FrameMark}
use Rattle.vs_arena.proofs.MarkedFrames.{IsMarked-from_use}
use Rattle.vs_arena.proofs.LentArenas.{was_taken, last_taken}
use Rattle.vs_space.proofs.Numbered.{named}
use Rattle.vs_space.proofs.Paths.{table_first}
use Rattle.vs_types.specs.declared.addresses.depth.Depth.{Depth}
use Rattle.vs_types.specs.declared.addresses.depth.Depth.TheVariants.{Four, Five}
use Rattle.nrvs_c.specs.Table.{depth_in, is_in_range, IsOpen, IsUsable}
use Rattle.nrvs_c.specs.declared.table.TheConstants.{MADE}
use Rattle.nrvs_c.specs.declared.table.Table.{Table}

both : {a b : Bool} → a ≡ true → b ≡ true → (a && b) ≡ true
both {b = b} left right = ap (λ x. x && b) left ∙ right

either : (a b : Bool) → b ≡ true → (a || b) ≡ true
either true b right = refl
either false b right = right

some_levels : (depth : Depth) (n : ℕ) → n ≡ levels depth → (nat_eq n 4 || nat_eq n 5) ≡ true
some_levels Four n is = ap (λ m. nat_eq m 4 || nat_eq m 5) is
some_levels Five n is = ap (λ m. nat_eq m 4 || nat_eq m 5) is

module _ (handle : Table) (words : List (List ℕ)) (marks : List FrameMark) (is_open : IsOpen handle words marks) where
  -- the root was taken
  root_taken : (f : ℕ) × (handle.base + f ≡ handle.root) × (f < handle.taken)
  root_taken =
      let in_use = is_open.keeps.table.tree.in_use (levels (depth_in handle)) 0 handle.root (table_first (levels (depth_in handle)) handle.root _ 0) in
      let root = named handle.base (frames_in handle.taken marks words) handle.root in_use in
      (root.0, root.1, was_taken is_open.laid_out (IsMarked-from_use (uses_of_first handle.taken marks) (take handle.taken words) root.0 root.2))

  -- so was the frame that was freed last
  last_in_range : (nat_eq handle.given 0 || nat_lt handle.last handle.taken) ≡ true
  last_in_range = ⊎_elim
      (λ (none : handle.given ≡ 0). ap (λ n. nat_eq n 0 || nat_lt handle.last handle.taken) none)
      (λ (some : handle.given ≢ 0).
      either _ _ (lt-ltb handle.last handle.taken (last_taken is_open.laid_out (handle.given - 1) (omega (arith, some)))))
      (cases_eq handle.given 0)

  in_range : (depth : Depth) → handle.levels ≡ levels depth → handle.frames ≡ length words → is_in_range handle ≡ true
  in_range depth level_is frames_is =
      both (both (both (both (both (some_levels depth handle.levels level_is)
      (le-leb handle.taken handle.frames (omega (arith, is_open.laid_out.taken_within, frames_is))))
      (le-leb handle.given handle.taken is_open.laid_out.given_within))
      (le-leb handle.base handle.root (omega (arith, root_taken.1))))
      (lt-ltb handle.root (handle.base + handle.taken) (omega (arith, root_taken.1, root_taken.2))))
      last_in_range

  -- a handle with these can be used
  pub usable : (depth : Depth) → handle.magic ≡ MADE → handle.levels ≡ levels depth → handle.frames ≡ length words → IsUsable handle words marks
  usable depth made level_is frames_is =
      let good : (nat_eq handle.magic MADE && is_in_range handle) ≡ true = both (eq-eqb handle.magic MADE made) (in_range depth level_is frames_is) in
      ap (λ b. if b then (if nat_eq (length words) handle.frames then (if nat_lt (length marks) (length words) then 4 else 0) else 3) else 1) good
      ∙ ap (λ b. if b then (if nat_lt (length marks) (length words) then 4 else 0) else 3) (eq-eqb (length words) handle.frames (sym frames_is))
      ∙ ap (λ b. if b then 4 else 0) (le-ltb (length marks) (length words) is_open.laid_out.marks_for_each)
