use Rattle.std.proofs.Common.{◌≡◌, ℕ, IsTrue}
use Rattle.std.specs.BTreeSet.{contains}
use Rattle.nr_touch.specs.inside.Indexed.{row_cmp}
use Rattle.nr_touch.proofs.releases.index.Index.forget.Given as goal

abbrev pub invariant-loop-block : goal.invariant-loop-block
invariant-loop-block l = (row : ℕ × ℕ) → (row.1 ≡ l.page.base → ⊥) → IsTrue (contains row_cmp l.fn.self.rows row) → IsTrue (contains row_cmp l.self.rows row)
