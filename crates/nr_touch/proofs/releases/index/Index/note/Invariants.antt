use Rattle.std.proofs.Common.{ℕ, ◌<◌, get_or, IsTrue}
use Rattle.std.specs.BTreeSet.{contains}
use Rattle.nr_touch.specs.inside.Blocks.{blocks_at}
use Rattle.nr_touch.specs.inside.Indexed.{row_cmp}
use Rattle.nr_touch.proofs.releases.index.Index.note.Given as goal

abbrev pub invariant-loop-block : goal.invariant-loop-block
invariant-loop-block l = record {
  own : (k : ℕ) → k < l.block-index → IsTrue (contains row_cmp l.self.rows (get_or (blocks_at l.fn.page) k 0, l.key));
  others : (row : ℕ × ℕ) → IsTrue (contains row_cmp l.fn.self.rows row) → IsTrue (contains row_cmp l.self.rows row);
}
