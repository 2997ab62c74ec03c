use Rattle.std.proofs.Common.{◌≡◌, ℕ, ◌<◌}
use Rattle.nr_explain.proofs.Searches.{IsPassed}
use Rattle.nr_explain.proofs.tables.paths.+go_on.Given as goal

abbrev pub decreases-go_on : goal.decreases-go_on
decreases-go_on l = l.level

abbrev pub invariant-loop-index : goal.invariant-loop-index
invariant-loop-index l = record {
  way : l.way.items ≡ l.fn.way.items;
  passed : (index : ℕ) → index < l.index → IsPassed l.dump.frames l.target l.level l.number l.fn.way.items l.words index;
}
