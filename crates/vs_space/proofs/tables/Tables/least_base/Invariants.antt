use Rattle.std.proofs.Common.{ℕ, ◌≤◌}
use Rattle.std.specs.Prelude.{IsSome}
use Rattle.std.specs.FinMap as finite
use Rattle.vs_types.specs.declared.addresses.depth.Depth.{Depth}
use Rattle.vs_space.specs.inside.Grow.{IsBelowRoot}
use Rattle.vs_space.proofs.Searches.{IsSearching}
use Rattle.vs_space.proofs.tables.Tables.least_base.Given as goal

abbrev pub invariant-loop-index : goal.invariant-loop-index
invariant-loop-index g l = record {
  some : 1 ≤ l.level;
  few : l.level ≤ 4;
  used : IsSome (finite.get l.self.memory l.number);
  searching : (depth : Depth) (root : ℕ) → IsBelowRoot depth l.self.memory root l.address l.from l.table
      → IsSearching depth l.self.memory root l.address l.from l.level l.number l.base;
}

abbrev pub decreases-loop-index : goal.decreases-loop-index
decreases-loop-index g l = l.level
