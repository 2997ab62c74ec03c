use Rattle.std.proofs.Common.{◌≡◌, ◌-◌}
use Rattle.std.specs.Prelude.{slice_index}
use Rattle.vs_types.specs.Depth.{levels}
use Rattle.vs_space.specs.Held.{Held, AreNumbered}
use Rattle.vs_space.proofs.Prunes.{IsPruning}
use Rattle.vs_space.proofs.tables.Tables.prune.Given as goal

abbrev pub invariant-loop-level : goal.invariant-loop-level
invariant-loop-level g l = record {
  pruning : IsPruning l.fn.depth l.fn.self.memory l.self.memory (slice_index l.path (levels l.fn.depth)) l.address l.from l.level l.path;
  same : l.self ≡ (let r : Held = record l.fn.self { memory = l.self.memory } in r);
  numbers : AreNumbered l.self;
}

abbrev pub decreases-loop-level : goal.decreases-loop-level
decreases-loop-level g l = levels l.fn.depth - l.level
