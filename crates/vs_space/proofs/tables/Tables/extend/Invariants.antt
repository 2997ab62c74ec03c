use Rattle.std.proofs.Common.{◌≡◌, ◌≤◌, Some}
use Rattle.vs_types.specs.Depth.{index_at}
use Rattle.vs_space.specs.Held.{Held, word_at}
use Rattle.vs_space.specs.inside.Grow.{IsExtended}
use Rattle.vs_space.proofs.tables.Tables.extend.Given as goal

abbrev pub invariant-loop-level : goal.invariant-loop-level
invariant-loop-level g l = record {
  extended : IsExtended l.fn.self.memory l.self.memory l.address l.last l.from l.level l.number;
  above : l.lowest ≤ l.level;
  within : l.level ≤ l.from;
  absent : word_at l.self.memory l.number (index_at l.level l.address) ≡ Some 0;
  same : l.self ≡ (let r : Held = record l.fn.self { memory = l.self.memory } in r);
}

abbrev pub decreases-loop-level : goal.decreases-loop-level
decreases-loop-level g l = l.level
