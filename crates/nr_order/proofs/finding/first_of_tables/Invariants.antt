use Rattle.std.proofs.Common.{ℕ, ◌<◌}
use Rattle.nr_audit.specs.inside.Search.{HasNone}
use Rattle.nr_order.specs.inside.ByThemselves.{IsOfTables}
use Rattle.nr_order.proofs.finding.first_of_tables.Given as goal

abbrev pub invariant-loop-replica : goal.invariant-loop-replica
invariant-loop-replica l = (lower : ℕ) → lower < l.replica → HasNone (IsOfTables lower) l.trace
