use Rattle.std.proofs.Common.{◌≡◌, ℕ, ◌<◌, ◌≤◌}
use Rattle.nr_trace.specs.Laws.{HasCleanLog}
use Rattle.nr_trace.specs.Orders.{floor}
use Rattle.nr_audit.specs.inside.Chains.{ArePassed}
use Rattle.nr_audit.specs.inside.Passes.{IsPositionFaultAt}
use Rattle.nr_audit.specs.inside.Prefixes.{AreNeeds}
use Rattle.nr_audit.specs.inside.Search.{FindsEarly, HasNone}
use Rattle.nr_audit.proofs.checks.floors.check_replies.Given as goal

abbrev pub invariant-loop-index : goal.invariant-loop-index
invariant-loop-index l = record {
  few : l.count ≤ l.index;
  floor : l.floor ≡ floor l.history l.index;
  positions : (lower : ℕ) → lower < l.index → HasNone (IsPositionFaultAt lower) l.history;
  early : HasCleanLog l.history → FindsEarly l.history l.index l.early;
  passed : ArePassed l.history l.index l.chains.lasts.items l.chains.places_or_reads.items;
  needs : AreNeeds l.history l.index l.needed;
}
