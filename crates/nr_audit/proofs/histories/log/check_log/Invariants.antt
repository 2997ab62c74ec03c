use Rattle.std.proofs.Common.{ℕ, ◌<◌}
use Rattle.nr_audit.specs.inside.Search.{HasNone}
use Rattle.nr_audit.specs.inside.Passes.{IsLogFaultAt}
use Rattle.nr_audit.proofs.LogFaults.{ArePlacesBelow}
use Rattle.nr_audit.proofs.histories.log.check_log.Given as goal

abbrev pub invariant-loop-place : goal.invariant-loop-place
invariant-loop-place l = record {
  logged : ArePlacesBelow l.history l.place l.places.items;
  none : (lower : ℕ) → lower < l.place → HasNone (IsLogFaultAt lower) l.history;
}
