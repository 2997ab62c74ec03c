use Rattle.std.proofs.Common.{◌≡◌, ◌≤◌, ℕ, unwrap_or}
use Rattle.std.specs.BTreeMap.{get}
use Rattle.nr_touch.specs.inside.Indexed.{row_cmp}
use Rattle.nr_audit.specs.Met.{late_by, IsMostLate}
use Rattle.nr_audit.proofs.histories.met.most_late.Given as goal

abbrev pub invariant-loop-index : goal.invariant-loop-index
invariant-loop-index l = record {
  known : (thread address : ℕ) → unwrap_or (get row_cmp l.known (thread, address)) 0 ≡ late_by l.segment l.touches l.excuses thread address l.index;
  most : IsMostLate l.segment l.touches l.excuses l.index l.most;
}
