use Rattle.std.proofs.Common.{◌≡◌, ℕ, ◌-◌, ◌<◌, get_or, length}
use Rattle.nr_touch.specs.inside.Bounds.{IsLowered}
use Rattle.nr_touch.proofs.changes.bounds.lower.Given as goal

abbrev pub invariant-loop-passed : goal.invariant-loop-passed
invariant-loop-passed l = record {
  lowered : IsLowered l.pages l.fn.bounds l.bounds (length l.fn.bounds - l.passed);
  left : (k : ℕ) → k < length l.fn.bounds - l.passed → get_or l.bounds k 0 ≡ get_or l.fn.bounds k 0;
}
