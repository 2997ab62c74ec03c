use Rattle.std.proofs.Common.{◌≡◌, ℕ, ◌≤◌, get_or}
use Rattle.nr_touch.specs.inside.Bounds.{IsRaised}
use Rattle.nr_touch.proofs.changes.bounds.raise.Given as goal

abbrev pub invariant-loop-index : goal.invariant-loop-index
invariant-loop-index l = record {
  raised : IsRaised l.pages l.fn.bounds l.bounds l.index;
  left : (k : ℕ) → l.index ≤ k → get_or l.bounds k 0 ≡ get_or l.fn.bounds k 0;
}
