use Rattle.std.proofs.Common.{ℕ, ◌<◌}
use Rattle.nr_audit.specs.inside.Begun.{IsPlaceAnswered}
use Rattle.nr_audit.proofs.checks.touches.are_answered.Given as goal

abbrev pub invariant-loop-place : goal.invariant-loop-place
invariant-loop-place l = (place : ℕ) → place < l.place → IsPlaceAnswered l.segment place
