use Rattle.std.proofs.Common.{ℕ, ◌<◌}
use Rattle.nr_audit.specs.inside.Begun.{IsPlacePlain}
use Rattle.nr_audit.proofs.checks.touches.are_plain.Given as goal

abbrev pub invariant-loop-place : goal.invariant-loop-place
invariant-loop-place l = (place : ℕ) → place < l.place → IsPlacePlain l.segment place
