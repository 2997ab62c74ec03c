use Rattle.nr_audit.specs.inside.Begun.{AreTouchesBelow}
use Rattle.nr_audit.specs.inside.Prefixes.{AreNeeds}
use Rattle.nr_audit.proofs.checks.touches.touches_of.Given as goal

abbrev pub invariant-loop-made : goal.invariant-loop-made
invariant-loop-made l = record { touches : AreTouchesBelow l.segment l.made l.touches.items; needs : AreNeeds l.segment l.made l.needed }
