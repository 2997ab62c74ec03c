use Rattle.nr_audit.specs.inside.Begun.{AreReleasesBelow}
use Rattle.nr_audit.proofs.checks.releases.releases_of.Given as goal

abbrev pub invariant-loop-made : goal.invariant-loop-made
invariant-loop-made l = AreReleasesBelow l.segment l.made l.releases.items
