use Rattle.nr_touch.specs.inside.Stays.{AreStretches}
use Rattle.nr_touch.proofs.releases.stretches.Stretches.of.Given as goal

abbrev pub invariant-loop-row : goal.invariant-loop-row
invariant-loop-row l = AreStretches l.stays l.lives.rows.items l.stretches.since.items l.stretches.until.items l.row
