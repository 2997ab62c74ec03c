use Rattle.nr_touch.specs.inside.Stays.{AreRoomy}
use Rattle.nr_touch.proofs.StaysFound.{HaveStaysTo}
use Rattle.nr_touch.proofs.releases.stays.listed.Given as goal

abbrev pub invariant-loop-each : goal.invariant-loop-each
invariant-loop-each l = record {
  stays : HaveStaysTo l.history.changes.items l.seen l.stays.items l.each-index;
  roomy : AreRoomy l.stays.items;
}
