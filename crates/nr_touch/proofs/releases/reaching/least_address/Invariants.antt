use Rattle.nr_touch.specs.inside.Joined.{Behind}
use Rattle.nr_touch.proofs.Addresses.{FindsBelow}
use Rattle.nr_touch.proofs.releases.reaching.least_address.Given as goal

abbrev pub invariant-loop-each : goal.invariant-loop-each
invariant-loop-each l = (b : Behind l.joined) → FindsBelow b l.release l.seen l.each-index l.least
