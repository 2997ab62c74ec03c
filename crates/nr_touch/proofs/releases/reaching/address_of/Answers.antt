use Rattle.nr_touch.specs.inside.Levels.{left_in}
use Rattle.nr_touch.proofs.Addresses.{finds_reached}
use Rattle.nr_touch.proofs.ReachedPages.{reached}
use Rattle.nr_touch.proofs.releases.reaching.address_of.Goals as goal

pub least_address-requires-clause-roomy : goal.least_address-requires-clause-roomy
least_address-requires-clause-roomy c = c.requires.seen.roomy

pub returns : goal.returns
returns c = λ b.
    let seen = c.args.seen.now in
    let release = c.args.release.now in
    finds_reached b release seen c.least_address.result (λ can.
    let r = reached c.requires.built b (left_in c.args.joined.now.earlier.items) seen c.requires.seen release c.requires.memory.0 c.event_fits.ensures can
    (λ each has. has) in
    (r.s, r.has, r.leads)) (c.least_address.ensures b)
