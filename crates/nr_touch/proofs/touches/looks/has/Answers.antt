use Rattle.std.proofs.Common.{arith}
use Rattle.vs_types.proofs.Pages.{covers_means}
use Rattle.nr_touch.proofs.Tests.{no, yes}
use Rattle.nr_touch.proofs.touches.looks.has.Goals as goal

pub returns-then-address-base : goal.returns-then-address-base
returns-then-address-base c = no (λ has.
    let low = ((covers_means c.args.change.page c.args.address).0 has).0 in omega (arith, low, c.if-address-base.true))

pub returns-then-bytes-offset : goal.returns-then-bytes-offset
returns-then-bytes-offset c = no (λ has.
    let within = (covers_means c.args.change.page c.args.address).0 has in
    omega (arith, within.0, within.1, c.if-bytes-offset.true, c.bytes-bytes.ensures))

pub returns : goal.returns
returns c = yes ((covers_means c.args.change.page c.args.address).1
    (omega (arith, c.if-address-base.false), omega (arith, c.if-address-base.false, c.if-bytes-offset.false, c.bytes-bytes.ensures)))
