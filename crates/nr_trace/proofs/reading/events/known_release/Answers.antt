use Rattle.std.proofs.Common.{◌≡◌, true, arith}
use Rattle.nr_trace.proofs.Touches.{none_known, releases_asked}
use Rattle.nr_trace.proofs.reading.events.known_release.Goals as goal

pub returns-then-knows_touch : goal.returns-then-knows_touch
returns-then-knows_touch c = λ depth.
    releases_asked c.args.version depth c.args.fields c.release_of.result (c.knows_touch.ensures.0 c.if-knows_touch.true) c.requires c.release_of.ensures

pub returns-else-knows_touch : goal.returns-else-knows_touch
returns-else-knows_touch c = λ depth.
    none_known c.args.version depth c.args.fields
    (λ knows. let yes : c.knows_touch.result ≡ true = c.knows_touch.ensures.1 knows in absurd cc) (omega (arith, c.requires))
