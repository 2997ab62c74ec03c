use Rattle.std.proofs.Common.{arith}
use Rattle.nr_touch.specs.inside.Reached.{IsOpen}
use Rattle.nr_touch.proofs.ListedPages.{fewer, none_gone, open_before}
use Rattle.nr_touch.proofs.releases.reaching.gone_at.Goals as goal

pub returns-then-release-last : goal.returns-then-release-last
returns-then-release-last c = λ joined b lingering first all listed.
    let made = c.args.release.now.made in
    none_gone (IsOpen b made) lingering first c.none.result c.none.ensures
    (fewer (IsOpen b made) (IsOpen b 0) lingering first (open_before b 0 made (omega arith)) all)

pub returns : goal.returns
returns c = λ joined b lingering first all listed.
    let made = c.args.release.now.made in
    fewer (IsOpen b made) (IsOpen b c.args.last) lingering c.args.gone (open_before b c.args.last made (omega (arith, c.if-release-last.false))) listed
