use Rattle.std.proofs.Common.{◌+◌, sym, subst}
use Rattle.nr_audit.specs.inside.Begun.{AreReleasesBelow, IsReleaseAt}
use Rattle.nr_audit.proofs.ReleaseLists.{no_more, one_more_release}
use Rattle.nr_audit.proofs.checks.releases.push_release.Goals as goal

pub returns-in-None : goal.returns-in-None
returns-in-None c =
    no_more c.args.segment.now c.args.made c.args.releases.now.items
    (subst (IsReleaseAt c.args.segment.now c.args.made) c.in-None.is c.recorded_release.ensures)

pub returns-in_ok-push-in-Some : goal.returns-in_ok-push-in-Some
returns-in_ok-push-in-Some c = λ below.
    let release = subst (IsReleaseAt c.args.segment.now c.args.made) c.in-Some.is c.recorded_release.ensures in
    subst (AreReleasesBelow c.args.segment.now (c.args.made + 1)) (sym c.in_ok-push-in-Some.ensures.items)
    (one_more_release c.args.segment.now c.args.made c.args.releases.now.items c.in-Some.release release.0 release.1 release.2 below)
