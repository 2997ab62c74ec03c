use Rattle.nr_audit.proofs.ReleaseLists.{released_there}
use Rattle.nr_audit.proofs.checks.releases.recorded_release.Goals as goal

pub returns : goal.returns
returns c = released_there c.args.segment.now c.args.made c.is_done-done.result c.release_at.result c.is_done-done.ensures c.release_at.ensures
