use Rattle.chain_cuts.proofs.ReleasesApart.{releases_apart, releases_as_one}
use Rattle.chain_cuts.proofs.laws.a_cut_keeps_the_releases.Goals as goal

pub returns : goal.returns
returns c = λ before start first second may same_layout clean.
    (releases_apart start first second same_layout clean before may, releases_as_one start first second same_layout clean before may)
