use Rattle.chain_cuts.proofs.ShownMoments.{right_by, shown}
use Rattle.chain_cuts.proofs.TouchesApart.{moments_apart, moments_back, moments_front, moments_rest, of_both, of_one}
use Rattle.chain_cuts.proofs.laws.a_cut_keeps_the_moments.Goals as goal

pub returns-clause-right : goal.returns-clause-right
returns-clause-right c = λ before start segment touch.
    (shown before start segment touch, λ (moments, show). right_by before start segment touch moments show)

pub returns-clause-touches : goal.returns-clause-touches
returns-clause-touches c = λ first second touch clean. (of_one first second clean touch, of_both first second clean touch)

pub returns-clause-first : goal.returns-clause-first
returns-clause-first c = λ before start first second touch moments may same_layout clean has.
    moments_front start first second same_layout clean before may touch has moments

pub returns-clause-first_apart : goal.returns-clause-first_apart
returns-clause-first_apart c = λ before start first second touch moments may same_layout clean has.
    moments_back start first second same_layout clean before may touch has moments

pub returns-clause-second : goal.returns-clause-second
returns-clause-second c = λ before start first second touch moments same_layout clean has.
    moments_rest start first second same_layout clean before touch has moments

pub returns-clause-second_apart : goal.returns-clause-second_apart
returns-clause-second_apart c = λ before start first second touch moments same_layout clean has caught.
    moments_apart start first second same_layout clean before touch has moments caught
