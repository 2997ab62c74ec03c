use Rattle.std.proofs.Common.{ap}
use Rattle.vs_types.specs.Config.{Layout}
use Rattle.nrvs.proofs.runs.simulate.simulate.Goals as goal

pub run_steps-requires : goal.run_steps-requires
run_steps-requires c =
    let is = c.in-Ok.ensures.1 in
    c.requires.scripts c.in-Ok.config (ap (λ (l : Layout). l.depth) is) (ap (λ (l : Layout). l.threads) is)
