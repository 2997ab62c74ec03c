use Rattle.std.proofs.lemmas.Result.{IfOk-weaker}
use Rattle.nr_touch.specs.inside.Lives.{AreRowsOf, HaveRows}
use Rattle.nr_touch.proofs.LivesFound.{all_rows}
use Rattle.nr_touch.proofs.releases.lives.Lives.of.Goals as goal

pub returns-clause-rows : goal.returns-clause-rows
returns-clause-rows c =
    let rows = c.in_ok-lives.lives.items in
    IfOk-weaker c.sorted.result (AreRowsOf rows) (HaveRows c.args.stays.now)
    (λ lives are. all_rows rows lives c.args.stays.now are c.in_ok-lives.ensures) c.sorted.ensures.rows
