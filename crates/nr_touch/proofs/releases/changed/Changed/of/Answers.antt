use Rattle.std.proofs.Common.{List, length, subst}
use Rattle.nr_touch.specs.inside.Lives.{HaveRows}
use Rattle.nr_touch.specs.inside.Stays.{AreStretches}
use Rattle.nr_touch.specs.declared.releases.stays.Stay.{Stay}
use Rattle.nr_touch.proofs.releases.changed.Changed.of.Goals as goal

pub returns-clause-rows : goal.returns-clause-rows
returns-clause-rows c =
    let lives = c.in_ok-lives.lives in
    let stretches = c.in_ok-stretches.stretches in
    record {
      roomy = c.in_ok-stays.ensures.roomy;
      lives = c.in_ok-lives.ensures.lives;
      rows = subst (λ (stays : List Stay). HaveRows stays lives) c.deref.ensures.value c.in_ok-lives.ensures.rows;
      stretches = subst (λ (stays : List Stay). AreStretches stays lives.rows.items stretches.since.items stretches.until.items (length lives.rows.items))
          c.deref-2.ensures.value c.in_ok-stretches.ensures;
    }
