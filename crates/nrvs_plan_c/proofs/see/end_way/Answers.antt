use Rattle.nrvs_plan_c.proofs.EndsHere.{made_seen, word_here}
use Rattle.nrvs_plan_c.proofs.see.end_way.Goals as goal

pub returns-then-ends_here : goal.returns-then-ends_here
returns-then-ends_here g c = made_seen c.end_here.ensures.made c.end_here.ensures.call (λ memory shown there. c.end_here.ensures.right memory shown
    (word_here c.args.plan.now c.requires.descent c.requires.sound (c.ends_here.ensures.last c.if-ends_here.true) memory c.requires.read there))
