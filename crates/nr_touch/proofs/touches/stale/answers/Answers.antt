use Rattle.std.proofs.Common.{sym, ◌∙◌}
use Rattle.nr_touch.proofs.touches.stale.answers.Goals as goal

pub returns : goal.returns
returns c = λ now seen.
    let is = c.accessed.ensures.looked now c.args.touch.now.address seen in
    (λ t. c.is_same.ensures.0 t ∙ is, λ e. c.is_same.ensures.1 (e ∙ sym is))
