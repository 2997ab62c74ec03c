use Rattle.std.proofs.Common.{ap, ◌∙◌}
use Rattle.nr_ring.specs.LogHistory.{log_after}
use Rattle.nr_ring.specs.Pass.{Known, tails_of}
use Rattle.nr_ring.proofs.FirstWords.{head_is, tails_are}
use Rattle.nr_ring.proofs.passing.pass.LogPass.tails.Goals as goal

pub returns : goal.returns
returns g c =
    c.tails_in.ensures
    ∙ tails_are _ _ c.head.result.now (head_is _ _ _ _ _ _ c.self.inside.inner c.self.invariant c.head.result.now c.head.ensures)
    ∙ ap (λ (k : Known). tails_of (log_after g.J.LogName.replicas k.view.seen)) c.self.view_is
