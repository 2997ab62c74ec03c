use Rattle.std.proofs.Common.{ap, subst}
use Rattle.std.specs.Prelude.{IfOk}
use Rattle.vs_types.specs.Space.{Space}
use Rattle.vs_plain.specs.Plain.{BoundedSpace}
use Rattle.nr_explain.specs.Nearest.{IsNearest}
use Rattle.nr_explain.proofs.chain.touches.nearest_to.Goals as goal

pub returns : goal.returns
returns c =
    subst (λ (s : Space). IfOk c.nearest.result (IsNearest s c.args.segment.now c.args.request c.args.told c.args.window.first c.args.window.last))
    (ap (λ (s : BoundedSpace). s.space) c.in_ok-begun.ensures) c.nearest.ensures
