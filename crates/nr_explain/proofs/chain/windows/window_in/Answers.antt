use Rattle.std.proofs.Common.{ap, subst}
use Rattle.std.specs.Prelude.{IfOk}
use Rattle.vs_types.specs.Space.{Space}
use Rattle.vs_plain.specs.Plain.{BoundedSpace}
use Rattle.nr_explain.specs.inside.Windows.{IsWindowOf}
use Rattle.nr_explain.proofs.chain.windows.window_in.Goals as goal

pub returns : goal.returns
returns c =
    subst (λ (s : Space). IfOk c.window_of.result (IsWindowOf s c.args.segment.now c.args.address c.args.made c.args.answered c.args.with_page))
    (ap (λ (s : BoundedSpace). s.space) c.in_ok-space.ensures) c.window_of.ensures
