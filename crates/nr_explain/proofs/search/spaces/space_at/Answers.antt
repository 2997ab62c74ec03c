use Rattle.std.proofs.Common.{◌≡◌, take, ap, subst}
use Rattle.std.specs.Prelude.{IfOk}
use Rattle.vs_types.specs.Space.{Space}
use Rattle.vs_plain.specs.Plain.{BoundedSpace}
use Rattle.nr_trace.specs.Orders.{space_from}
use Rattle.nr_audit.specs.Verdict.{space_of}
use Rattle.nr_explain.proofs.search.spaces.space_at.Goals as goal

pub returns : goal.returns
returns c =
    let trace = c.args.trace.now in
    subst (λ (s : Space). IfOk c.space_from.result (λ space. space ≡ space_of trace.layout (space_from s trace (take c.args.end trace.log))))
    (ap (λ (s : BoundedSpace). s.space) c.no_pages.ensures) c.space_from.ensures
