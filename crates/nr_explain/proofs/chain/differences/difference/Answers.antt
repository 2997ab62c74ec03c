use Rattle.std.proofs.Common.{ap, sym, subst}
use Rattle.std.specs.Prelude.{IfOk}
use Rattle.vs_types.specs.Space.{Space}
use Rattle.vs_plain.specs.Plain.{BoundedSpace}
use Rattle.nr_trace.specs.Faults.{HasDump, HasFaultFrom}
use Rattle.nr_trace.specs.declared.refusals.fault.Fault.TheVariants.{Differs}
use Rattle.nr_explain.specs.Evidence.{IsDifferenceFrom}
use Rattle.nr_explain.proofs.Differing.{few_applied}
use Rattle.nr_explain.proofs.chain.differences.difference.Goals as goal

pub difference-requires-clause-few : goal.difference-requires-clause-few
difference-requires-clause-few c =
    let first = c.requires.first in
    let holds = first.holds in
    (holds.0, holds.1, holds.2, few_applied c.args.first.now.space c.args.segment.now c.args.replica c.args.address holds.0 first holds.1)

pub difference-requires-clause-differs : goal.difference-requires-clause-differs
difference-requires-clause-differs c =
    subst (λ (s : Space). HasFaultFrom s c.args.segment.now (Differs c.args.replica c.args.address))
    (sym (ap (λ (s : BoundedSpace). s.space) c.in_ok-space.ensures)) c.requires.first.holds

pub returns-clause-is : goal.returns-clause-is
returns-clause-is c =
    let segment = c.args.segment.now in
    subst (λ (s : Space). IfOk c.difference.result (λ wrong. HasDump segment wrong.replica (IsDifferenceFrom s segment wrong)))
    (ap (λ (s : BoundedSpace). s.space) c.in_ok-space.ensures) c.difference.ensures.is
