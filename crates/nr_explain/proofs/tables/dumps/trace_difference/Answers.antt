use Rattle.std.proofs.Common.{ap, sym, subst}
use Rattle.std.specs.Prelude.{IfOk}
use Rattle.vs_types.specs.Space.{Space}
use Rattle.vs_plain.specs.Plain.{BoundedSpace}
use Rattle.nr_trace.specs.Faults.{HasDump, HasFaultFrom}
use Rattle.nr_trace.specs.declared.refusals.fault.Fault.TheVariants.{Differs}
use Rattle.nr_explain.specs.Evidence.{IsDifferenceFrom}
use Rattle.nr_explain.proofs.FirstFaults.{few_before_differs}
use Rattle.nr_explain.proofs.tables.dumps.trace_difference.Goals as goal

pub difference-requires-clause-few : goal.difference-requires-clause-few
difference-requires-clause-few c =
    let holds = c.requires.holds in
    (holds.0, holds.1, holds.2, few_before_differs c.args.trace.now c.args.replica c.args.address holds.0 c.requires holds.1)

pub difference-requires-clause-differs : goal.difference-requires-clause-differs
difference-requires-clause-differs c =
    subst (λ (s : Space). HasFaultFrom s c.args.trace.now (Differs c.args.replica c.args.address))
    (sym (ap (λ (s : BoundedSpace). s.space) c.no_pages.ensures)) c.requires.holds

pub returns-clause-is : goal.returns-clause-is
returns-clause-is c =
    let trace = c.args.trace.now in
    subst (λ (s : Space). IfOk c.difference.result (λ wrong. HasDump trace wrong.replica (IsDifferenceFrom s trace wrong)))
    (ap (λ (s : BoundedSpace). s.space) c.no_pages.ensures) c.difference.ensures.is
