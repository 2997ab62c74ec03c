use Rattle.std.proofs.Common.{subst}
use Rattle.std.proofs.lemmas.Result.{IfOk-weaker}
use Rattle.nr_order.specs.inside.ByThemselves.{IsFoundAmong, IsOfEvents}
use Rattle.nr_order.proofs.FirstFaults.{first_by_event, found_behind}
use Rattle.nr_order.proofs.finding.fault_by_itself.Goals as goal

pub returns-in-Some : goal.returns-in-Some
returns-in-Some c = first_by_event c.args.trace.now c.in-Some.fault (c.in-Some.ensures c.args.trace.now c.requires c.in_ok-verdict.ensures.verdict)

pub returns : goal.returns
returns c =
    let trace = c.args.trace.now in
    let none = subst (IsFoundAmong IsOfEvents trace) c.in_default.is (c.event_fault.ensures trace c.requires c.in_ok-verdict.ensures.verdict) in
    IfOk-weaker c.first_of_tables.result _ _ (λ found is. found_behind trace none found is) c.first_of_tables.ensures
