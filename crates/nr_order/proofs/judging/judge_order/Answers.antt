use Rattle.std.proofs.Common.{◌≡◌, subst}
use Rattle.nr_trace.specs.Recording.{Recording}
use Rattle.nr_audit.specs.Segments.{IsRightAfter}
use Rattle.nr_audit.specs.Verdict.{IfYes}
use Rattle.std.proofs.Common.{None}
use Rattle.nr_order.specs.WithOrder.{with_order}
use Rattle.nr_order.proofs.PlacedEvents.{some_with}
use Rattle.nr_order.proofs.RightOrders.{right_order}
use Rattle.nr_order.proofs.judging.judge_order.Goals as goal

pub returns-in-Yes-clause-right : goal.returns-in-Yes-clause-right
returns-in-Yes-clause-right c = λ bytes spelled.
    let trace = c.args.trace.now in
    let order = c.args.order.now in
    let placed : c.in-Some.placed ≡ with_order trace order =
    some_with c.in_ok-placed.field-0 c.in-Some.placed (λ (whole : Recording). whole ≡ with_order trace order) c.in-Some.is c.in_ok-placed.ensures in
    let right = subst (IfYes (IsRightAfter None c.in-Some.placed)) c.in-Yes.is c.in_ok-order.ensures.right in
    right_order trace order c.in-Yes.order bytes spelled (subst (λ (whole : Recording). IsRightAfter None whole c.in-Yes.order) placed right)
