use Rattle.std.proofs.Common.{subst}
use Rattle.std.proofs.lemmas.Result.{IfOk-weaker}
use Rattle.nr_trace.specs.Feed.{Reads}
use Rattle.nr_trace.specs.Spelling.{Spells}
use Rattle.nr_order.specs.Finding.{IsFindingOf, IsFindingOn}
use Rattle.nr_order.proofs.FoundOrders.{found_of}
use Rattle.nr_order.proofs.finding.find_order_read.Goals as goal

pub returns-in-Ok : goal.returns-in-Ok
returns-in-Ok c = λ bytes reads.
    let spelled : Spells bytes c.in-Ok.trace = subst (Reads bytes) c.in-Ok.is reads in
    IfOk-weaker c.find_order.result (IsFindingOn c.in-Ok.trace) (IsFindingOf bytes)
    (λ finding is. found_of bytes c.in-Ok.trace finding spelled is) c.find_order.ensures
