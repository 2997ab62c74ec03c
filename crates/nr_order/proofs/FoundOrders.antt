-- What is found of a trace is found of the bytes that spell it.
use Rattle.std.proofs.Common.{◌≡◌, ℕ, List, None, subst}
use Rattle.nr_trace.specs.Recording.{Recording}
use Rattle.nr_trace.specs.Spelling.{Spells}
use Rattle.nr_trace.specs.declared.refusals.fault.Fault.{Fault}
use Rattle.nr_trace.specs.declared.refusals.fault.Fault.TheVariants.{Format}
use Rattle.nr_audit.specs.Segments.{IsRightAfter}
use Rattle.nr_audit.specs.Verdict.{IsVerdictOn}
use Rattle.nr_audit.specs.declared.verdicts.verdict.Verdict.TheVariants.{Yes}
use Rattle.nr_audit.proofs.PartsOfVerdicts.{is_trace}
use Rattle.nr_audit.proofs.Traces.{no_start}
use Rattle.nr_order.specs.Finding.{AreRightAsOrdered, IsFindingOf, IsFindingOn, IsFirstAlone, IsFirstByItself, IsOrderedOf}
use Rattle.nr_order.specs.WithOrder.{with_order}
use Rattle.nr_order.specs.declared.finding.Finding.{Finding}
use Rattle.nr_order.specs.declared.finding.Finding.TheVariants.{Right, Wrong, NoVerdict}
use Rattle.nr_order.specs.declared.judging.Ordered.{Ordered}
use Rattle.nr_order.proofs.RightOrders.{right_order}

-- where the audit says yes of the trace that has an order as its log
pub ordered_of : (trace : Recording) (order : List ℕ) (ordered : Ordered) → ordered.trace ≡ with_order trace order
    → IsVerdictOn ordered.trace (Yes ordered.order) → IsRightAfter None ordered.trace ordered.order → IsOrderedOf trace ordered
ordered_of trace order ordered placed verdict right =
    record { order = order; placed = placed; sound = verdict.0; recorded = verdict.1; right = right }

pub ordered_right : (bytes : List ℕ) (trace : Recording) (ordered : Ordered) → Spells bytes trace → IsOrderedOf trace ordered
    → AreRightAsOrdered bytes ordered
ordered_right bytes trace ordered spelled is = record {
  right = right_order trace is.order ordered.order bytes spelled (subst (λ (whole : Recording). IsRightAfter None whole ordered.order) is.placed is.right);
  trace = trace;
  spelled = spelled;
  is_ordered = is;
}

fault_of : (bytes : List ℕ) (trace : Recording) (fault : Fault) → Spells bytes trace → IsFirstByItself trace fault → IsFirstAlone bytes fault
fault_of bytes trace (Format fault) spelled first = absurd first.holds
fault_of bytes trace _ spelled first = (trace, spelled, first)

pub found_of : (bytes : List ℕ) (trace : Recording) (finding : Finding) → Spells bytes trace → IsFindingOn trace finding → IsFindingOf bytes finding
found_of bytes trace (Right ordered) spelled is = ordered_right bytes trace ordered spelled is
found_of bytes trace (Wrong fault) spelled is = fault_of bytes trace fault spelled is
found_of bytes trace NoVerdict spelled is = (trace, spelled, is (no_start trace (is_trace spelled)))
