use Rattle.std.proofs.Common.{subst}
use Rattle.nr_audit.specs.Verdict.{IsVerdictOn}
use Rattle.nr_order.proofs.FirstFaults.{none_before, none_of_sound}
use Rattle.nr_order.proofs.finding.event_fault.Goals as goal

pub returns-in-Yes : goal.returns-in-Yes
returns-in-Yes c = λ trace empty on.
    let sound = subst (IsVerdictOn trace) c.in-Yes.is on in
    none_of_sound trace sound.0.faultless

pub returns-else-is_of_events : goal.returns-else-is_of_events
returns-else-is_of_events c = λ trace empty on.
    none_before trace empty _ (subst (IsVerdictOn trace) c.in-No.is on)
    (λ is. let yes = c.is_of_events.ensures.1 is in let no = c.if-is_of_events.false in cc)
