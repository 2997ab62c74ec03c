use Rattle.std.proofs.Common.{None, refl, sym, subst}
use Rattle.nr_trace.specs.Orders.{recorded_order}
use Rattle.nr_trace.specs.declared.refusals.fault.Fault.{Fault}
use Rattle.nr_audit.specs.Faults.{IsFirstAfter}
use Rattle.nr_audit.specs.declared.verdicts.verdict.Verdict.TheVariants.{Yes, No}
use Rattle.nr_audit.proofs.PartsOfVerdicts.{same_on}
use Rattle.nr_audit.proofs.verdicts.judging.judge.Goals as goal

pub returns-in-Ok-clause-verdict : goal.returns-in-Ok-clause-verdict
returns-in-Ok-clause-verdict c = (c.in-Ok.ensures.sound None tt, c.in-Ok.ensures.order)

pub returns-in-Ok-clause-yes : goal.returns-in-Ok-clause-yes
returns-in-Ok-clause-yes c = λ sound.
    let trace = c.args.trace.now in
    same_on trace (Yes c.in-Ok.order) (Yes (recorded_order trace)) (c.in-Ok.ensures.sound None tt, c.in-Ok.ensures.order) (sound, refl)

pub returns-in-Ok-clause-no : goal.returns-in-Ok-clause-no
returns-in-Ok-clause-no c = λ fault first.
    same_on c.args.trace.now (Yes c.in-Ok.order) (No fault) (c.in-Ok.ensures.sound None tt, c.in-Ok.ensures.order) first

pub returns-clause-verdict : goal.returns-clause-verdict
returns-clause-verdict c =
    subst (λ (f : Fault). IsFirstAfter None c.args.trace.now f) (sym c.in-Err-Refused.fault-is)
    (rw c.in-Err-Refused.field-0-is at (c.in-Err-Refused.ensures.first None tt))

pub returns-clause-yes : goal.returns-clause-yes
returns-clause-yes c = λ sound.
    let trace = c.args.trace.now in
    same_on trace (No c.in-Err-Refused.fault) (Yes (recorded_order trace))
    (subst (λ (f : Fault). IsFirstAfter None trace f) (sym c.in-Err-Refused.fault-is)
    (rw c.in-Err-Refused.field-0-is at (c.in-Err-Refused.ensures.first None tt)))
    (sound, refl)

pub returns-clause-no : goal.returns-clause-no
returns-clause-no c = λ fault first.
    same_on c.args.trace.now (No c.in-Err-Refused.fault) (No fault)
    (subst (λ (f : Fault). IsFirstAfter None c.args.trace.now f) (sym c.in-Err-Refused.fault-is)
    (rw c.in-Err-Refused.field-0-is at (c.in-Err-Refused.ensures.first None tt))) first

pub returns-in-Ok-clause-right : goal.returns-in-Ok-clause-right
returns-in-Ok-clause-right c = c.in-Ok.ensures.right None tt
