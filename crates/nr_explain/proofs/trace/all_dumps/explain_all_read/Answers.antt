use Rattle.std.proofs.Common.{subst}
use Rattle.nr_explain.specs.Units.{IfBad, IsBadUnit, ReadsUnits}
use Rattle.nr_explain.proofs.Explanations.{told_of_bad}
use Rattle.nr_explain.proofs.trace.all_dumps.explain_all_read.Goals as goal

pub returns-in-Ok : goal.returns-in-Ok
returns-in-Ok c = λ bytes reads. c.explain_all.ensures bytes (subst (ReadsUnits bytes) c.in-Ok.is reads)

pub returns-in-Err-Bad : goal.returns-in-Err-Bad
returns-in-Err-Bad c = λ bytes reads.
    let unread : IfBad (IsBadUnit bytes) c.in-Err-Bad.field-0 = subst (ReadsUnits bytes) c.in-Err-Bad.is reads in
    let is = subst (IfBad (IsBadUnit bytes)) c.in-Err-Bad.field-0-is unread in
    record { explanation = told_of_bad bytes c.in-Err-Bad.bad is; dumps = c.new.ensures.items }
