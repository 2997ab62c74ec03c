use Rattle.std.proofs.Common.{subst}
use Rattle.std.proofs.lemmas.Result.{IfOk-weaker}
use Rattle.nr_trace.specs.Spelling.{Spells}
use Rattle.nr_explain.specs.Explanation.{IsExplanationOf}
use Rattle.nr_explain.specs.Units.{IfBad, IsBadUnit, ReadsUnits}
use Rattle.nr_explain.specs.inside.Explained.{IsExplanationOn}
use Rattle.nr_explain.proofs.Explanations.{explained_of_spelled, told_of_bad}
use Rattle.nr_audit.proofs.PartsOfVerdicts.{is_trace}
use Rattle.nr_explain.proofs.trace.explaining.explain_read.Goals as goal

pub returns-in-Ok : goal.returns-in-Ok
returns-in-Ok c = λ bytes reads.
    let spelled : Spells bytes c.in-Ok.trace = subst (ReadsUnits bytes) c.in-Ok.is reads in
    IfOk-weaker c.explain_trace.result (IsExplanationOn c.in-Ok.trace) (IsExplanationOf bytes)
    (λ explanation is. explained_of_spelled bytes c.in-Ok.trace explanation spelled is)
    (c.explain_trace.ensures (is_trace spelled))

pub returns-in-Err-Bad : goal.returns-in-Err-Bad
returns-in-Err-Bad c = λ bytes reads.
    let unread : IfBad (IsBadUnit bytes) c.in-Err-Bad.field-0 = subst (ReadsUnits bytes) c.in-Err-Bad.is reads in
    let is = rw c.in-Err-Bad.field-0-is at unread in
    rw c.in-Err-Bad.field-0-is (told_of_bad bytes c.in-Err-Bad.bad is)
