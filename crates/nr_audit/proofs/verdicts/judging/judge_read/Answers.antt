use Rattle.std.proofs.Common.{subst}
use Rattle.std.proofs.lemmas.Result.{IfOk-weaker}
use Rattle.nr_trace.specs.Spelling.{Spells}
use Rattle.nr_trace.specs.Feed.{Reads}
use Rattle.nr_audit.specs.Verdict.{IfYes, IsVerdictOf, IsVerdictOn}
use Rattle.nr_audit.specs.Headline.{AreRightWith}
use Rattle.nr_audit.proofs.PartsOfVerdicts.{of_spelled, right_of}
use Rattle.nr_audit.proofs.verdicts.judging.judge_read.Goals as goal

pub returns-in-Ok-clause-verdict : goal.returns-in-Ok-clause-verdict
returns-in-Ok-clause-verdict c = λ bytes reads.
    let spelled : Spells bytes c.in-Ok.trace = subst (Reads bytes) c.in-Ok.is reads in
    IfOk-weaker c.judge.result (IsVerdictOn c.in-Ok.trace) (IsVerdictOf bytes)
    (λ verdict is. of_spelled bytes c.in-Ok.trace verdict spelled is) c.judge.ensures.verdict

pub returns-in-Ok-clause-right : goal.returns-in-Ok-clause-right
returns-in-Ok-clause-right c = λ bytes reads.
    let spelled : Spells bytes c.in-Ok.trace = subst (Reads bytes) c.in-Ok.is reads in
    IfOk-weaker c.judge.result (IsVerdictOn c.in-Ok.trace) (IfYes (AreRightWith bytes))
    (λ verdict is. right_of bytes verdict (of_spelled bytes c.in-Ok.trace verdict spelled is)) c.judge.ensures.verdict
