use Rattle.std.proofs.Common.{◌≡◌}
use Rattle.std.proofs.lemmas.Result.{IfOk-weaker}
use Rattle.nr_trace.specs.Calls.{IsWellFormedHistory}
use Rattle.nr_trace.specs.Orders.{recorded_order, HasItsCalls, HasTheAnswers, KeepsPrecedence}
use Rattle.nr_trace.specs.Recording.{Recording}
use Rattle.nr_audit.specs.Headline.{HasFittingDumps, IsSpelledWith, SpellsAlone}
use Rattle.nr_audit.specs.Verdict.{IfYes, IsVerdictOf}
use Rattle.nr_audit.specs.declared.verdicts.verdict.Verdict.TheVariants.{Yes, No}
use Rattle.nr_audit.proofs.PartsOfVerdicts.{read_so, yes_of, no_of, one_trace_of, events_of, members_of, precedence_of, answers_of, dumps_of}
use Rattle.nr_audit.proofs.verdicts.judging.audit.Goals as goal

pub returns-clause-yes : goal.returns-clause-yes
returns-clause-yes c = λ trace spelled faultless.
    let bytes = c.args.bytes.now in
    IfOk-weaker c.judge_read.result (IsVerdictOf bytes) (λ verdict. verdict ≡ Yes (recorded_order trace))
    (λ verdict is. yes_of bytes trace verdict is spelled faultless)
    (c.judge_read.ensures.verdict bytes (read_so bytes c.read.result c.read.ensures.spelled c.read.ensures.refused))

pub returns-clause-no : goal.returns-clause-no
returns-clause-no c = λ fault first.
    let bytes = c.args.bytes.now in
    IfOk-weaker c.judge_read.result (IsVerdictOf bytes) (λ verdict. verdict ≡ No fault)
    (λ verdict is. no_of bytes verdict fault is first)
    (c.judge_read.ensures.verdict bytes (read_so bytes c.read.result c.read.ensures.spelled c.read.ensures.refused))

pub returns-clause-events : goal.returns-clause-events
returns-clause-events c =
    let bytes = c.args.bytes.now in
    IfOk-weaker c.judge_read.result (IsVerdictOf bytes) (IfYes (λ order. IsSpelledWith bytes IsWellFormedHistory))
    (λ verdict is. events_of bytes verdict is)
    (c.judge_read.ensures.verdict bytes (read_so bytes c.read.result c.read.ensures.spelled c.read.ensures.refused))

pub returns-clause-precedence : goal.returns-clause-precedence
returns-clause-precedence c =
    let bytes = c.args.bytes.now in
    IfOk-weaker c.judge_read.result (IsVerdictOf bytes) (IfYes (λ order. IsSpelledWith bytes (λ trace. KeepsPrecedence trace order)))
    (λ verdict is. precedence_of bytes verdict is)
    (c.judge_read.ensures.verdict bytes (read_so bytes c.read.result c.read.ensures.spelled c.read.ensures.refused))

pub returns-clause-answers : goal.returns-clause-answers
returns-clause-answers c =
    let bytes = c.args.bytes.now in
    IfOk-weaker c.judge_read.result (IsVerdictOf bytes) (IfYes (λ order. IsSpelledWith bytes (λ trace. HasTheAnswers trace order)))
    (λ verdict is. answers_of bytes verdict is)
    (c.judge_read.ensures.verdict bytes (read_so bytes c.read.result c.read.ensures.spelled c.read.ensures.refused))

pub returns-clause-one_trace : goal.returns-clause-one_trace
returns-clause-one_trace c =
    let bytes = c.args.bytes.now in
    IfOk-weaker c.judge_read.result (IsVerdictOf bytes) (IfYes (λ order. (trace : Recording) × SpellsAlone bytes trace))
    (λ verdict is. one_trace_of bytes verdict is)
    (c.judge_read.ensures.verdict bytes (read_so bytes c.read.result c.read.ensures.spelled c.read.ensures.refused))

pub returns-clause-members : goal.returns-clause-members
returns-clause-members c =
    let bytes = c.args.bytes.now in
    IfOk-weaker c.judge_read.result (IsVerdictOf bytes) (IfYes (λ order. IsSpelledWith bytes (λ trace. HasItsCalls trace order)))
    (λ verdict is. members_of bytes verdict is)
    (c.judge_read.ensures.verdict bytes (read_so bytes c.read.result c.read.ensures.spelled c.read.ensures.refused))

pub returns-clause-dumps : goal.returns-clause-dumps
returns-clause-dumps c =
    let bytes = c.args.bytes.now in
    IfOk-weaker c.judge_read.result (IsVerdictOf bytes) (IfYes (λ order. IsSpelledWith bytes (λ trace. HasFittingDumps trace order)))
    (λ verdict is. dumps_of bytes verdict is)
    (c.judge_read.ensures.verdict bytes (read_so bytes c.read.result c.read.ensures.spelled c.read.ensures.refused))
