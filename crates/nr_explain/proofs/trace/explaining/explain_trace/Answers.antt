use Rattle.std.proofs.Common.{subst}
use Rattle.nr_audit.specs.Verdict.{IsTrace, IsVerdictOn}
use Rattle.nr_audit.specs.declared.verdicts.verdict.Verdict.{Verdict}
use Rattle.nr_audit.proofs.Traces.{first_of_trace}
use Rattle.nr_explain.proofs.trace.explaining.explain_trace.Goals as goal

pub explain-requires : goal.explain-requires
explain-requires c =
    let trace = c.args.trace.now in
    let is : IsTrace trace = c.is_trace.ensures.0 (let some = c.if-not-is_trace.false in cc) in
    first_of_trace trace is c.in-No.fault (subst (λ (v : Verdict). IsVerdictOn trace v) c.in-No.is c.in_ok-order.ensures.verdict)

pub returns-then-not-is_trace : goal.returns-then-not-is_trace
returns-then-not-is_trace c = λ is. absurd (let there = c.is_trace.ensures.1 is in let none = c.if-not-is_trace.true in cc)
