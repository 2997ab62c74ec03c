use Rattle.std.proofs.Common.{subst, true, Some}
use Rattle.audit_numbers.specs.Chains.{IsOver}
use Rattle.audit_numbers.specs.declared.judging.Judging.{Judging}
use Rattle.audit_numbers.proofs.judging.Judging.explain.Goals as goal

pub returns-in-Open-clause-unexplained : goal.returns-in-Open-clause-unexplained
returns-in-Open-clause-unexplained c = λ is bytes over. subst (λ (j : Judging). IsOver bytes true (Some j)) c.in-Open.is over
