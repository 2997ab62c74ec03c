use Rattle.std.proofs.Common.{sym, subst, true, ap, ◌∙◌, Some}
use Rattle.audit_numbers.specs.Chains.{IsOver}
use Rattle.audit_numbers.specs.declared.judging.Judging.{Judging}
use Rattle.nrvs_audit_c.proofs.chain.nrvs_audit_chain_explain.Goals as goal

pub returns-clause-told : goal.returns-clause-told
returns-clause-told c = λ small bytes explain over.
    c.explain-status.ensures.told small bytes explain
    (subst (IsOver bytes explain) (sym c.open-judging.ensures.held ∙ ap (λ (j : Judging). Some j) (sym c.deref.ensures)) over)

pub returns-clause-unexplained : goal.returns-clause-unexplained
returns-clause-unexplained c = λ none bytes over.
    c.explain-status.ensures.unexplained none bytes
    (subst (IsOver bytes true) (sym c.open-judging.ensures.held ∙ ap (λ (j : Judging). Some j) (sym c.deref.ensures)) over)
