use Rattle.std.proofs.Common.{Option, sym, subst, ap, ◌∙◌, Some}
use Rattle.audit_numbers.specs.Calls.{TellsEnd}
use Rattle.audit_numbers.specs.Chains.{IsFed}
use Rattle.audit_numbers.specs.declared.judging.Judging.{Judging}
use Rattle.nrvs_audit_c.proofs.chain.nrvs_audit_chain_end.Goals as goal

pub returns-clause-told : goal.returns-clause-told
returns-clause-told c = λ small bytes orders explain fed.
    subst (λ (held : Option Judging). TellsEnd bytes orders explain c.end-status.result c.end-status.new.finding held) (sym c.of.ensures.held)
    (c.end-status.ensures.told small bytes orders explain (subst (IsFed bytes orders explain) (sym c.open-judging.ensures.held
    ∙ ap (λ (j : Judging). Some j) (sym c.deref_mut.ensures.value)) fed))

pub returns-clause-over : goal.returns-clause-over
returns-clause-over c = λ over bytes orders explain fed.
    c.end-status.ensures.over over bytes orders explain (subst (IsFed bytes orders explain) (sym c.open-judging.ensures.held
    ∙ ap (λ (j : Judging). Some j) (sym c.deref_mut.ensures.value)) fed)
