use Rattle.std.proofs.Common.{sym, ◌∙◌, subst, Some, None, Option}
use Rattle.nr_trace.specs.declared.refusals.fault.Fault.{Fault}
use Rattle.nr_chain.specs.Bytes.{GoesOnSo}
use Rattle.nr_chain.proofs.FoundChains.{right_chain}
use Rattle.audit_numbers.specs.Chains.{IsFed}
use Rattle.audit_numbers.specs.declared.judging.Judging.{Judging}
use Rattle.audit_numbers.proofs.judging.Judging.end.Goals as goal

pub returns-in-Over-clause-over : goal.returns-in-Over-clause-over
returns-in-Over-clause-over c = λ is bytes orders explain fed.
    subst (λ (j : Judging). IsFed bytes orders explain (Some j)) (sym c.replace.ensures.value ∙ c.in-Over.is) fed

pub returns-in-Ok-clause-told : goal.returns-in-Ok-clause-told
returns-in-Ok-clause-told c = λ small bytes orders explain fed.
    let there = subst (λ (j : Judging). IsFed bytes orders explain (Some j)) (sym c.replace.ensures.value ∙ c.in-Open.is) fed in
    let ended = c.in-Ok.ensures bytes orders explain there.0 there.1 in
    record {
      found = c.in-Ok.ended.found;
      goes_on = ended.0;
      right = λ none. right_chain bytes orders (subst (λ (found : Option Fault). GoesOnSo None bytes orders found) none ended.0);
      status_is = c.end_status.ensures.is;
      finding_is = c.of_end.ensures;
      over = ended.1;
    }
