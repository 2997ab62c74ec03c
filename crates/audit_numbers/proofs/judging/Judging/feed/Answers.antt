use Rattle.std.proofs.Common.{refl, sym, ◌∙◌, subst, Some}
use Rattle.audit_numbers.specs.inside.Said.{IsSaid}
use Rattle.audit_numbers.specs.Chains.{IsFed}
use Rattle.audit_numbers.specs.declared.judging.Judging.{Judging}
use Rattle.audit_numbers.proofs.judging.Judging.feed.Goals as goal

pub returns-in-Over-clause-over : goal.returns-in-Over-clause-over
returns-in-Over-clause-over c = λ is bytes orders explain fed.
    subst (λ (j : Judging). IsFed bytes orders explain (Some j)) (sym c.replace.ensures.value ∙ c.in-Over.is) fed

pub returns-in-Ok-More-clause-more : goal.returns-in-Ok-More-clause-more
returns-in-Ok-More-clause-more c = λ is bytes orders explain fed.
    let there = subst (λ (j : Judging). IsFed bytes orders explain (Some j)) (sym c.replace.ensures.value ∙ c.in-Open.is) fed in
    (refl, subst (IsSaid bytes orders explain c.args.piece.now) c.in-Ok-More.field-0-is (c.in-Ok-More.ensures bytes orders explain there.0 there.1))

pub returns-in-Ok-Verdict-clause-told : goal.returns-in-Ok-Verdict-clause-told
returns-in-Ok-Verdict-clause-told c = λ small bytes orders explain fed.
    let there = subst (λ (j : Judging). IsFed bytes orders explain (Some j)) (sym c.replace.ensures.value ∙ c.in-Open.is) fed in
    record {
      verdict = c.in-Ok-Verdict.verdict;
      of_segment = subst (IsSaid bytes orders explain c.args.piece.now) c.in-Ok-Verdict.field-0-is
          (c.in-Ok-Verdict.ensures bytes orders explain there.0 there.1);
      status_is = c.status_of.ensures.is;
      finding_is = c.of.ensures;
      array_is = c.write_order.ensures;
    }
