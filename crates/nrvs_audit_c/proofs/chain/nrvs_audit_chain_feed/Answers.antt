use Rattle.std.proofs.Common.{Option, sym, subst, ap, ◌∙◌, Some}
use Rattle.audit_numbers.specs.Calls.{TellsMore, TellsSegment}
use Rattle.audit_numbers.specs.Chains.{IsFed}
use Rattle.audit_numbers.specs.declared.judging.Judging.{Judging}
use Rattle.nrvs_audit_c.proofs.chain.nrvs_audit_chain_feed.Goals as goal

pub returns-clause-told : goal.returns-clause-told
returns-clause-told c = λ small before orders explain fed.
    subst (λ (held : Option Judging). TellsSegment before orders explain c.args.bytes.now c.feed-status.result c.feed-status.new.taken c.feed-status.new.finding
    c.args.order.now c.feed-status.new.order held) (sym c.of.ensures.held)
    (c.feed-status.ensures.told small before orders explain (subst (IsFed before orders explain) (sym c.open-judging.ensures.held
    ∙ ap (λ (j : Judging). Some j) (sym c.deref_mut.ensures.value)) fed))

pub returns-clause-more : goal.returns-clause-more
returns-clause-more c = λ more before orders explain fed.
    subst (λ (held : Option Judging). TellsMore before orders explain c.args.bytes.now c.feed-status.new.taken held) (sym c.of.ensures.held)
    (c.feed-status.ensures.more more before orders explain (subst (IsFed before orders explain) (sym c.open-judging.ensures.held
    ∙ ap (λ (j : Judging). Some j) (sym c.deref_mut.ensures.value)) fed))

pub returns-clause-over : goal.returns-clause-over
returns-clause-over c = λ over before orders explain fed.
    c.feed-status.ensures.over over before orders explain (subst (IsFed before orders explain) (sym c.open-judging.ensures.held
    ∙ ap (λ (j : Judging). Some j) (sym c.deref_mut.ensures.value)) fed)
