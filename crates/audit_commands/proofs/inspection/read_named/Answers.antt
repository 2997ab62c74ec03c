use Rattle.std.proofs.Common.{inl, inr}
use Rattle.std.proofs.lemmas.Result.{IfOk-weaker, IfErr-weaker}
use Rattle.clap.specs.Words.{rows_of, found_of}
use Rattle.audit_commands.proofs.CommandLines.{of_audit, of_pages}
use Rattle.audit_commands.proofs.inspection.read_named.Goals as goal

pub returns-in-audit-clause-asks : goal.returns-in-audit-clause-asks
returns-in-audit-clause-asks c =
    IfOk-weaker c.read_audits.result _ _ (λ inspection h. inl (c.in-audit.is, h)) c.read_audits.ensures.asks

pub returns-in-audit-clause-fault : goal.returns-in-audit-clause-fault
returns-in-audit-clause-fault c =
    IfErr-weaker c.read_audits.result _ _ (λ e h. of_audit e c.args.name.now (rows_of (found_of c.args.given.now)) c.in-audit.is h)
    c.read_audits.ensures.misused

pub returns-in-explain-clause-asks : goal.returns-in-explain-clause-asks
returns-in-explain-clause-asks c = inr (inl (c.in-explain.is, c.read_explain.ensures))

pub returns-in-order-clause-asks : goal.returns-in-order-clause-asks
returns-in-order-clause-asks c = inr (inr (inl (c.in-order.is, c.read_order.ensures)))

pub returns-in-resolve-clause-asks : goal.returns-in-resolve-clause-asks
returns-in-resolve-clause-asks c = inr (inr (inr (inl (c.in-resolve.is, c.read_resolve.ensures))))

pub returns-in-pages-clause-asks : goal.returns-in-pages-clause-asks
returns-in-pages-clause-asks c =
    IfOk-weaker c.read_pages.result _ _ (λ inspection h. inr (inr (inr (inr (c.in-pages.is, h))))) c.read_pages.ensures.asks

pub returns-in-pages-clause-fault : goal.returns-in-pages-clause-fault
returns-in-pages-clause-fault c =
    IfErr-weaker c.read_pages.result _ _ (λ e h. of_pages e c.args.name.now (rows_of (found_of c.args.given.now)) c.in-pages.is h)
    c.read_pages.ensures.misused

pub returns-in_ok-other-in_default-clause-fault : goal.returns-in_ok-other-in_default-clause-fault
returns-in_ok-other-in_default-clause-fault c =
    let arm = c.in_default in
    inr (inr (inr ((arm.not-audit, arm.not-explain, arm.not-order, arm.not-resolve, arm.not-pages), c.in_ok-other-in_default.ensures.kind)))
