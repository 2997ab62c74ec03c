use Rattle.std.proofs.Common.{[], ◌⊎◌, inr, subst, sym}
use Rattle.std.proofs.lemmas.Result.{IfOk-weaker, IfErr-weaker}
use Rattle.clap.specs.Words.{HasKind, rows_of, found_of, kind_of}
use Rattle.std.specs.Prelude.{IsSomeAnd}
use Rattle.audit_commands.specs.Words.{AsksInspection, IsMisused}
use Rattle.audit_commands.proofs.CommandLines.{entered, not_entered}
use Rattle.audit_commands.proofs.inspection.read_inspection.Goals as goal

pub returns-in-Some-clause-asks : goal.returns-in-Some-clause-asks
returns-in-Some-clause-asks c =
    let arm = c.in-Some in
    let sub_is = entered _ arm.name.now (rows_of (found_of arm.given.now)) arm.ensures.name arm.ensures.rows in
    IfOk-weaker c.read_named.result _ _
    (λ inspection h. subst (λ s. IsSomeAnd s (λ given. AsksInspection given inspection)) (sym sub_is) h) c.read_named.ensures.asks

pub returns-in-Some-clause-fault : goal.returns-in-Some-clause-fault
returns-in-Some-clause-fault c =
    let arm = c.in-Some in
    let sub_is = entered _ arm.name.now (rows_of (found_of arm.given.now)) arm.ensures.name arm.ensures.rows in
    IfErr-weaker c.read_named.result _ _
    (λ e h. subst (λ s. HasKind [] e ⊎ IsMisused s (kind_of e)) (sym sub_is) h) c.read_named.ensures.fault

pub returns-in_ok-none-in-None-clause-fault : goal.returns-in_ok-none-in-None-clause-fault
returns-in_ok-none-in-None-clause-fault c =
    inr (subst (λ s. IsMisused s (kind_of c.in_ok-none-in-None.none)) (sym (not_entered _ c.in-None.ensures.rows)) c.in_ok-none-in-None.ensures.kind)
