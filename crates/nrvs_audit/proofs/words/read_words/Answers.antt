use Rattle.std.proofs.Common.{◌≡◌, ◌∙◌, [], map, string_bytes, ap, subst}
use Rattle.std.proofs.lemmas.Result.{IfOk-weaker, IfErr-weaker}
use Rattle.clap.specs.Words.{App, app_of, subcommand_of, subcommand_rows_of, is_simple, kind_of, HasKind}
use Rattle.clap.specs.Faults.{fault_of, is_simple_and_free}
use Rattle.std.specs.Prelude.{IsSomeAnd}
use Rattle.audit_commands.specs.Words.{AsksInspection, IsMisused}
use Rattle.audit_commands.proofs.CommandLines.{of_clap, same_error, told_of}
use Rattle.nrvs_audit.specs.CommandLine.{nrvs_audit_line}
use Rattle.nrvs_audit.proofs.words.read_words.Goals as goal

pub returns-in_err-matches-clause-fault : goal.returns-in_err-matches-clause-fault
returns-in_err-matches-clause-fault c =
    let app_is : app_of c.in_ok-line.line ≡ nrvs_audit_line = c.in_ok-line.ensures.app in
    let kinds = c.in_err-matches.ensures.kinds (ap is_simple_and_free app_is) in
    let texts = map (λ word. string_bytes word) c.args.words.now in
    let known = subst (λ (a : App). HasKind (fault_of a texts) c.in_err-matches.field-0.0) app_is kinds in
    of_clap c.from_residual-in_err-matches.result (fault_of nrvs_audit_line texts)
    (λ e. (fault_of nrvs_audit_line texts ≡ []) × IsMisused (subcommand_of nrvs_audit_line texts) (kind_of e))
    (same_error c.from_residual-in_err-matches.result c.in_err-matches.field-0.0
    (fault_of nrvs_audit_line texts) c.from_residual-in_err-matches.ensures.1 known)

pub returns-clause-faultless : goal.returns-clause-faultless
returns-clause-faultless c =
    let app_is : app_of c.in_ok-line.line ≡ nrvs_audit_line = c.in_ok-line.ensures.app in
    let none = subst (λ (a : App). fault_of a (map (λ word. string_bytes word) c.args.words.now) ≡ []) app_is
    (c.in_ok-matches.ensures.kinds (ap is_simple_and_free app_is)) in
    IfOk-weaker c.read_inspection.result _ _ (λ asked h. none) c.read_inspection.ensures.asks

pub returns-clause-asks : goal.returns-clause-asks
returns-clause-asks c =
    let app_is : app_of c.in_ok-line.line ≡ nrvs_audit_line = c.in_ok-line.ensures.app in
    let texts = map (λ word. string_bytes word) c.args.words.now in
    let parsed : subcommand_rows_of c.in_ok-matches.matches ≡ subcommand_of nrvs_audit_line texts =
    (c.in_ok-matches.ensures.ok.2 (ap is_simple app_is)).1 ∙ ap (λ (a : App). subcommand_of a texts) app_is in
    IfOk-weaker c.read_inspection.result _ _ (λ asked h. subst (λ s. IsSomeAnd s (λ given. AsksInspection given asked)) parsed h) c.read_inspection.ensures.asks

pub returns-clause-fault : goal.returns-clause-fault
returns-clause-fault c =
    let app_is : app_of c.in_ok-line.line ≡ nrvs_audit_line = c.in_ok-line.ensures.app in
    let texts = map (λ word. string_bytes word) c.args.words.now in
    let parsed : subcommand_rows_of c.in_ok-matches.matches ≡ subcommand_of nrvs_audit_line texts =
    (c.in_ok-matches.ensures.ok.2 (ap is_simple app_is)).1 ∙ ap (λ (a : App). subcommand_of a texts) app_is in
    let none = subst (λ (a : App). fault_of a texts ≡ []) app_is (c.in_ok-matches.ensures.kinds (ap is_simple_and_free app_is)) in
    IfErr-weaker c.read_inspection.result _ _ (λ e h. told_of IsMisused (fault_of nrvs_audit_line texts) e _ _ parsed none h)
    c.read_inspection.ensures.fault
