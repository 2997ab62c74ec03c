use Rattle.std.proofs.Common.{◌≡◌, ◌∙◌, [], map, string_bytes, ap, subst}
use Rattle.std.proofs.lemmas.Result.{IfOk-weaker, IfErr-weaker}
use Rattle.clap.specs.Words.{App, app_of, subcommand_of, subcommand_rows_of, is_simple, kind_of, HasKind}
use Rattle.clap.specs.Faults.{fault_of, is_simple_and_free}
use Rattle.audit_commands.proofs.CommandLines.{of_clap, same_error, told_of}
use Rattle.nrvs.specs.CommandLine.{command_line, Asks, IsMisusedHere}
use Rattle.nrvs.proofs.words.read_words.Goals as goal

pub returns-in_err-matches-clause-fault : goal.returns-in_err-matches-clause-fault
returns-in_err-matches-clause-fault c =
    let app_is : app_of c.in_ok-line.line ≡ command_line = c.in_ok-line.ensures.app in
    let kinds = c.in_err-matches.ensures.kinds (ap is_simple_and_free app_is) in
    let texts = map (λ word. string_bytes word) c.args.words.now in
    let known = subst (λ (a : App). HasKind (fault_of a texts) c.in_err-matches.field-0.0) app_is kinds in
    of_clap c.from_residual-in_err-matches.result (fault_of command_line texts)
    (λ e. (fault_of command_line texts ≡ []) × IsMisusedHere (subcommand_of command_line texts) (kind_of e))
    (same_error c.from_residual-in_err-matches.result c.in_err-matches.field-0.0
    (fault_of command_line texts) c.from_residual-in_err-matches.ensures.1 known)

pub returns-clause-faultless : goal.returns-clause-faultless
returns-clause-faultless c =
    let app_is : app_of c.in_ok-line.line ≡ command_line = c.in_ok-line.ensures.app in
    let none = subst (λ (a : App). fault_of a (map (λ word. string_bytes word) c.args.words.now) ≡ []) app_is
    (c.in_ok-matches.ensures.kinds (ap is_simple_and_free app_is)) in
    IfOk-weaker c.read_matches.result _ _ (λ asked h. none) c.read_matches.ensures.asks

pub returns-clause-asks : goal.returns-clause-asks
returns-clause-asks c =
    let app_is : app_of c.in_ok-line.line ≡ command_line = c.in_ok-line.ensures.app in
    let texts = map (λ word. string_bytes word) c.args.words.now in
    let parsed : subcommand_rows_of c.in_ok-matches.matches ≡ subcommand_of command_line texts =
    (c.in_ok-matches.ensures.ok.2 (ap is_simple app_is)).1 ∙ ap (λ (a : App). subcommand_of a texts) app_is in
    IfOk-weaker c.read_matches.result _ _ (λ asked h. subst (λ s. Asks s asked) parsed h) c.read_matches.ensures.asks

pub returns-clause-fault : goal.returns-clause-fault
returns-clause-fault c =
    let app_is : app_of c.in_ok-line.line ≡ command_line = c.in_ok-line.ensures.app in
    let texts = map (λ word. string_bytes word) c.args.words.now in
    let parsed : subcommand_rows_of c.in_ok-matches.matches ≡ subcommand_of command_line texts =
    (c.in_ok-matches.ensures.ok.2 (ap is_simple app_is)).1 ∙ ap (λ (a : App). subcommand_of a texts) app_is in
    let none = subst (λ (a : App). fault_of a texts ≡ []) app_is (c.in_ok-matches.ensures.kinds (ap is_simple_and_free app_is)) in
    IfErr-weaker c.read_matches.result _ _ (λ e h. told_of IsMisusedHere (fault_of command_line texts) e _ _ parsed none h)
    c.read_matches.ensures.fault
