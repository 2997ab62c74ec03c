use Rattle.std.proofs.Common.{◌≡◌, ◌∙◌, IfOk, ap, subst}
use Rattle.std.proofs.lemmas.Result.{IfOk-weaker}
use Rattle.clap.specs.Words.{App, app_of, with_subcommand}
use Rattle.audit_commands.specs.Words.{IsLocal}
use Rattle.audit_commands.proofs.words.with_command.Goals as goal

pub returns : goal.returns
returns c =
    λ app is.
    let given = c.in_ok-given.given in
    let here : (app_of given ≡ app) × IsLocal given = subst (λ r. IfOk r (λ g. (app_of g ≡ app) × IsLocal g)) c.in_ok-given.was is in
    IfOk-weaker c.subcommand.result _ _
    (λ whole adds. adds.shape here.1 ∙ ap (λ (a : App). with_subcommand (app_of c.args.line) a.top) here.0) c.subcommand.ensures
