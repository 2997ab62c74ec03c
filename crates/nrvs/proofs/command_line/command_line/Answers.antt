use Rattle.std.proofs.Common.{◌≡◌, ◌∙◌, ap, true}
use Rattle.std.proofs.lemmas.Result.{IfOk-weaker}
use Rattle.clap.specs.Words.{App, app_of, with_subcommand}
use Rattle.clap.specs.Simple.{app_of_fields}
use Rattle.audit_commands.specs.Words.{with_inspections}
use Rattle.audit_commands.proofs.CommandLines.{both}
use Rattle.nrvs.specs.CommandLine.{program_app, simulate_app, run_app}
use Rattle.nrvs.proofs.command_line.command_line.Goals as goal

abbrev versioned : App → App
versioned a = record a { top = record a.top { has_version = true } }

abbrev needs : App → App
needs a = record a { top = record a.top { subcommand_required = true } }

pub returns : goal.returns
returns c =
    let program_is : app_of c.after_help-line.result ≡ program_app = ap app_of_fields c.after_help-line.ensures
    ∙ (ap app_of_fields c.subcommand_required.ensures
    ∙ ap needs (ap app_of_fields c.version.ensures ∙ ap versioned (ap app_of_fields c.about.ensures ∙ c.new.ensures.app))) in
    let one_is = c.in_ok-line.ensures.app ∙ ap with_inspections program_is in
    let two_is = c.in_ok-line-2.ensures simulate_app (both _ _ c.simulate.result c.simulate.ensures.app c.simulate.ensures.local)
    ∙ ap (λ (a : App). with_subcommand a simulate_app.top) one_is in
    record {
      app = IfOk-weaker c.with_command-2.result _ _ (λ whole is. is ∙ ap (λ (a : App). with_subcommand a run_app.top) two_is)
          (c.with_command-2.ensures run_app (both _ _ c.run.result c.run.ensures.app c.run.ensures.local));
    }
