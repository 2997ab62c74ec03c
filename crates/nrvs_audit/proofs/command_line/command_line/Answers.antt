use Rattle.std.proofs.Common.{◌≡◌, ◌∙◌, ap, true}
use Rattle.std.proofs.lemmas.Result.{IfOk-weaker}
use Rattle.clap.specs.Words.{App, app_of}
use Rattle.clap.specs.Simple.{app_of_fields}
use Rattle.audit_commands.specs.Words.{with_inspections}
use Rattle.nrvs_audit.specs.CommandLine.{nrvs_audit_app}
use Rattle.nrvs_audit.proofs.command_line.command_line.Goals as goal

abbrev versioned : App → App
versioned a = record a { top = record a.top { has_version = true } }

abbrev needs : App → App
needs a = record a { top = record a.top { subcommand_required = true } }

pub returns : goal.returns
returns c =
    let program_is : app_of c.after_help-line.result ≡ nrvs_audit_app = ap app_of_fields c.after_help-line.ensures
    ∙ (ap app_of_fields c.subcommand_required.ensures
    ∙ ap needs (ap app_of_fields c.version.ensures ∙ ap versioned (ap app_of_fields c.about.ensures ∙ c.new.ensures.app))) in
    record { app = IfOk-weaker c.with_inspections.result _ _ (λ whole is. is ∙ ap with_inspections program_is) c.with_inspections.ensures.app }
