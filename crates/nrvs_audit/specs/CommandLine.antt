-- The command line of the audit alone, as clap's definitions read words.
use Rattle.std.specs.Prelude.{codes, true}
use Rattle.clap.specs.Words.{App, new_app}
use Rattle.audit_commands.specs.Words.{with_inspections}

-- the program, which has a version, and of which one of its subcommands is required
abbrev pub nrvs_audit_app : App
nrvs_audit_app = record (new_app (codes "nrvs_audit")) {
  top = record (new_app (codes "nrvs_audit")).top { has_version = true; subcommand_required = true };
}

-- the program with all its commands
abbrev pub nrvs_audit_line : App
nrvs_audit_line = with_inspections nrvs_audit_app
