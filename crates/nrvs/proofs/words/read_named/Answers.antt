use Rattle.std.proofs.Common.{◌∙◌, ◌⊎◌, [], ap, Some, codes}
use Rattle.clap.specs.Words.{Text, rows_of, found_of, subcommand_rows_of, kind_of, HasKind}
use Rattle.clap.proofs.WalkLemmas.{one_text-rows}
use Rattle.audit_commands.proofs.CommandLines.{flag_of, passed_on}
use Rattle.nrvs.specs.CommandLine.{IsMisusedHere}
use Rattle.nrvs.proofs.CommandLines.{asks_known, asks_run, asks_simulate, misused_here}
use Rattle.nrvs.proofs.words.read_named.Goals as goal

pub returns-in-simulate-clause-asks : goal.returns-in-simulate-clause-asks
returns-in-simulate-clause-asks c =
    let found = found_of c.args.given.now in
    let flag = c.get_flag-as_trace.ensures in
    asks_simulate _ (rows_of found) c.read_setup-setup.result c.get_flag-as_trace.result
    (c.requires ∙ ap (λ (name : Text). Some (name, rows_of found)) c.in-simulate.is) c.read_setup-setup.ensures
    (flag_of _ _ _ (one_text-rows found (codes "trace")) flag.none flag.value flag.other)

pub returns-in-run-clause-asks : goal.returns-in-run-clause-asks
returns-in-run-clause-asks c =
    let rows = rows_of (found_of c.args.given.now) in
    asks_run _ rows c.read_run.result (c.requires ∙ ap (λ (name : Text). Some (name, rows)) c.in-run.is) c.read_run.ensures

pub returns-in_ok-read_inspection-in_default-clause-asks : goal.returns-in_ok-read_inspection-in_default-clause-asks
returns-in_ok-read_inspection-in_default-clause-asks c =
    asks_known (subcommand_rows_of c.args.matches.now) c.in_ok-read_inspection-in_default.field-0 c.in_ok-read_inspection-in_default.ensures.asks

pub returns-in_err-read_inspection-in_default-clause-fault : goal.returns-in_err-read_inspection-in_default-clause-fault
returns-in_err-read_inspection-in_default-clause-fault c =
    let error = c.in_err-read_inspection-in_default.field-0.0 in
    let rows = rows_of (found_of c.args.given.now) in
    passed_on c.from_residual.result error (λ e. HasKind [] e ⊎ IsMisusedHere (subcommand_rows_of c.args.matches.now) (kind_of e)) c.from_residual.ensures.1
    (misused_here error _ c.args.name.now rows c.requires (c.in_default.not-simulate, c.in_default.not-run)
    c.in_err-read_inspection-in_default.ensures.fault)
