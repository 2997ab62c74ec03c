use Rattle.std.proofs.Common.{◌⊎◌, []}
use Rattle.clap.specs.Words.{rows_of, found_of, subcommand_rows_of, kind_of, HasKind}
use Rattle.audit_commands.proofs.CommandLines.{entered, not_entered, passed_on}
use Rattle.nrvs.specs.CommandLine.{IsMisusedHere}
use Rattle.nrvs.proofs.CommandLines.{asks_known, none_here}
use Rattle.nrvs.proofs.words.read_matches.Goals as goal

pub read_named-requires : goal.read_named-requires
read_named-requires c =
    let arm = c.in-Some in
    entered _ arm.name.now (rows_of (found_of arm.given.now)) arm.ensures.name arm.ensures.rows

pub returns-in_ok-read_inspection-in-None-clause-asks : goal.returns-in_ok-read_inspection-in-None-clause-asks
returns-in_ok-read_inspection-in-None-clause-asks c =
    asks_known (subcommand_rows_of c.args.matches.now) c.in_ok-read_inspection-in-None.field-0 c.in_ok-read_inspection-in-None.ensures.asks

pub returns-in_err-read_inspection-in-None-clause-fault : goal.returns-in_err-read_inspection-in-None-clause-fault
returns-in_err-read_inspection-in-None-clause-fault c =
    let error = c.in_err-read_inspection-in-None.field-0.0 in
    passed_on c.from_residual.result error (λ e. HasKind [] e ⊎ IsMisusedHere (subcommand_rows_of c.args.matches.now) (kind_of e)) c.from_residual.ensures.1
    (none_here error _ (not_entered _ c.in-None.ensures.rows) c.in_err-read_inspection-in-None.ensures.fault)
