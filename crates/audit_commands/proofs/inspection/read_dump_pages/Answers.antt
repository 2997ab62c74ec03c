use Rattle.std.proofs.Common.{codes, subst, sym}
use Rattle.std.specs.Str.Parse.{ParsesUnsigned, ExplainsUnsignedError, HasUnsignedDigitsIfOk}
use Rattle.clap.specs.Words.{found_of, one_text}
use Rattle.clap.proofs.WalkLemmas.{one_text-rows}
use Rattle.audit_commands.specs.Words.{IsReplica}
use Rattle.audit_commands.proofs.CommandLines.{flag_is, number_read}
use Rattle.audit_commands.proofs.inspection.read_dump_pages.Goals as goal

pub returns-clause-asks : goal.returns-clause-asks
returns-clause-asks c =
    let found = found_of c.args.given.now in
    let replica_is = number_read 8 (λ text r. ParsesUnsigned 8 10 text r × ExplainsUnsignedError 10 text r × HasUnsignedDigitsIfOk text r) (λ text r h. h.0)
    (one_text found (codes "replica")) c.get_one.result c.get_one.ensures.none c.get_one.ensures.value in (
      c.requires,
      flag_is c.is_given-start.ensures c.if-start.false,
      flag_is c.is_given-end.ensures c.if-end.false,
      subst (λ t. IsReplica t c.unwrap_or-replica.result) (one_text-rows found (codes "replica"))
          (subst (IsReplica (one_text found (codes "replica"))) (sym c.unwrap_or-replica.ensures) replica_is),
      c.is_given-as_ranges.ensures,
      c.input_of.ensures,
    )
