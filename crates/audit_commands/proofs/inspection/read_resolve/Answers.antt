use Rattle.std.proofs.Common.{◌∙◌, ap, refl, subst, sym, codes, List, ℕ, Bor}
use Rattle.std.specs.Str.Parse.{ParsesUnsigned, ExplainsUnsignedError, HasUnsignedDigitsIfOk}
use Rattle.clap.specs.Words.{first_of, found_of, one_text, rows_of}
use Rattle.clap.proofs.WalkLemmas.{first_value-rows, one_text-rows}
use Rattle.audit_commands.specs.Words.{IsReplica}
use Rattle.audit_commands.proofs.CommandLines.{flag_of, number_read, text_or_none}
use Rattle.audit_commands.proofs.inspection.read_resolve.Goals as goal

pub returns : goal.returns
returns c =
    let found = found_of c.args.given.now in
    let address_is = text_or_none c.get_str.result _ (first_of (codes "address") (rows_of found)) (c.get_str.ensures
    ∙ first_value-rows found (codes "address")) refl
    ∙ ap (λ (s : Bor (List ℕ)). s.now) (sym c.unwrap_or-address.ensures) in
    let replica_is = number_read 8 (λ text r. ParsesUnsigned 8 10 text r × ExplainsUnsignedError 10 text r × HasUnsignedDigitsIfOk text r) (λ text r h. h.0)
    (one_text found (codes "replica")) c.get_one.result c.get_one.ensures.none c.get_one.ensures.value in
    let flag = c.get_flag-with_steps.ensures in (
      address_is,
      subst (λ t. IsReplica t c.unwrap_or-replica.result) (one_text-rows found (codes "replica"))
          (subst (IsReplica (one_text found (codes "replica"))) (sym c.unwrap_or-replica.ensures) replica_is),
      flag_of _ _ _ (one_text-rows found (codes "steps")) flag.none flag.value flag.other,
      c.input_of.ensures,
    )
