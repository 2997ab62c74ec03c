use Rattle.std.proofs.Common.{codes, subst, sym}
use Rattle.std.specs.Str.Parse.{ParsesUnsigned, ExplainsUnsignedError, HasUnsignedDigitsIfOk}
use Rattle.clap.specs.Words.{found_of, one_text}
use Rattle.clap.proofs.WalkLemmas.{one_text-rows}
use Rattle.audit_commands.specs.Words.{IsNumberOf}
use Rattle.audit_commands.proofs.CommandLines.{number_read}
use Rattle.audit_commands.proofs.inspection.read_order.Goals as goal

pub returns : goal.returns
returns c =
    let found = found_of c.args.given.now in
    let steps_is = number_read 32 (λ text r. ParsesUnsigned 32 10 text r × ExplainsUnsignedError 10 text r × HasUnsignedDigitsIfOk text r) (λ text r h. h.0)
    (one_text found (codes "steps")) c.get_one.result c.get_one.ensures.none c.get_one.ensures.value in (
      c.is_given-as_trace.ensures,
      subst (λ t. IsNumberOf 32 t c.unwrap_or-steps.result) (one_text-rows found (codes "steps"))
          (subst (IsNumberOf 32 (one_text found (codes "steps"))) (sym c.unwrap_or-steps.ensures) steps_is),
      c.input_of.ensures,
    )
