use Rattle.std.proofs.Common.{arith, ◌∙◌}
use Rattle.vs_types.specs.declared.requests.request.Query.TheVariants.{Update}
use Rattle.vs_types.proofs.LogWords.{finds_again, spells_update}
use Rattle.vs_types.proofs.log_entry.unpack.Goals as goal
use Rattle.vs_types.proofs.log_entry.unpack.Goals.{then-codes-ge128-via-then-codes-ge128, then-codes-ge128-via-else-codes-ge128+then-call-from}

pub returns-then-codes-ge128 : goal.returns-then-codes-ge128
returns-then-codes-ge128 c = λ entry is.
    let found = finds_again c.args.depth c.args.words entry is in
    elim c.then-codes-ge128.branch [
      | then-codes-ge128-via-then-codes-ge128 w ↦ omega (arith, found.codes, w.if-codes-ge128)
      | then-codes-ge128-via-else-codes-ge128+then-call-from w ↦ omega (arith, found.call, found.in_range, w.if-call-from, w.from.ensures)
    ]

pub returns-in_err-request : goal.returns-in_err-request
returns-in_err-request c =
    rw c.from_residual.ensures (λ entry is. c.in_err-request.ensures (Update entry.op) (finds_again c.args.depth c.args.words entry is).fields)

pub returns-in_default : goal.returns-in_default
returns-in_default c = λ entry is.
    let update = spells_update c.in_ok-request.request entry.op c.in_ok-request.ensures.fields_are
    (finds_again c.args.depth c.args.words entry is).fields.fields_are in
    c.in_default.not-Update update.0 (c.query.ensures.reads ∙ update.1)
