use Rattle.std.proofs.Common.{arith}
use Rattle.vs_types.proofs.LogWords.{fields_low}
use Rattle.vs_types.proofs.log_entry.pack.Goals as goal

pub overflow_add-result : goal.overflow_add-result
overflow_add-result c =
    let low = fields_low c.fields-fields.result c.args.entry.op c.fields-fields.ensures.is c.fields-fields.ensures.well_formed in
    omega (arith, low, c.from.ensures, c.from-2.ensures, c.from-3.ensures)
