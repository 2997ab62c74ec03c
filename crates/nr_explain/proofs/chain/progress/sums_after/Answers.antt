use Rattle.std.proofs.Common.{length, ap, ◌∙◌, arith}
use Rattle.nr_explain.proofs.Counting.{all_placed}
use Rattle.nr_explain.proofs.chain.progress.sums_after.Goals as goal

pub overflow_sub-calls : goal.overflow_sub-calls
overflow_sub-calls c =
    let order = ap length (c.calls.ensures ∙ c.requires) in
    let log = ap length c.log.ensures.reads in
    let few = all_placed c.args.segment.now in
    omega (arith, order, log, few)
