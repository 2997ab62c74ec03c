use Rattle.std.proofs.Common.{◌<◌, length, arith}
use Rattle.vs_plan.proofs.FoundAgain.{plan_again}
use Rattle.vs_plan.proofs.plans.plan.Plan.again.Goals as goal

pub returns-clause-done : goal.returns-clause-done
returns-clause-done c = λ is.
    let self = c.args.self.now in
    let within : c.args.index < length self.stores.items = omega (arith, c.if-index-len.false, c.len.ensures.value) in
    plan_again self c.args.index c.args.word _ c.as_slice.result.now c.as_mut_slice.result.now c.as_slice.ensures.value c.as_mut_slice.ensures.value within
    (c.has_flags_set.ensures.yes c.if-not-has_flags_set.false) c.new_again-new.result c.bits_again-self.result c.fill_again-self.result
    c.new_again-new.ensures c.bits_again-self.ensures c.fill_again-self.ensures
