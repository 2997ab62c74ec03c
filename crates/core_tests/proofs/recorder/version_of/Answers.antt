use Rattle.std.proofs.Common.{ap, sym, subst}
use Rattle.nr_record.specs.Pen.{AreAllPens}
use Rattle.core_tests.proofs.AllPens.{all_of_one, one_call}
use Rattle.core_tests.proofs.recorder.version_of.Goals as goal

pub finish-requires-clause-pens : goal.finish-requires-clause-pens
finish-requires-clause-pens g c =
    let pen = one_call _ _ _ _ _ _ c.in_ok-clock.ensures.pen c.call.ensures.made
    (c.reply.ensures.made c.call.result (ap (λ p. p.waiting) c.call.ensures.made)) in
    subst (AreAllPens c.in_ok-clock.clock) (sym c.in_ok-pens.ensures.items)
    (all_of_one pen c.in_ok-clock.ensures.threads c.in_ok-clock.ensures.calls)
