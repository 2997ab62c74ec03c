use Rattle.std.proofs.Common.{ap}
use Rattle.core_tests.proofs.AllPens.{all_of_two, one_call}
use Rattle.core_tests.proofs.recorder.segment_of_two_pens.Goals as goal

pub segment_of_two-requires-clause-pens : goal.segment_of_two-requires-clause-pens
segment_of_two-requires-clause-pens g c =
    let first = one_call _ _ _ _ _ _ c.in_ok-clock.ensures.first c.call.ensures.made
    (c.reply-2.ensures.made c.call.result (ap (λ p. p.waiting) c.call.ensures.made)) in
    let second = one_call _ _ _ _ _ _ c.in_ok-clock.ensures.second c.call-2.ensures.made
    (c.reply.ensures.made c.call-2.result (ap (λ p. p.waiting) c.call-2.ensures.made)) in
    all_of_two first second c.in_ok-clock.ensures.threads c.in_ok-clock.ensures.calls
