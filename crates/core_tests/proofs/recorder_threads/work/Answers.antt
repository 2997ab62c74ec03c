use Rattle.std.proofs.Common.{ap, ◌∙◌}
use Rattle.core_tests.proofs.recorder_threads.work.Goals as goal

pub returns : goal.returns
returns c =
    let called = c.call-call.ensures.made in
    let replied = c.reply-reply.ensures.made c.call-call.result (ap (λ p. p.waiting) called) in
    record {
      clock = ap (λ p. p.clock) replied ∙ ap (λ p. p.clock) called;
      thread = ap (λ p. p.thread) replied ∙ ap (λ p. p.thread) called;
      quota = ap (λ p. p.quota) replied ∙ ap (λ p. p.quota) called;
    }
