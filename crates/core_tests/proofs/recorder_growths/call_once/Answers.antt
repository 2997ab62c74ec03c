use Rattle.std.proofs.Common.{ℕ, [], ◌∷◌, ◌++◌, ap, arith, cond, ◌∙◌}
use Rattle.std.proofs.lemmas.List.Sums.{sum_by-append}
use Rattle.vs_types.specs.declared.requests.answer.Answer.TheVariants.{NotMapped}
use Rattle.nr_trace.specs.declared.recordings.event.Event.TheVariants.{Reply}
use Rattle.nr_record.specs.Pen.{calls_in, call_by, is_call, stamped}
use Rattle.nr_record.specs.declared.stamped.Stamped.{Stamped}
use Rattle.core_tests.proofs.recorder_growths.call_once.Goals as goal

pub returns : goal.returns
returns c =
    let called = c.call-call.ensures.made in
    let replied = c.reply-reply.ensures.made c.call-call.result (ap (λ p. p.waiting) called) in
    let call = stamped c.call-call.result (call_by c.args.pen.now.clock.layout c.args.pen.now.thread c.args.request) in
    let reply = stamped c.reply-reply.result (Reply c.call-call.result 0 NotMapped) in
    let made = c.args.pen.now.made in
    let is : Stamped → ℕ = λ item. cond (is_call item.event) 1 0 in
    let first = sum_by-append is made (call ∷ []) in
    let second = sum_by-append is (made ++ call ∷ []) (reply ∷ []) in
    record {
      clock = ap (λ p. p.clock) replied ∙ ap (λ p. p.clock) called;
      none_waiting = ap (λ p. p.waiting) replied;
      quota = ap (λ p. p.quota) replied ∙ ap (λ p. p.quota) called;
      calls = ap (λ p. calls_in p.made) replied ∙ ap (λ p. calls_in (p.made ++ reply ∷ [])) called ∙ omega (arith, first, second);
    }
