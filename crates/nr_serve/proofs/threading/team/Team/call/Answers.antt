use Rattle.std.proofs.Common.{◌+◌, ℕ, ap, ◌∙◌}
use Rattle.nr_record.specs.Pen.{PenState}
use Rattle.nr_serve.proofs.Working.{called_and_answered}
use Rattle.nr_serve.proofs.threading.team.Team.call.Goals as goal

pub returns-clause-called : goal.returns-clause-called
returns-clause-called g c =
    let called = c.call-number.ensures.made in
    called_and_answered c.args.self.now.clock.now c.args.request c.args.pen.now c.call-number.new.self c.reply.new.self c.ask.new.pass c.call-number.result
    c.reply.result g.K.ReplicasName.base c.in-Some.reached c.in-Some-place_behind.at c.in-Some.answer g.J.LogName.replicas
    (c.in-Some-place_behind.ensures ∙ ap (λ (base : ℕ). base + c.in-Some-place_behind.at) c.requires.names.base_is) c.requires.pen.0 called
    (c.reply.ensures.made c.call-number.result (ap (λ (p : PenState). p.waiting) called)) c.requires.names.replicas_are c.in-Some.ensures.told
