use Rattle.std.proofs.Common.{◌∙◌}
use Rattle.nr_serve.proofs.Shown.{back_is}
use Rattle.nr_serve.proofs.endings.segment_ending.settled.Goals as goal

pub returns-clause-passes : goal.returns-clause-passes
returns-clause-passes g c = back_is c.args.passes c.settle.new.passes (c.in_ok-calls.ensures.passes ∙ c.deref_mut.ensures.value)
