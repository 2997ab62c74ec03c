use Rattle.replicas_tests.proofs.Passes.{still_of}
use Rattle.replicas_tests.proofs.cuts.make_segment.Goals as goal

pub returns-clause-passes : goal.returns-clause-passes
returns-clause-passes g c = still_of g.K.ReplicasName.log _ c.cut.new.passes _ c.cut.ensures.log c.passes_of-passes.ensures
