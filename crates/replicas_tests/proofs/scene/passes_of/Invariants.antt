use Rattle.std.proofs.Common.{◌≡◌, All}
use Rattle.replicas_tests.proofs.scene.passes_of.Given as goal

-- the passes so far are of the log
abbrev pub invariant-loop-caller : goal.invariant-loop-caller
invariant-loop-caller g l = All (λ pass. pass.log ≡ g.K.ReplicasName.log) l.passes.items
