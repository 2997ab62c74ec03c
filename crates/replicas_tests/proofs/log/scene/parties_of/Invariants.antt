use Rattle.std.proofs.Common.{◌≡◌, All}
use Rattle.replicas_tests.proofs.log.scene.parties_of.Given as goal

-- the passes that are left are of the log
abbrev pub invariant-loop-pass : goal.invariant-loop-pass
invariant-loop-pass g l = All (λ pass. pass.log ≡ g.K.OfLog.log) l.pass-iterator.rest.items
