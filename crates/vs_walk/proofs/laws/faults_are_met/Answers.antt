use Rattle.vs_walk.proofs.LawsOfTraversals.{missing_absent, shared_held, shared_reached, reserved_reached}
use Rattle.vs_walk.proofs.laws.faults_are_met.Goals as goal

pub returns : goal.returns
returns c = record {
  missing = missing_absent;
  shared = λ depth memory root number some. (shared_held depth memory root number some, shared_reached depth memory root number some);
  reserved = reserved_reached;
}
