use Rattle.vs_walk.proofs.LawsOfTraversals.{missing_walk, reserved_walk, faultless_well}
use Rattle.vs_walk.proofs.laws.faults_are_walked.Goals as goal

pub returns : goal.returns
returns c = record { missing = missing_walk; reserved = reserved_walk; faultless = faultless_well }
