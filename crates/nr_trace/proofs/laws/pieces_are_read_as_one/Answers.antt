use Rattle.nr_trace.proofs.LawsOfPieces.{pieces_read, one_reading}
use Rattle.nr_trace.proofs.laws.pieces_are_read_as_one.Goals as goal

pub returns-clause-joined : goal.returns-clause-joined
returns-clause-joined c = pieces_read

pub returns-clause-one : goal.returns-clause-one
returns-clause-one c = one_reading
