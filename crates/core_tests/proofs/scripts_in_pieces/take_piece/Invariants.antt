use Rattle.std.proofs.Common.{length}
use Rattle.core_tests.proofs.scripts_in_pieces.take_piece.Given as goal

abbrev pub decreases-loop-rest : goal.decreases-loop-rest
decreases-loop-rest g l = length l.rest
