use Rattle.nr_ring.proofs.Further.{codes_tell}
use Rattle.nr_ring.proofs.cells.cell_words.codes_determine_tails_and_ring.Goals as goal

pub returns : goal.returns
returns c = codes_tell
