use Rattle.nr_ring.proofs.SameWords.{first_told}
use Rattle.nr_ring.proofs.cells.cell_words.codes_determine_the_first_words.Goals as goal

pub returns : goal.returns
returns c = first_told
