use Rattle.nr_ring.proofs.CellWords.{advance_words}
use Rattle.nr_ring.proofs.cells.cell_words.advances_change_two_words.Goals as goal

pub returns : goal.returns
returns c = advance_words
