use Rattle.nr_ring.proofs.CellWords.{new_is}
use Rattle.nr_ring.proofs.cells.cell_words.new_logs_have_new_words.Goals as goal

pub returns : goal.returns
returns c = new_is
