use Rattle.nr_ring.proofs.CellWords.{append_words}
use Rattle.nr_ring.proofs.cells.cell_words.appends_keep_needed_entries.Goals as goal

pub returns : goal.returns
returns c = append_words
