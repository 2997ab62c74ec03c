use Rattle.nr_ring.proofs.Needed.{advance_needs}
use Rattle.nr_ring.proofs.cells.cell_words.advances_need_nothing_new.Goals as goal

pub returns : goal.returns
returns c = advance_needs
