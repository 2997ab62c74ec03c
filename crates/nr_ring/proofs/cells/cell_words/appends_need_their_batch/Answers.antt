use Rattle.nr_ring.proofs.Needed.{append_needs}
use Rattle.nr_ring.proofs.cells.cell_words.appends_need_their_batch.Goals as goal

pub returns : goal.returns
returns c = append_needs
