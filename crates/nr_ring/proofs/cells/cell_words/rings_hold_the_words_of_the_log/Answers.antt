use Rattle.nr_ring.proofs.SameWords.{rings_hold}
use Rattle.nr_ring.proofs.cells.cell_words.rings_hold_the_words_of_the_log.Goals as goal

pub returns : goal.returns
returns c = rings_hold
