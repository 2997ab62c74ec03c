use Rattle.nr_ring.proofs.Needed.{one_word}
use Rattle.nr_ring.proofs.cells.cell_words.needed_words_are_unique.Goals as goal

pub returns : goal.returns
returns c = one_word
