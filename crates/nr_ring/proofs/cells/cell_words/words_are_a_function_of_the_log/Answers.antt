use Rattle.nr_ring.proofs.SameWords.{words_same}
use Rattle.nr_ring.proofs.cells.cell_words.words_are_a_function_of_the_log.Goals as goal

pub returns : goal.returns
returns c = words_same
