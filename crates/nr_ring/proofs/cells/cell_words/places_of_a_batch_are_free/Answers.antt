use Rattle.nr_ring.proofs.Needed.{places_free}
use Rattle.nr_ring.proofs.cells.cell_words.places_of_a_batch_are_free.Goals as goal

pub returns : goal.returns
returns c = places_free
