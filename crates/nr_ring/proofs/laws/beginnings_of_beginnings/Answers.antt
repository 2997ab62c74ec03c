use Rattle.nr_ring.proofs.Histories.{begins}
use Rattle.nr_ring.proofs.laws.beginnings_of_beginnings.Goals as goal

pub returns : goal.returns
returns c = λ events later seen first second. begins seen later events second first
