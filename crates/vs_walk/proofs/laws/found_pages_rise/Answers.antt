use Rattle.vs_walk.specs.Traversal.{traversal, found}
use Rattle.vs_walk.proofs.LawsOfRising.{pages_formed, pages_rise, bases_rise, rising_apart}
use Rattle.vs_walk.proofs.laws.found_pages_rise.Goals as goal

pub returns : goal.returns
returns c = record {
  well_formed = pages_formed;
  bases = λ depth memory root whole. bases_rise (found (traversal depth memory root)) (pages_rise depth memory root whole);
  ends = pages_rise;
  apart = λ depth memory root p q address whole. rising_apart (found (traversal depth memory root)) (pages_rise depth memory root whole) p q address;
}
