use Rattle.nr_chain.proofs.FoundChains.{right_chain}
use Rattle.nr_chain.proofs.byte_laws.chains_without_a_fault_are_right.Goals as goal

pub returns : goal.returns
returns c = right_chain
