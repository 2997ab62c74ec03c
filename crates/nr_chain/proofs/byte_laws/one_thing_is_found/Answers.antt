use Rattle.nr_audit.proofs.FirstFaults.{one_first_after}
use Rattle.nr_chain.proofs.Exact.{found_once}
use Rattle.nr_chain.proofs.byte_laws.one_thing_is_found.Goals as goal

pub returns : goal.returns
returns c = found_once one_first_after
