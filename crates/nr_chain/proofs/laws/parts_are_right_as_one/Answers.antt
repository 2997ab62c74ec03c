use Rattle.nr_chain.proofs.Chains.{right_parts, faultless_parts}
use Rattle.nr_chain.proofs.laws.parts_are_right_as_one.Goals as goal

pub returns-clause-right : goal.returns-clause-right
returns-clause-right c = right_parts

pub returns-clause-faultless : goal.returns-clause-faultless
returns-clause-faultless c = faultless_parts
