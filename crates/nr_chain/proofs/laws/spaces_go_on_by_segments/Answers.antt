use Rattle.nr_chain.proofs.Chains.{space_behind_joined}
use Rattle.nr_chain.proofs.laws.spaces_go_on_by_segments.Goals as goal

pub returns : goal.returns
returns c = λ start first more right. space_behind_joined start first more right.1 right.2
