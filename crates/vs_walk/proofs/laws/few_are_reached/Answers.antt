use Rattle.vs_walk.proofs.Gathered.{reached_few, dump_few, dump_in_range}
use Rattle.vs_walk.proofs.laws.few_are_reached.Goals as goal

pub returns : goal.returns
returns c = record { few = reached_few; of_dump = dump_few; in_range = dump_in_range }
