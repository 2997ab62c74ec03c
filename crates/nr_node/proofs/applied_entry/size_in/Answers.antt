use Rattle.std.proofs.Common.{ap, sym, arith}
use Rattle.vs_types.specs.inside.Telling.{size_in}
use Rattle.vs_types.proofs.Telling.{size_above}
use Rattle.nr_node.proofs.applied_entry.size_in.Goals as goal

pub returns-in-0 : goal.returns-in-0
unfolding size_in
returns-in-0 c = sym (ap size_in c.in-0.is)

pub returns-in-1 : goal.returns-in-1
unfolding size_in
returns-in-1 c = sym (ap size_in c.in-1.is)

pub returns-in_default : goal.returns-in_default
returns-in_default c = size_above c.args.code (omega (arith, c.in_default))
