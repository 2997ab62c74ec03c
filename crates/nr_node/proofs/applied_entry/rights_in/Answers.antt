use Rattle.std.proofs.Common.{◌/◌, ◌%◌}
use Rattle.vs_types.specs.inside.Telling.{rights_in}
use Rattle.vs_types.proofs.Telling.{not_zero}
use Rattle.nr_node.proofs.applied_entry.rights_in.Goals as goal

pub returns : goal.returns
unfolding rights_in
returns c =
    let code = c.args.code in
    λ i. record { write = not_zero (code % 2) i; user = not_zero (code / 2 % 2) i; exec = not_zero (code / 4) i }
