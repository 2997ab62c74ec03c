use Rattle.nr_ring.proofs.passing.pass.LogPass.new.Goals as goal

pub invariant_of-result : goal.invariant_of-result
invariant_of-result g c = c.requires
