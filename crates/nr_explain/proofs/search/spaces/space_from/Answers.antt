use Rattle.nr_explain.proofs.search.spaces.space_from.Goals as goal

pub apply_place-requires-clause-before : goal.apply_place-requires-clause-before
apply_place-requires-clause-before c = (c.args.start.space, c.loop-place.invariant)

pub loop-place-preserved : goal.loop-place-preserved
loop-place-preserved c = c.in_ok-apply_place.ensures.ok c.args.start.space c.loop-place.invariant
