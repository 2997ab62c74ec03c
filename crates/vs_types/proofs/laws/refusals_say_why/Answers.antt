use Rattle.vs_types.proofs.Refusals.{overlap_says, full_says, unmap_inside, protect_inside, unmap_not_mapped, protect_not_mapped}
use Rattle.vs_types.proofs.laws.refusals_say_why.Goals as goal

pub returns-clause-overlap : goal.returns-clause-overlap
returns-clause-overlap c = λ depth limit space page base is. overlap_says limit is page base

pub returns-clause-full : goal.returns-clause-full
returns-clause-full c = full_says

pub returns-clause-unmap_inside : goal.returns-clause-unmap_inside
returns-clause-unmap_inside c = λ depth limit space address base is. unmap_inside limit is address base

pub returns-clause-protect_inside : goal.returns-clause-protect_inside
returns-clause-protect_inside c = λ depth limit space address base rights is. protect_inside limit is address base rights

pub returns-clause-unmap_not_mapped : goal.returns-clause-unmap_not_mapped
returns-clause-unmap_not_mapped c = λ depth limit space address is. unmap_not_mapped limit is address

pub returns-clause-protect_not_mapped : goal.returns-clause-protect_not_mapped
returns-clause-protect_not_mapped c = λ depth limit space address rights is. protect_not_mapped limit is address rights
