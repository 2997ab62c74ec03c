use Rattle.nr_ring.proofs.Makers.{few_makers, maker_of}
use Rattle.nr_ring.proofs.passing.steps.makers_have_rights.Goals as goal

pub returns-clause-maker : goal.returns-clause-maker
returns-clause-maker c = maker_of

pub returns-clause-few : goal.returns-clause-few
returns-clause-few c = few_makers
