use Rattle.vs_types.proofs.Alike.{alike_equal}
use Rattle.vs_types.proofs.Pages.{covered_canonical}
use Rattle.vs_types.proofs.laws.spaces_that_look_alike_are_equal.Goals as goal

pub returns-clause-equal : goal.returns-clause-equal
returns-clause-equal c = λ depth s t si ti alike. alike_equal si ti alike

pub returns-clause-canonical : goal.returns-clause-canonical
returns-clause-canonical c = covered_canonical
