use Rattle.nr_audit.proofs.StartSpaces.{first_translates}
use Rattle.nr_audit.proofs.laws.right_starts_translate.Goals as goal

pub returns : goal.returns
returns c = first_translates
