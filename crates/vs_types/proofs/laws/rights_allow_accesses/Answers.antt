use Rattle.std.proofs.Common.{refl}
use Rattle.vs_types.proofs.Accesses.{both_allow, codes_apart}
use Rattle.vs_types.proofs.laws.rights_allow_accesses.Goals as goal

pub returns-clause-both : goal.returns-clause-both
returns-clause-both c = both_allow

pub returns-clause-supervisor_read : goal.returns-clause-supervisor_read
returns-clause-supervisor_read c = λ rights. refl

pub returns-clause-codes : goal.returns-clause-codes
returns-clause-codes c = codes_apart
