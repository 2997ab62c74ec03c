use Rattle.nr_audit.specs.declared.verdicts.verdict.Verdict.TheVariants.{Yes}
use Rattle.nr_audit.proofs.PartsOfVerdicts.{right_of}
use Rattle.nr_audit.proofs.laws.yes_means_right.Goals as goal

pub returns : goal.returns
returns c = λ bytes order is. right_of bytes (Yes order) is
