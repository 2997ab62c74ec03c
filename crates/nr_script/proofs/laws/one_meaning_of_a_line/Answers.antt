use Rattle.nr_script.proofs.OneScript.{same_line}
use Rattle.nr_script.proofs.laws.one_meaning_of_a_line.Goals as goal

pub returns : goal.returns
returns c = same_line
