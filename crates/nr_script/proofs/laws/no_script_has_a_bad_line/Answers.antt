use Rattle.nr_script.proofs.OneScript.{not_bad}
use Rattle.nr_script.proofs.laws.no_script_has_a_bad_line.Goals as goal

pub returns : goal.returns
returns c = not_bad
