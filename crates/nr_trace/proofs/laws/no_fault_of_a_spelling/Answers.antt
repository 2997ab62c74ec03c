use Rattle.nr_trace.proofs.LawsOfFormat.{no_fault}
use Rattle.nr_trace.specs.declared.formats.version.Form.TheVariants as forms
use Rattle.nr_trace.proofs.laws.no_fault_of_a_spelling.Goals as goal

pub returns : goal.returns
returns c = no_fault forms.Trace
