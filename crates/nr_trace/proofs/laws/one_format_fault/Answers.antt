use Rattle.nr_trace.proofs.LawsOfFormat.{one_fault}
use Rattle.nr_trace.specs.declared.formats.version.Form.TheVariants as forms
use Rattle.nr_trace.proofs.laws.one_format_fault.Goals as goal

pub returns : goal.returns
returns c = one_fault forms.Trace
