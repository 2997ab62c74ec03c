use Rattle.nr_trace.proofs.LawsOfFormat.{one_fault}
use Rattle.nr_trace.specs.declared.formats.version.Form.TheVariants as forms
use Rattle.nr_trace.proofs.laws.one_segment_fault.Goals as goal

pub returns : goal.returns
returns c = λ before. one_fault (forms.Segment before)
