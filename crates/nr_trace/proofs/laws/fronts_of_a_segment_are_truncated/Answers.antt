use Rattle.nr_trace.proofs.LawsOfFronts.{front_is_short}
use Rattle.nr_trace.specs.declared.formats.version.Form.TheVariants as forms
use Rattle.nr_trace.proofs.laws.fronts_of_a_segment_are_truncated.Goals as goal

pub returns : goal.returns
returns c = λ before. front_is_short (forms.Segment before)
