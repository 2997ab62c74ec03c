use Rattle.nr_trace.proofs.LawsOfSpelling.{one_recording}
use Rattle.nr_trace.proofs.LawsOfFronts.{one_segment}
use Rattle.nr_trace.specs.declared.formats.version.Form.TheVariants as forms
use Rattle.nr_trace.proofs.laws.bytes_begin_with_one_segment.Goals as goal

pub returns-clause-spell : goal.returns-clause-spell
returns-clause-spell c = λ before. one_recording (forms.Segment before)

pub returns-clause-begin : goal.returns-clause-begin
returns-clause-begin c = one_segment
