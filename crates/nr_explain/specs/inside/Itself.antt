-- What shows a fault that doesn't depend on the space with which a segment begins. No public clause cites this file.
use Rattle.nr_trace.specs.Recording.{Recording}
use Rattle.nr_trace.specs.declared.refusals.fault.Fault.{Fault}
use Rattle.nr_explain.specs.Evidence.{IsEvidence}
use Rattle.nr_explain.specs.declared.chain.evidence.SegmentEvidence.{SegmentEvidence}
use Rattle.nr_explain.specs.declared.chain.evidence.SegmentEvidence.TheVariants as evidence

abbrev pub IsShownByItself : Recording → Fault → SegmentEvidence → Type 0
IsShownByItself segment fault (evidence.Within shown) = IsEvidence segment fault shown
IsShownByItself segment fault shown = ⊥
