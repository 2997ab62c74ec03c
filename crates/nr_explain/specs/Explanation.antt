-- What an explanation says of bytes: the verdict on them, and for a no the evidence, for a yes how much there is.
use Rattle.std.specs.Prelude.{◌≡◌, ℕ, List}
use Rattle.nr_trace.specs.Recording.{Recording}
use Rattle.nr_trace.specs.Spelling.{Spells}
use Rattle.nr_trace.specs.declared.refusals.fault.Fault.{Fault}
use Rattle.nr_trace.specs.declared.refusals.fault.Fault.TheVariants as faults
use Rattle.nr_audit.specs.Verdict.{IsVerdictOf}
use Rattle.nr_audit.specs.declared.verdicts.verdict.Verdict.TheVariants as verdicts
use Rattle.nr_explain.specs.Counts.{IsCountOf}
use Rattle.nr_explain.specs.Units.{IsBadUnit}
use Rattle.nr_explain.specs.Evidence.{IsEvidence}
use Rattle.nr_explain.specs.declared.trace.counts.Counts.{Counts}
use Rattle.nr_explain.specs.declared.trace.evidence.Evidence.{Evidence}
use Rattle.nr_explain.specs.declared.trace.evidence.Evidence.TheVariants as evidence
use Rattle.nr_explain.specs.declared.trace.explaining.Explanation.{Explanation}
use Rattle.nr_explain.specs.declared.trace.explaining.Explanation.TheVariants.{Yes, No}

-- the evidence is the bad unit of the bytes, or evidence of the trace that they spell
abbrev pub IsEvidenceOf : List ℕ → Fault → Evidence → Type 0
IsEvidenceOf bytes fault (evidence.Format bad) = (fault ≡ faults.Format bad.fault) × IsBadUnit bytes bad
IsEvidenceOf bytes fault shown = (trace : Recording) × Spells bytes trace × IsEvidence trace fault shown

-- the counts are those of the trace that the bytes spell
abbrev pub IsCountOfBytes : List ℕ → Counts → Type 0
IsCountOfBytes bytes counts = (trace : Recording) × Spells bytes trace × IsCountOf trace counts

-- the verdict on the bytes; how much is right, or evidence of their first fault
abbrev pub IsExplanationOf : List ℕ → Explanation → Type 0
IsExplanationOf bytes (Yes order counts) = IsVerdictOf bytes (verdicts.Yes order) × IsCountOfBytes bytes counts
IsExplanationOf bytes (No fault shown) = IsVerdictOf bytes (verdicts.No fault) × IsEvidenceOf bytes fault shown
