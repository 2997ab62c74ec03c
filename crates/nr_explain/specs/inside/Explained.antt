-- What an explanation says of a trace. No public clause cites this file.
use Rattle.nr_trace.specs.Recording.{Recording}
use Rattle.nr_audit.specs.Verdict.{IsVerdictOn}
use Rattle.nr_audit.specs.declared.verdicts.verdict.Verdict.TheVariants as verdicts
use Rattle.nr_explain.specs.Counts.{IsCountOf}
use Rattle.nr_explain.specs.Evidence.{IsEvidence}
use Rattle.nr_explain.specs.declared.trace.explaining.Explanation.{Explanation}
use Rattle.nr_explain.specs.declared.trace.explaining.Explanation.TheVariants.{Yes, No}

-- the verdict on the trace; how much it has, or evidence of its first fault
abbrev pub IsExplanationOn : Recording → Explanation → Type 0
IsExplanationOn trace (Yes order counts) = IsVerdictOn trace (verdicts.Yes order) × IsCountOf trace counts
IsExplanationOn trace (No fault shown) = IsVerdictOn trace (verdicts.No fault) × IsEvidence trace fault shown
