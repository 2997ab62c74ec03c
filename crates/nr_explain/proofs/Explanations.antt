-- What is explained of a trace is explained of bytes that spell it.
use Rattle.std.proofs.Common.{◌≡◌, ℕ, List, [], length, refl, sym, subst}
use Rattle.nr_trace.specs.Recording.{Recording}
use Rattle.nr_trace.specs.Spelling.{Spells}
use Rattle.nr_trace.specs.declared.refusals.fault.Fault.{Fault}
use Rattle.nr_trace.specs.declared.refusals.fault.Fault.TheVariants as faults
use Rattle.nr_audit.specs.declared.verdicts.verdict.Order.{Order}
use Rattle.nr_audit.specs.declared.verdicts.verdict.Verdict.TheVariants as verdicts
use Rattle.nr_audit.proofs.PartsOfVerdicts.{of_spelled}
use Rattle.nr_explain.specs.Dumps.{AreDumpsOf, AreToldOfDumps, IsFullExplanationOf, replica_of}
use Rattle.nr_explain.specs.Evidence.{IsEvidence}
use Rattle.nr_explain.specs.Explanation.{IsEvidenceOf, IsExplanationOf}
use Rattle.nr_explain.specs.Units.{IsBadUnit}
use Rattle.nr_explain.specs.inside.Explained.{IsExplanationOn}
use Rattle.nr_explain.specs.declared.units.BadUnit.{BadUnit}
use Rattle.nr_explain.specs.declared.trace.all_dumps.DumpExplanation.{DumpExplanation}
use Rattle.nr_explain.specs.declared.trace.all_dumps.FullExplanation.{FullExplanation}
use Rattle.nr_explain.specs.declared.trace.counts.Counts.{Counts}
use Rattle.nr_explain.specs.declared.trace.evidence.Evidence.{Evidence}
use Rattle.nr_explain.specs.declared.trace.evidence.Evidence.TheVariants as evidence
use Rattle.nr_explain.specs.declared.trace.explaining.Explanation.{Explanation}
use Rattle.nr_explain.specs.declared.trace.explaining.Explanation.TheVariants.{Yes, No}

shown_of_spelled : (bytes : List ℕ) (trace : Recording) (fault : Fault) (shown : Evidence) → Spells bytes trace → IsEvidence trace fault shown
    → IsEvidenceOf bytes fault shown
shown_of_spelled bytes trace fault (evidence.Format bad) spelled is = absurd is
shown_of_spelled bytes trace fault shown spelled is = (trace, spelled, is)

pub explained_of_spelled : (bytes : List ℕ) (trace : Recording) (explanation : Explanation) → Spells bytes trace → IsExplanationOn trace explanation
    → IsExplanationOf bytes explanation
explained_of_spelled bytes trace (Yes order counts) spelled is =
    (of_spelled bytes trace (verdicts.Yes order) spelled is.0, (trace, spelled, is.1))
explained_of_spelled bytes trace (No fault shown) spelled is =
    (of_spelled bytes trace (verdicts.No fault) spelled is.0, shown_of_spelled bytes trace fault shown spelled is.1)

-- the bad unit of bytes that spell no trace is evidence of its fault
pub told_of_bad : (bytes : List ℕ) (bad : BadUnit) → IsBadUnit bytes bad → IsExplanationOf bytes (No (faults.Format bad.fault) (evidence.Format bad))
told_of_bad bytes bad is = ((bad.unit, length is.rest, is.refused), (refl, is))

-- a right trace has nothing to say of its dumps
pub full_of_right : (bytes : List ℕ) (trace : Recording) (full : FullExplanation) (order : Order) (counts : Counts) → Spells bytes trace
    → IsExplanationOn trace full.explanation → full.explanation ≡ Yes order counts → full.dumps.items ≡ [] → IsFullExplanationOf bytes full
full_of_right bytes trace full order counts spelled is same none = record {
  explanation = explained_of_spelled bytes trace full.explanation spelled is;
  dumps = subst (λ (e : Explanation). AreDumpsOf bytes e full.dumps.items) (sym same) none;
}

-- of a wrong one, what is said of the other dumps
dumps_of_wrong : (bytes : List ℕ) (trace : Recording) (fault : Fault) (shown : Evidence) (dumps : List DumpExplanation) → Spells bytes trace
    → IsExplanationOn trace (No fault shown) → AreToldOfDumps trace (replica_of fault) dumps → AreDumpsOf bytes (No fault shown) dumps
dumps_of_wrong bytes trace fault (evidence.Format bad) dumps spelled is told = absurd is.1
dumps_of_wrong bytes trace fault shown dumps spelled is told = (trace, spelled, told)

pub full_of_wrong : (bytes : List ℕ) (trace : Recording) (full : FullExplanation) (fault : Fault) (shown : Evidence) → Spells bytes trace
    → IsExplanationOn trace full.explanation → full.explanation ≡ No fault shown
    → AreToldOfDumps trace (replica_of fault) full.dumps.items → IsFullExplanationOf bytes full
full_of_wrong bytes trace full fault shown spelled is same told = record {
  explanation = explained_of_spelled bytes trace full.explanation spelled is;
  dumps = subst (λ (e : Explanation). AreDumpsOf bytes e full.dumps.items) (sym same)
      (dumps_of_wrong bytes trace fault shown full.dumps.items spelled (subst (IsExplanationOn trace) same is) told);
}
