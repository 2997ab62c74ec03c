-- No float is in the JSON of an audit.
use Rattle.std.proofs.Common.{◌≡◌, ℕ, false, List, [], ◌∷◌, Option, Some, None, ap, codes, map, refl}
use Rattle.serde_json.specs.Data.{object, put, string}
use Rattle.serde_json.specs.View.{items_of}
use Rattle.serde_json.specs.Written.{has_float, items_have_float}
use Rattle.nr_trace.specs.declared.refusals.fault.Fault.{Fault}
use Rattle.nr_audit.specs.declared.histories.met.Totals.{Totals}
use Rattle.nr_audit.specs.declared.verdicts.verdict.Verdict.{Verdict}
use Rattle.nr_audit.specs.declared.verdicts.verdict.Verdict.TheVariants.{Yes, No}
use Rattle.audit_texts.specs.AuditJson.{FaultNumber, addressed, counted, fault_number_data, fault_numbers}
use Rattle.audit_texts.specs.AuditJson.{right_members, verdict_members}
use Rattle.audit_texts.specs.ChainJson.{end_members}
use Rattle.audit_texts.specs.EvidenceJson.{number_data}
use Rattle.audit_texts.proofs.NoFloats.{one}

numbers : (them : List FaultNumber) → items_have_float (items_of (map fault_number_data them)) ≡ false
numbers [] = refl
numbers (counted number ∷ more) = numbers more
numbers (addressed address ∷ more) = numbers more

pub verdict_has_no_float : (verdict : Verdict) (overlapping : ℕ) → has_float (object (verdict_members verdict overlapping)) ≡ false
verdict_has_no_float (Yes order) overlapping = refl
verdict_has_no_float (No fault) overlapping = ap one (numbers (fault_numbers fault))

pub named_has_no_float : (name : List ℕ) (verdict : Verdict) (overlapping : ℕ)
    → has_float (object (put (codes "file") (string name) (verdict_members verdict overlapping))) ≡ false
named_has_no_float name (Yes order) overlapping = refl
named_has_no_float name (No fault) overlapping = ap one (numbers (fault_numbers fault))

pub segment_has_no_float : (number calls : ℕ) → has_float (object (put (codes "segment") (number_data number) (right_members calls))) ≡ false
segment_has_no_float number calls = refl

pub end_has_no_float : (number : ℕ) (totals : Totals) (found : Option Fault) → has_float (object (end_members number totals found)) ≡ false
end_has_no_float number totals None = refl
end_has_no_float number totals (Some fault) = ap one (numbers (fault_numbers fault))
