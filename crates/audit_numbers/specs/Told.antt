-- What a call answers of bytes.
use Rattle.std.specs.Prelude.{◌≡◌, ◌++◌, ℕ, nat_le, List, length, drop, if◌then◌else◌}
use Rattle.nr_audit.specs.Headline.{AreRightWith}
use Rattle.nr_audit.specs.Verdict.{IfYes, IsVerdictOf, verdict_status}
use Rattle.nr_audit.specs.declared.verdicts.verdict.Verdict.{Verdict}
use Rattle.nr_audit.specs.declared.verdicts.verdict.Verdict.TheVariants.{Yes, No}
use Rattle.audit_numbers.specs.Numbers.{finding_of}
use Rattle.audit_numbers.specs.declared.finding.Finding.{Finding}

-- the array with the items at its begin, where it has room for all of them; else as it was
abbrev pub with_items : List ℕ → List ℕ → List ℕ
with_items items array = if nat_le (length items) (length array) then items ++ drop (length items) array else array

-- the array after a verdict
abbrev pub array_after : Verdict → List ℕ → List ℕ
array_after (Yes order) array = with_items order array
array_after (No fault) array = array

-- the status, the numbers and the array are those of the verdict of these bytes; where it is yes they are right with its order
pub record IsAudited (bytes old : List ℕ) (status : ℕ) (finding : Finding) (new : List ℕ) : Type 0 where
  pub verdict : Verdict
  pub is_verdict : IsVerdictOf bytes verdict
  pub right : IfYes (AreRightWith bytes) verdict
  pub status_is : status ≡ verdict_status verdict
  pub finding_is : finding ≡ finding_of verdict
  pub array_is : new ≡ array_after verdict old
