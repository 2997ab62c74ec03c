-- What is found of a trace before it is printed. No public clause cites this file.
use Rattle.std.specs.Prelude.{◌≡◌, ℕ, Bool, true, List}
use Rattle.nr_audit.specs.Headline.{AreRightWith}
use Rattle.nr_audit.specs.Verdict.{IfYes, IsVerdictOf}
use Rattle.audit_readers.specs.Answers.{HasOverlapping}
use Rattle.audit_readers.specs.declared.audit.Found.{Found}

-- the verdict on the bytes, and for a yes how many of their calls overlap, where they are counted
pub record IsFound (counts : Bool) (bytes : List ℕ) (found : Found) : Type 0 where
  pub is_verdict : IsVerdictOf bytes found.verdict
  pub right : IfYes (AreRightWith bytes) found.verdict
  pub counted : counts ≡ true → IfYes (λ order. HasOverlapping bytes found.overlapping) found.verdict
