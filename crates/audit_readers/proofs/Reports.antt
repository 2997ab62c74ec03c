-- What is known of a report that was written.
use Rattle.std.proofs.Common.{◌≡◌, ℕ, List, Option, Result, Ok, Err, IfOk, subst, sym}
use Rattle.std.specs.Io.KnownBytes.{Appends}
use Rattle.audit_readers.specs.Answers.{IsReadOf, WritesReport}

-- what a write answers
pub writes_report : {E : Type 0} (IsReport : List ℕ → List ℕ → ℕ → Type 0) (known old new : Option (List ℕ)) (result : Result ℕ E)
    (input text : List ℕ) (status : ℕ) → IsReadOf known input → IsReport input text status
    → IfOk result (λ exit. (exit ≡ status) × Appends old new text) → IfOk result (WritesReport IsReport known old new)
writes_report IsReport known old new (Ok exit) input text status is_read is_report (is_status, appends) = record {
  input = input;
  is_read = is_read;
  text = text;
  is_report = subst (IsReport input text) (sym is_status) is_report;
  written = appends;
}
writes_report IsReport known old new (Err fault) input text status is_read is_report failed = tt
