-- What `order` answers to bytes.
use Rattle.std.specs.Prelude.{◌≡◌, ◌++◌, ℕ, Bool, true, false, List, codes}
use Rattle.nr_trace.specs.Spelling.{spelling}
use Rattle.nr_order.specs.Finding.{IsFindingOf}
use Rattle.nr_order.specs.declared.finding.Finding.{Finding}
use Rattle.nr_order.specs.declared.finding.Finding.TheVariants.{Right, Wrong, NoVerdict}
use Rattle.nr_order.specs.declared.judging.Ordered.{Ordered}
use Rattle.audit_texts.specs.Text.{line_end, no_text, yes_text}

-- what is written of a right trace: the lines of `audit`, with the order that was found; with --trace, the bytes of the trace with that log
abbrev pub told_right : Bool → Ordered → List ℕ
told_right false ordered = yes_text ordered.order
told_right true ordered = spelling ordered.trace

-- what is written of a finding
abbrev pub told_finding : Bool → Finding → List ℕ
told_finding as_trace (Right ordered) = told_right as_trace ordered
told_finding as_trace (Wrong fault) = no_text fault
told_finding as_trace NoVerdict = codes "no verdict" ++ line_end

-- 0 where an order was found, 1 where there is a fault, and 2 where there is no verdict
abbrev pub finding_status : Finding → ℕ
finding_status (Right ordered) = 0
finding_status (Wrong fault) = 1
finding_status NoVerdict = 2

-- the answer of `order`: the text and the status are those of what is found of these bytes
pub record IsOrderAnswer (as_trace : Bool) (bytes text : List ℕ) (status : ℕ) : Type 0 where
  pub finding : Finding
  pub is_finding : IsFindingOf bytes finding
  pub text_is : text ≡ told_finding as_trace finding
  pub status_is : status ≡ finding_status finding
