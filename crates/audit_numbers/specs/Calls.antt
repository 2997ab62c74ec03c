-- What the calls for a chain answer.
use Rattle.std.specs.Prelude.{◌≡◌, ℕ, ◌<◌, ◌≤◌, ◌++◌, List, [], ◌∷◌, length, take, Bool, is_some, if◌then◌else◌, Option, None, Some}
use Rattle.nr_trace.specs.declared.refusals.fault.Fault.{Fault}
use Rattle.nr_audit.specs.Verdict.{verdict_status}
use Rattle.nr_audit.specs.declared.verdicts.verdict.Verdict.{Verdict}
use Rattle.nr_audit.specs.declared.verdicts.verdict.Verdict.TheVariants.{Yes, No}
use Rattle.nr_chain.specs.Bytes.{GoesOnSo}
use Rattle.nr_chain.specs.Headline.{IsRightChain}
use Rattle.audit_texts.specs.ChainExplained.{IsChainExplained}
use Rattle.audit_numbers.specs.Numbers.{end_numbers, finding_of}
use Rattle.audit_numbers.specs.Told.{array_after, with_items}
use Rattle.audit_numbers.specs.Chains.{IsFed, IsOver}
use Rattle.audit_numbers.specs.declared.finding.Finding.{Finding}
use Rattle.audit_numbers.specs.declared.judging.Judging.{Judging}

-- the verdict on a segment that shows in so many bytes at the front of a piece. Yes: they end it, and all bytes so far are a right chain, with its
-- order as the last. No: with the piece, and whatever comes behind, the segment behind the right ones has this fault, its first
abbrev pub IsVerdictOfSegment : List ℕ → List (List ℕ) → Bool → List ℕ → ℕ → Verdict → Option Judging → Type 0
IsVerdictOfSegment bytes orders explain piece taken (Yes order) judging =
    (0 < taken) × (taken ≤ length piece) × IsRightChain (bytes ++ take taken piece) (orders ++ order ∷ [])
    × IsFed (bytes ++ take taken piece) (orders ++ order ∷ []) explain judging
IsVerdictOfSegment bytes orders explain piece taken (No fault) judging =
    (taken ≡ length piece) × ((rest : List ℕ) → GoesOnSo None ((bytes ++ piece) ++ rest) orders (Some fault)) × IsOver (bytes ++ piece) explain judging

-- the status, the numbers and the array are those of the verdict on a segment
pub record TellsSegment (bytes : List ℕ) (orders : List (List ℕ)) (explain : Bool) (piece : List ℕ) (status taken : ℕ) (finding : Finding) (old new : List ℕ)
    (judging : Option Judging) : Type 0 where
  pub verdict : Verdict
  pub of_segment : IsVerdictOfSegment bytes orders explain piece taken verdict judging
  pub status_is : status ≡ verdict_status verdict
  pub finding_is : finding ≡ finding_of verdict
  pub array_is : new ≡ array_after verdict old

-- the whole piece is taken, and no segment ends in it
abbrev pub TellsMore : List ℕ → List (List ℕ) → Bool → List ℕ → ℕ → Option Judging → Type 0
TellsMore bytes orders explain piece taken judging = (taken ≡ length piece) × IsFed (bytes ++ piece) orders explain judging

-- the status and the numbers are those of how the chain ends; if there is no fault, it is right
pub record TellsEnd (bytes : List ℕ) (orders : List (List ℕ)) (explain : Bool) (status : ℕ) (finding : Finding) (judging : Option Judging) : Type 0 where
  pub found : Option Fault
  pub goes_on : GoesOnSo None bytes orders found
  pub right : found ≡ None → IsRightChain bytes orders
  pub status_is : status ≡ (if is_some found then 1 else 0)
  pub finding_is : finding ≡ end_numbers found
  pub over : IsOver bytes explain judging

-- the text in the array, its length and the status are those of an explanation of the chain that the bytes are
pub record TellsText (as_json : Bool) (bytes : List ℕ) (status count : ℕ) (old new : List ℕ) : Type 0 where
  pub told : List ℕ
  pub is_explained : IsChainExplained as_json bytes told status
  pub count_is : count ≡ length told
  pub array_is : new ≡ with_items told old
