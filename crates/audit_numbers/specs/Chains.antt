-- How far a chain has come that is fed in pieces, and what explains it.
use Rattle.std.specs.Prelude.{◌≡◌, ℕ, ◌++◌, List, Bool, is_some, Option, None, Some, IfSome}
use Rattle.nr_trace.specs.Recording.{Recording}
use Rattle.nr_trace.specs.FirstFault.{HasSegmentFault}
use Rattle.nr_trace.specs.declared.refusals.fault.Fault.{Fault}
use Rattle.nr_trace.specs.declared.refusals.fault.Format.TheVariants.{Truncated}
use Rattle.nr_trace.specs.Run.{Run}
use Rattle.nr_chain.specs.Bytes.{layout_before, GoesOnSo}
use Rattle.nr_chain.specs.Fed.{ChainFed, IsKeptOf}
use Rattle.nr_explain.specs.Progress.{ChainState, IsSeenOf}
use Rattle.nr_explain.specs.ChainExplanation.{GoesOnTo, IsExplanationOfChain}
use Rattle.nr_explain.specs.declared.chain.explanation.ChainExplanation.{ChainExplanation}
use Rattle.audit_numbers.specs.declared.telling.Telling.{Telling}
use Rattle.audit_numbers.specs.declared.telling.Telling.TheVariants.{Reading, Explained}
use Rattle.audit_numbers.specs.declared.judging.Judging.{Judging}
use Rattle.audit_numbers.specs.declared.judging.Judging.TheVariants.{Open, Over}

-- the bytes are those of right segments with these orders, and then those that the chain keeps, too few for one more. What is found behind those segments
-- is found of all bytes. And this is kept of what the segments come to
pub record HasJudged (bytes : List ℕ) (orders : List (List ℕ)) (chain : ChainFed) : Type 0 where
  pub run : Option Run
  pub goes_on : (rest : List ℕ) (more : List (List ℕ)) (found : Option Fault) → GoesOnSo run (chain.bytes ++ rest) more found
      → GoesOnSo None (bytes ++ rest) (orders ++ more) found
  pub kept : IsKeptOf run chain.kept
  pub short : HasSegmentFault (layout_before run) chain.bytes Truncated

-- what explains the bytes so far: a reader that has come to their right segments; or an explanation, whatever comes behind them
abbrev pub IsTelling : List ℕ → Telling → Type 0
IsTelling bytes (Reading reader) =
    (segments : List Recording) × (last : Option ChainState) × GoesOnTo None bytes segments last reader.bytes × IsSeenOf last reader.state
IsTelling bytes (Explained explanation) = (rest : List ℕ) → IsExplanationOfChain (bytes ++ rest) explanation

-- the same, if the chain is to be explained
abbrev pub IsTold : List ℕ → Bool → Option Telling → Type 0
IsTold bytes explain telling = (is_some telling ≡ explain) × IfSome telling (IsTelling bytes)

-- the bytes are explained, if that was asked for
abbrev pub IsExplained : List ℕ → Bool → Option ChainExplanation → Type 0
IsExplained bytes explain explanation = (is_some explanation ≡ explain) × IfSome explanation (IsExplanationOfChain bytes)

-- a chain was fed these bytes, with right segments in them that have these orders, and more may come
abbrev pub IsFed : List ℕ → List (List ℕ) → Bool → Option Judging → Type 0
IsFed bytes orders explain (Some (Open chain telling)) = HasJudged bytes orders chain × IsTold bytes explain telling
IsFed bytes orders explain _ = ⊥

-- a chain was fed these bytes, and has its verdict
abbrev pub IsOver : List ℕ → Bool → Option Judging → Type 0
IsOver bytes explain (Some (Over explanation)) = IsExplained bytes explain explanation
IsOver bytes explain _ = ⊥
