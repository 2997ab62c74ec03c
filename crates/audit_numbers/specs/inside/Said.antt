-- What is said of a piece of an open chain, and of its end.
use Rattle.std.specs.Prelude.{ℕ, ◌++◌, List, Bool, None, Some}
use Rattle.nr_chain.specs.Bytes.{GoesOnSo}
use Rattle.audit_numbers.specs.Calls.{IsVerdictOfSegment}
use Rattle.audit_numbers.specs.Chains.{IsExplained, IsFed}
use Rattle.audit_numbers.specs.declared.judging.Ended.{Ended}
use Rattle.audit_numbers.specs.declared.judging.Said.{Said}
use Rattle.audit_numbers.specs.declared.judging.Said.TheVariants as said

-- how the chain ends, and what explains it
abbrev pub HasEnded : List ℕ → List (List ℕ) → Bool → Ended → Type 0
HasEnded bytes orders explain ended = GoesOnSo None bytes orders ended.found × IsExplained bytes explain ended.explanation

-- what is said of a piece
abbrev pub IsSaid : List ℕ → List (List ℕ) → Bool → List ℕ → Said → Type 0
IsSaid bytes orders explain piece (said.More judging) = IsFed (bytes ++ piece) orders explain (Some judging)
IsSaid bytes orders explain piece (said.Verdict taken verdict judging) = IsVerdictOfSegment bytes orders explain piece taken verdict (Some judging)
