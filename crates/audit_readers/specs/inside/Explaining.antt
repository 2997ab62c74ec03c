-- A chain that was read and explained. No public clause cites this file.
use Rattle.std.specs.Prelude.{ℕ, List, Option}
use Rattle.nr_explain.specs.ChainExplanation.{IsExplanationOfChain}
use Rattle.nr_explain.specs.declared.chain.explanation.ChainExplanation.{ChainExplanation}
use Rattle.audit_readers.specs.Answers.{IsReadOf}

-- so an input was explained
pub record HasExplained (known : Option (List ℕ)) (explanation : ChainExplanation) : Type 0 where
  pub input : List ℕ
  pub is_read : IsReadOf known input
  pub is_explanation : IsExplanationOfChain input explanation
