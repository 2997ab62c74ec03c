use Rattle.std.proofs.Common.{ℕ, List, subst}
use Rattle.vs_types.specs.Finds.{Finds}
use Rattle.vs_text.specs.Words.{SpellsAddress}
use Rattle.audit_readers.proofs.resolve.spelled_address.Goals as goal

pub returns : goal.returns
returns c = subst (λ (word : List ℕ). Finds (SpellsAddress word) c.parse_address.result) c.as_bytes.ensures.value c.parse_address.ensures
