-- A test that is known, of something that holds or doesn't.
use Rattle.std.proofs.Common.{◌↔◌, true, false, IsTrue, refl}
use Rattle.std.proofs.lemmas.Bool.{false≢true}

pub yes : {P : Type 0} → P → IsTrue true ↔ P
yes it = (λ t. it, λ p. refl)

pub no : {P : Type 0} → (P → ⊥) → IsTrue false ↔ P
no none = (λ t. absurd (false≢true t), λ it. absurd (none it))
