-- The first bytes of a unit.
use Rattle.std.proofs.Common.{◌≡◌, ℕ, ◌≤◌, ◌<◌, List, length, take, take_all, sym, ap, ◌∙◌, arith, ⊎_elim}
use Rattle.std.proofs.lemmas.Bool.{cases_lt}
use Rattle.std.specs.Prelude.{min}

-- no more are taken than there are
pub take_least : (bytes : List ℕ) (n : ℕ) → take (min (length bytes) n) bytes ≡ take n bytes
take_least bytes n =
    ⊎_elim (λ (more : n < length bytes). let least : min (length bytes) n ≡ n = omega arith in ap (λ k. take k bytes) least)
    (λ (few : length bytes ≤ n). take_all _ bytes (omega arith) ∙ sym (take_all n bytes few))
    (cases_lt n (length bytes))
