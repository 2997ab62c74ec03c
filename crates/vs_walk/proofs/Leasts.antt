-- The least number with a property: there is at most one, and where there is none, no number has it.
use Rattle.std.proofs.Common.{◌≡◌, ℕ, zero, suc, ◌<◌, ◌⊎◌, inl, inr, arith}
use Rattle.std.proofs.lemmas.Bool.{cases_order}
use Rattle.vs_walk.specs.Differences.{IsLeast}

pub one_least : (P : ℕ → Type 0) (m n : ℕ) → IsLeast P m → IsLeast P n → m ≡ n
one_least P m n h k = by_order (cases_order m n) where
  by_order : (m ≡ n) ⊎ ((m < n) ⊎ (n < m)) → m ≡ n
  by_order (inl e) = e
  by_order (inr (inl l)) = absurd (k.1 m l h.0)
  by_order (inr (inr l)) = absurd (h.1 n l k.0)

none_up_to : (P : ℕ → Type 0) → ((n : ℕ) → IsLeast P n → ⊥) → (n k : ℕ) → k < n → P k → ⊥
none_up_to P no_least zero k l p = omega arith
none_up_to P no_least (suc n) k l p = no_least k (p, λ j m q. none_up_to P no_least n j (omega arith) q)

pub none_from_no_least : (P : ℕ → Type 0) → ((n : ℕ) → IsLeast P n → ⊥) → (n : ℕ) → P n → ⊥
none_from_no_least P no_least n p = none_up_to P no_least (suc n) n (omega arith) p
