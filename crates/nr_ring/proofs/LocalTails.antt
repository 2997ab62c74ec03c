-- Local tails: the greatest, one of them raised, and the first that lies too far behind.
use Rattle.std.proofs.Common.{◌≡◌, ◌≢◌, ℕ, zero, suc, ◌+◌, ◌-◌, ◌<◌, ◌≤◌, max, List, [], ◌∷◌, length, get_or, set, ◌⊎◌, inl, inr, ⊎_elim, sym, ◌∙◌, le_refl}
use Rattle.std.proofs.Common.{le_trans, arith}
use Rattle.std.proofs.Math.Nat.{le-max_left, le-max_right, max-le, eq-or-lt_of_le, le_antisymm}
use Rattle.std.proofs.lemmas.List.{get_or-set_same}
use Rattle.std.proofs.lemmas.Bool.Decides.{eqb_tells}
use Rattle.nr_ring.specs.LogHistory.{greatest}

pub below_greatest : (xs : List ℕ) (i : ℕ) → get_or xs i 0 ≤ greatest xs
below_greatest [] i = le_refl 0
below_greatest (x ∷ xs) zero = le-max_left x (greatest xs)
below_greatest (x ∷ xs) (suc i) = le_trans (below_greatest xs i) (le-max_right x (greatest xs))

pub greatest_least : (xs : List ℕ) (m : ℕ) → ((i : ℕ) → get_or xs i 0 ≤ m) → greatest xs ≤ m
greatest_least [] m below = omega arith
greatest_least (x ∷ xs) m below = max-le (below 0) (greatest_least xs m (λ i. below (suc i)))

max_is_one : (a b : ℕ) → (max a b ≡ a) ⊎ (max a b ≡ b)
max_is_one a b = ⊎_elim (λ e. inl (sym e)) (λ l. ⊎_elim (λ e. inr (sym e)) (λ r. neither l r) (eq-or-lt_of_le (le-max_right a b)))
    (eq-or-lt_of_le (le-max_left a b)) where
      neither : a < max a b → b < max a b → (max a b ≡ a) ⊎ (max a b ≡ b)
      neither l r =
          let first : a ≤ max a b - 1 = omega arith in
          let second : b ≤ max a b - 1 = omega arith in
          let both : max a b ≤ max a b - 1 = max-le first second in
          absurd (omega arith)

pub greatest_reached : (xs : List ℕ) → 0 < length xs → (i : ℕ) × (i < length xs) × (get_or xs i 0 ≡ greatest xs)
greatest_reached [] some = absurd (omega arith)
greatest_reached (x ∷ []) some =
    (0, omega arith, ⊎_elim (λ e. sym e) (λ e. let none : x ≤ 0 = le_trans (le-max_left x 0) (omega arith) in omega arith) (max_is_one x 0))
greatest_reached (x ∷ y ∷ ys) some =
    let later = greatest_reached (y ∷ ys) (omega arith) in
    ⊎_elim (λ e. (0, omega arith, sym e)) (λ e. (suc later.0, omega arith, later.2 ∙ sym e)) (max_is_one x (greatest (y ∷ ys)))

-- where one is raised, none falls
pub raised : (xs : List ℕ) (i v j : ℕ) → get_or xs i 0 ≤ v → get_or xs j 0 ≤ get_or (set xs i v) j 0
raised [] i v j le = le_refl 0
raised (x ∷ xs) zero v zero le = le
raised (x ∷ xs) zero v (suc j) le = le_refl _
raised (x ∷ xs) (suc i) v zero le = le_refl _
raised (x ∷ xs) (suc i) v (suc j) le = raised xs i v j le

-- where one is raised to at most a number, and none was above it, none is
pub still_below : (xs : List ℕ) (i v j m : ℕ) → v ≤ m → ((k : ℕ) → get_or xs k 0 ≤ m) → get_or (set xs i v) j 0 ≤ m
still_below [] i v j m le below = omega arith
still_below (x ∷ xs) zero v zero m le below = le
still_below (x ∷ xs) zero v (suc j) m le below = below (suc j)
still_below (x ∷ xs) (suc i) v zero m le below = below 0
still_below (x ∷ xs) (suc i) v (suc j) m le below = still_below xs i v j m le (λ k. below (suc k))

pub le_or_lt : (a b : ℕ) → (a ≤ b) ⊎ (b < a)
le_or_lt a b = ⊎_elim (λ t. let none : a - b ≡ 0 = t.1 in inl (omega arith)) (λ t. let some : a - b ≢ 0 = t.1 in inr (omega arith)) (eqb_tells (a - b) 0)

pub all_or_one : (end : ℕ) (xs : List ℕ) → ((i : ℕ) → i < length xs → end ≤ get_or xs i 0 + 16) ⊎ ((i : ℕ) × (i < length xs) × (get_or xs i 0 + 16 < end))
all_or_one end [] = inl (λ i lt. absurd (omega arith))
all_or_one end (x ∷ xs) = ⊎_elim (λ le. ⊎_elim (λ all. inl (within le all)) (λ one. inr (suc one.0, omega arith, one.2)) (all_or_one end xs))
    (λ lt. inr (0, omega arith, lt)) (le_or_lt end (x + 16)) where
      within : end ≤ x + 16 → ((i : ℕ) → i < length xs → end ≤ get_or xs i 0 + 16) → (i : ℕ) → i < length (x ∷ xs) → end ≤ get_or (x ∷ xs) i 0 + 16
      within le all zero lt = le
      within le all (suc i) lt = all i (omega arith)

-- where one is raised, the greatest is the greater of the greatest and that one
pub greatest_raised : (xs : List ℕ) (i v : ℕ) → i < length xs → get_or xs i 0 ≤ v → greatest (set xs i v) ≡ max (greatest xs) v
greatest_raised xs i v within le =
    let here = get_or-set_same xs i v 0 within in
    let high = below_greatest (set xs i v) i in
    let up : greatest xs ≤ greatest (set xs i v) =
    greatest_least xs (greatest (set xs i v)) (λ j. le_trans (raised xs i v j le) (below_greatest (set xs i v) j)) in
    let own : v ≤ greatest (set xs i v) = omega arith in
    le_antisymm
    (greatest_least (set xs i v) (max (greatest xs) v)
    (λ j. still_below xs i v j (max (greatest xs) v) (le-max_right (greatest xs) v) (λ k. le_trans (below_greatest xs k) (le-max_left (greatest xs) v))))
    (max-le up own)
