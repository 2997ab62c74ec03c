-- Cases of functions that were given another value somewhere, and arithmetic on places, rings and packed words.
use Rattle.std.proofs.Common.{◌≡◌, ℕ, ◌+◌, ◌-◌, ◌*◌, ◌/◌, ◌%◌, ◌<◌, ◌≤◌, ◌==◌, nat_lt, Bool, true, false, cond, refl, ap, sym, subst, ◌∙◌, arith}
use Rattle.std.proofs.lemmas.Bool.Decides.{nat_tests}
use Rattle.nr_machine.specs.Words.{packed, with_at, with_word}

pub at_cases : {A : Type 0} (P : A → Type 0) (f : ℕ → A) (n : ℕ) (x : A) (m : ℕ) → (m ≡ n → P x) → ((m ≡ n → ⊥) → P (f m))
    → P (with_at f n x m)
at_cases {A} P f n x m here other = by_test (m == n) refl where
  by_test : (b : Bool) → (m == n) ≡ b → P (cond b x (f m))
  by_test true e = here (grind (arith, nat_tests, e))
  by_test false e = other (λ same. grind (arith, nat_tests, e, same))

-- two functions that were given another value at one number
pub both_cases : {A B : Type 0} (P : ℕ → A → B → Type 0) (f : ℕ → A) (g : ℕ → B) (n : ℕ) (x : A) (y : B) (m : ℕ) → P n x y
    → ((m ≡ n → ⊥) → P m (f m) (g m))
    → P m (with_at f n x m) (with_at g n y m)
both_cases {A} {B} P f g n x y m here other =
    at_cases (λ (a : A). P m a (with_at g n y m)) f n x m
    (λ e. at_cases (λ (b : B). P m x b) g n y m (λ same. subst (λ (k : ℕ). P k x y) (sym e) here) (λ apart. absurd (apart e)))
    (λ apart. at_cases (λ (b : B). P m (f m) b) g n y m (λ same. absurd (apart same)) (λ still. other apart))

pub word_cases : (P : ℕ → Type 0) (f : ℕ → ℕ → ℕ) (r i v s j : ℕ) → (s ≡ r → j ≡ i → P v) → ((s ≡ r → j ≡ i → ⊥) → P (f s j))
    → P (with_word f r i v s j)
word_cases P f r i v s j here other = by_test (s == r) refl (j == i) refl where
  by_test : (b : Bool) → (s == r) ≡ b → (c : Bool) → (j == i) ≡ c → P (cond b (cond c v (f s j)) (f s j))
  by_test true e true g = here (grind (arith, nat_tests, e)) (grind (arith, nat_tests, g))
  by_test true e false g = other (λ one same. grind (arith, nat_tests, g, same))
  by_test false e c g = other (λ same one. grind (arith, nat_tests, e, same))

pub at_it : {A : Type 0} (f : ℕ → A) (n : ℕ) (x : A) → with_at f n x n ≡ x
at_it {A} f n x = at_cases (λ y. y ≡ x) f n x n (λ e. refl) (λ apart. absurd (apart refl))

pub elsewhere : {A : Type 0} (f : ℕ → A) (n : ℕ) (x : A) (m : ℕ) → (m ≡ n → ⊥) → with_at f n x m ≡ f m
elsewhere {A} f n x m never = at_cases (λ y. y ≡ f m) f n x m (λ e. absurd (never e)) (λ apart. refl)

-- a value below a tail, or past it
pub below_cases : {A : Type 0} (P : A → Type 0) (p tail : ℕ) (x y : A) → (p < tail → P x) → (tail ≤ p → P y) → P (cond (nat_lt p tail) x y)
below_cases {A} P p tail x y before past = by_test (nat_lt p tail) refl where
  by_test : (b : Bool) → nat_lt p tail ≡ b → P (cond b x y)
  by_test true e = before (grind (arith, nat_tests, e))
  by_test false e = past (grind (arith, nat_tests, e))

-- the two numbers of a packed word
pub high : (a b : ℕ) → b < 128 → packed a b / 128 ≡ a
high a b lt = omega (arith, lt)

pub low : (a b : ℕ) → b < 128 → packed a b % 128 ≡ b
low a b lt = omega (arith, lt)

pub same_high : (a b c d : ℕ) → b < 128 → d < 128 → packed a b ≡ packed c d → a ≡ c
same_high a b c d one two e = omega (arith, one, two, e)

pub same_low : (a b c d : ℕ) → b < 128 → d < 128 → packed a b ≡ packed c d → b ≡ d
same_low a b c d one two e = omega (arith, one, two, e)

-- a place of one's own ring that is written ahead is that of no entry which somebody needs: those lie behind what was seen
pub clash : (p seen i count local : ℕ) → p % 16 ≡ (seen + i) % 16 → seen + count ≤ local + 16 → local ≤ p → i < count → (seen ≤ p → ⊥) → ⊥
clash p seen i count local e room from lt never = by_test (nat_lt p seen) refl where
  round : p < seen → ⊥
  round below = let x = p % 16 in let y = (seen + i) % 16 in omega (arith, e, room, from, lt, below)

  by_test : (b : Bool) → nat_lt p seen ≡ b → ⊥
  by_test true t = round (grind (arith, nat_tests, t))
  by_test false t = never (grind (arith, nat_tests, t))

pub near : (s i j : ℕ) → (s + i) % 16 ≡ (s + j) % 16 → i ≤ j → j < 16 → j ≡ i
near s i j e le lt = let x = (s + i) % 16 in let y = (s + j) % 16 in omega (arith, e, le, lt)

pub not_last : (i k : ℕ) → i < k + 1 → (i ≡ k → ⊥) → i < k
not_last i k lt never = by_test (nat_lt i k) refl where
  by_test : (b : Bool) → nat_lt i k ≡ b → i < k
  by_test true t = grind (arith, nat_tests, t)
  by_test false t = absurd (never (grind (arith, nat_tests, t, lt)))
