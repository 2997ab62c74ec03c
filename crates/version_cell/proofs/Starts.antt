-- The words of a new table.
use Rattle.std.proofs.Common.{◌≡◌, ◌∙◌, ℕ, ◌+◌, List, length, get_or, set, drop, replicate, ap, arith, length-set}
use Rattle.std.proofs.Common.{get_or-set_same}
use Rattle.std.proofs.lemmas.List.{drop-replicate, drop-set-lt, length-replicate}

-- so many zeros after the first ones, among which lies the code
pub record AreNew (code n : ℕ) (words : List ℕ) : Type 0 where
  pub long : length words ≡ 32 + n
  pub coded : get_or words 16 0 ≡ code
  pub own : drop 32 words ≡ replicate n 0

pub new_words : (code n : ℕ) (zeros : List ℕ) → zeros ≡ replicate (32 + n) 0 → AreNew code n (set zeros 16 code)
new_words code n zeros is =
    let long : length zeros ≡ 32 + n = ap (λ (l : List ℕ). length l) is ∙ length-replicate (32 + n) 0 in record {
      long = length-set zeros 16 code ∙ long;
      coded = get_or-set_same zeros 16 code 0 (omega (arith, long));
      own = drop-set-lt 32 zeros 16 code (omega arith) ∙ (ap (drop 32) is ∙ (drop-replicate 32 (32 + n) 0 ∙ ap (λ (m : ℕ). replicate m 0) (omega arith)));
    }
