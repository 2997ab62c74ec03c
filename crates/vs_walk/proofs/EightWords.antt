-- Eight words of which not all are 0.
use Rattle.std.proofs.Common.{◌≡◌, ◌≢◌, ℕ, ◌+◌, ◌<◌, ◌≤◌, Bool, true, false, ◌&&◌, List, inl, inr, ◌⊎◌, ⊎_elim, refl, subst, arith}
use Rattle.std.specs.Prelude.{nat_eq, slice_index}

either : (a b : Bool) → (a && b) ≡ false → (a ≡ false) ⊎ (b ≡ false)
either false b e = inl refl
either true b e = inr e

not_zero : (x : ℕ) → nat_eq x 0 ≡ false → x ≢ 0
not_zero x e same = let wrong : true ≡ false = subst (λ y. nat_eq y 0 ≡ false) same e in cc

-- one of the eight words from an index on is not 0
abbrev OneOther : List ℕ → ℕ → Type 0
OneOther words at = (i : ℕ) × (at ≤ i) × (i < at + 8) × (slice_index words i ≢ 0)

-- where not all of them are, one isn't
pub one_other : (words : List ℕ) (at : ℕ)
    → ((((((((nat_eq (slice_index words at) 0) && (nat_eq (slice_index words (at + 1)) 0)) && (nat_eq (slice_index words (at + 2)) 0)) &&
    (nat_eq (slice_index words (at + 3)) 0)) && (nat_eq (slice_index words (at + 4)) 0)) && (nat_eq (slice_index words (at + 5)) 0)) &&
    (nat_eq (slice_index words (at + 6)) 0)) && (nat_eq (slice_index words (at + 7)) 0)) ≡ false
    → OneOther words at
one_other words at e = other7 e where
  other0 : (nat_eq (slice_index words at) 0) ≡ false → OneOther words at
  other0 e = (at, omega arith, omega arith, not_zero _ e)

  other1 : ((nat_eq (slice_index words at) 0) && (nat_eq (slice_index words (at + 1)) 0)) ≡ false → OneOther words at
  other1 e = ⊎_elim other0 (λ here. (at + 1, omega arith, omega arith, not_zero _ here))
      (either (nat_eq (slice_index words at) 0) (nat_eq (slice_index words (at + 1)) 0) e)

  other2 : (((nat_eq (slice_index words at) 0) && (nat_eq (slice_index words (at + 1)) 0)) && (nat_eq (slice_index words (at + 2)) 0)) ≡ false
      → OneOther words at
  other2 e = ⊎_elim other1 (λ here. (at + 2, omega arith, omega arith, not_zero _ here))
      (either ((nat_eq (slice_index words at) 0) && (nat_eq (slice_index words (at + 1)) 0)) (nat_eq (slice_index words (at + 2)) 0) e)

  other3 : ((((nat_eq (slice_index words at) 0) && (nat_eq (slice_index words (at + 1)) 0)) && (nat_eq (slice_index words (at + 2)) 0)) &&
      (nat_eq (slice_index words (at + 3)) 0)) ≡ false → OneOther words at
  other3 e = ⊎_elim other2 (λ here. (at + 3, omega arith, omega arith, not_zero _ here))
      (either (((nat_eq (slice_index words at) 0) && (nat_eq (slice_index words (at + 1)) 0)) && (nat_eq (slice_index words (at + 2)) 0))
      (nat_eq (slice_index words (at + 3)) 0) e)

  other4 : (((((nat_eq (slice_index words at) 0) && (nat_eq (slice_index words (at + 1)) 0)) && (nat_eq (slice_index words (at + 2)) 0)) &&
      (nat_eq (slice_index words (at + 3)) 0)) && (nat_eq (slice_index words (at + 4)) 0)) ≡ false → OneOther words at
  other4 e = ⊎_elim other3 (λ here. (at + 4, omega arith, omega arith, not_zero _ here))
      (either ((((nat_eq (slice_index words at) 0) && (nat_eq (slice_index words (at + 1)) 0)) && (nat_eq (slice_index words (at + 2)) 0)) &&
      (nat_eq (slice_index words (at + 3)) 0)) (nat_eq (slice_index words (at + 4)) 0) e)

  other5 : ((((((nat_eq (slice_index words at) 0) && (nat_eq (slice_index words (at + 1)) 0)) && (nat_eq (slice_index words (at + 2)) 0)) &&
      (nat_eq (slice_index words (at + 3)) 0)) && (nat_eq (slice_index words (at + 4)) 0)) && (nat_eq (slice_index words (at + 5)) 0)) ≡ false
      → OneOther words at
  other5 e = ⊎_elim other4 (λ here. (at + 5, omega arith, omega arith, not_zero _ here))
      (either (((((nat_eq (slice_index words at) 0) && (nat_eq (slice_index words (at + 1)) 0)) && (nat_eq (slice_index words (at + 2)) 0)) &&
      (nat_eq (slice_index words (at + 3)) 0)) && (nat_eq (slice_index words (at + 4)) 0)) (nat_eq (slice_index words (at + 5)) 0) e)

  other6 : (((((((nat_eq (slice_index words at) 0) && (nat_eq (slice_index words (at + 1)) 0)) && (nat_eq (slice_index words (at + 2)) 0)) &&
      (nat_eq (slice_index words (at + 3)) 0)) && (nat_eq (slice_index words (at + 4)) 0)) && (nat_eq (slice_index words (at + 5)) 0)) &&
      (nat_eq (slice_index words (at + 6)) 0)) ≡ false → OneOther words at
  other6 e = ⊎_elim other5 (λ here. (at + 6, omega arith, omega arith, not_zero _ here))
      (either ((((((nat_eq (slice_index words at) 0) && (nat_eq (slice_index words (at + 1)) 0)) && (nat_eq (slice_index words (at + 2)) 0)) &&
      (nat_eq (slice_index words (at + 3)) 0)) && (nat_eq (slice_index words (at + 4)) 0)) && (nat_eq (slice_index words (at + 5)) 0))
      (nat_eq (slice_index words (at + 6)) 0) e)

  other7 : ((((((((nat_eq (slice_index words at) 0) && (nat_eq (slice_index words (at + 1)) 0)) && (nat_eq (slice_index words (at + 2)) 0)) &&
      (nat_eq (slice_index words (at + 3)) 0)) && (nat_eq (slice_index words (at + 4)) 0)) && (nat_eq (slice_index words (at + 5)) 0)) &&
      (nat_eq (slice_index words (at + 6)) 0)) && (nat_eq (slice_index words (at + 7)) 0)) ≡ false → OneOther words at
  other7 e = ⊎_elim other6 (λ here. (at + 7, omega arith, omega arith, not_zero _ here))
      (either (((((((nat_eq (slice_index words at) 0) && (nat_eq (slice_index words (at + 1)) 0)) && (nat_eq (slice_index words (at + 2)) 0)) &&
      (nat_eq (slice_index words (at + 3)) 0)) && (nat_eq (slice_index words (at + 4)) 0)) && (nat_eq (slice_index words (at + 5)) 0)) &&
      (nat_eq (slice_index words (at + 6)) 0)) (nat_eq (slice_index words (at + 7)) 0) e)
