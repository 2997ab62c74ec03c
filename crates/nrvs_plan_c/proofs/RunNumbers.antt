-- What a word becomes by the numbers of a run.
use Rattle.std.proofs.Common.{◌≡◌, ℕ, ◌+◌, ◌-◌, ◌*◌, ◌/◌, ◌%◌, ◌^◌, ◌<◌, sym, ap, ◌∙◌, arith}
use Rattle.std.specs.Prelude.{cond}
use Rattle.std.specs.Int.Bits.{bit_and, and_zero_r}
use Rattle.std.proofs.lemmas.Nat.{and_block, and_mask}
use Rattle.vs_types.specs.declared.addresses.page.Rights.{Rights}
use Rattle.vs_types.specs.Bits.{rights_bits, unflagged, with_rights}

-- two parts of a word, and of a mask
parted : (k word high low : ℕ) → low < 2 ^ k → word / 2 ^ k * 2 ^ k + word % 2 ^ k ≡ word → word % 2 ^ k < 2 ^ k
    → bit_and word (high * 2 ^ k + low) ≡ bit_and (word / 2 ^ k) high * 2 ^ k + bit_and (word % 2 ^ k) low
parted k word high low few whole rest =
    ap (λ w. bit_and w (high * 2 ^ k + low)) (sym whole) ∙ and_block k (word / 2 ^ k) high (word % 2 ^ k) low rest few

and_rights : (word : ℕ) → bit_and word 9223372036854775801 ≡ word / 8 % 2 ^ 60 * 8 + word % 8 % 2
and_rights word =
    parted 3 word (2 ^ 60 - 1) 1 (omega arith) (omega arith) (omega arith)
    ∙ ap (λ a. a * 8 + bit_and (word % 8) 1) (and_mask (word / 8) 60)
    ∙ ap (λ b. word / 8 % 2 ^ 60 * 8 + b) (and_mask (word % 8) 1)

and_flags : (word : ℕ) → bit_and word 18446744073709551519 ≡ word / 128 % 2 ^ 57 * 128 + word % 128 % 32
and_flags word =
    parted 7 word (2 ^ 57 - 1) 31 (omega arith) (omega arith) (omega arith)
    ∙ ap (λ a. a * 128 + bit_and (word % 128) 31) (and_mask (word / 128) 57)
    ∙ ap (λ b. word / 128 % 2 ^ 57 * 128 + b) (and_mask (word % 128) 5)

pub cleared_by : (word first number step : ℕ) → bit_and word 0 + first + number * step ≡ first + number * step
cleared_by word first number step = ap (λ a. a + first + number * step) (and_zero_r word) ∙ omega arith

pub allowed_by : (word bits number : ℕ) (rights : Rights) → bits ≡ rights_bits rights
    → bit_and word 9223372036854775801 + bits + number * 0 ≡ with_rights word rights
allowed_by word bits number rights are =
    ap (λ a. a + bits + number * 0) (and_rights word)
    ∙ ap (λ b. word / 8 % 2 ^ 60 * 8 + word % 8 % 2 + b + number * 0) are
    ∙ sums (cond rights.write 2 0) (cond rights.user 4 0) (cond rights.exec 0 (2 ^ 63)) where
      sums : (w u x : ℕ) → word / 8 % 2 ^ 60 * 8 + word % 8 % 2 + (w + u + x) + number * 0
          ≡ word % 2 + w + u + word % 2 ^ 63 / 2 ^ 3 * 2 ^ 3 + x
      sums w u x = omega arith

pub unflagged_by : (word number : ℕ) → word < 2 ^ 64 → bit_and word 18446744073709551519 + 0 + number * 0 ≡ unflagged word
unflagged_by word number low = ap (λ a. a + 0 + number * 0) (and_flags word) ∙ omega (arith, low)
