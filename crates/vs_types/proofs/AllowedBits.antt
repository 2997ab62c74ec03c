-- The bits of what entries allow together.
use Rattle.std.proofs.Common.{◌≡◌, ℕ, zero, suc, ◌+◌, ◌*◌, ◌/◌, ◌%◌, ◌^◌, ◌<◌, min, Bool, true, false, not, refl, sym, ap, ◌∙◌, arith}
use Rattle.std.specs.Prelude.{◌&&◌, ◌==◌}
use Rattle.std.specs.Int.{bit_at}
use Rattle.std.specs.Int.Bits.{bit_and, bit_xor}
use Rattle.std.proofs.lemmas.Nat.Bits.{bit_at-lt, bit_at_and, bit_at_xor}
use Rattle.vs_types.specs.Depth.{entry_bytes}
use Rattle.vs_types.specs.Entry.{has_reserved, is_leaf, meaning, rights_of}
use Rattle.vs_types.proofs.Placed.{said}
use Rattle.vs_types.specs.declared.entries.entry.Meaning.TheVariants as entry
use Rattle.vs_types.specs.declared.addresses.page.Rights.{Rights}
use Rattle.vs_types.specs.Page.{intersection}
use Rattle.vs_types.specs.Bits.{rights_at}

-- two bits that are both set
both_set : (x y : ℕ) → x < 2 → y < 2 → (min x y == 1) ≡ ((x == 1) && (y == 1))
both_set zero zero a b = refl
both_set zero (suc zero) a b = refl
both_set (suc zero) zero a b = refl
both_set (suc zero) (suc zero) a b = refl
both_set (suc (suc x)) y a b = absurd (omega (arith, a))
both_set x (suc (suc y)) a b = absurd (omega (arith, b))

flipped : (x : ℕ) → x < 2 → ((x + 1) % 2 == 1) ≡ not (x == 1)
flipped zero a = refl
flipped (suc zero) a = refl
flipped (suc (suc x)) a = absurd (omega (arith, a))

kept : (x : ℕ) → x < 2 → (x + 0) % 2 ≡ x
kept x a = omega (arith, a)

bit_of : (allowed word i : ℕ)
    → (bit_at (bit_and allowed (bit_xor word (2 ^ 63))) i == 1) ≡ ((bit_at allowed i == 1) && ((bit_at word i + bit_at (2 ^ 63) i) % 2 == 1))
bit_of allowed word i =
    ap (λ n. n == 1) (bit_at_and allowed (bit_xor word (2 ^ 63)) i)
    ∙ both_set (bit_at allowed i) (bit_at (bit_xor word (2 ^ 63)) i) (bit_at-lt allowed i) (bit_at-lt (bit_xor word (2 ^ 63)) i)
    ∙ ap (λ n. (bit_at allowed i == 1) && (n == 1)) (bit_at_xor word (2 ^ 63) i)

pub narrowed_rights : (allowed word : ℕ) → rights_at (bit_and allowed (bit_xor word (2 ^ 63))) ≡ intersection (rights_at allowed) (rights_of word)
narrowed_rights allowed word =
    let write = bit_of allowed word 1 ∙ ap (λ n. (bit_at allowed 1 == 1) && (n == 1)) (kept (bit_at word 1) (bit_at-lt word 1)) in
    let user = bit_of allowed word 2 ∙ ap (λ n. (bit_at allowed 2 == 1) && (n == 1)) (kept (bit_at word 2) (bit_at-lt word 2)) in
    let exec = bit_of allowed word 63 ∙ ap (λ b. (bit_at allowed 63 == 1) && b) (flipped (bit_at word 63) (bit_at-lt word 63)) in
    λ i. record { write = write i; user = user i; exec = exec i }

said_table : (p r l : Bool) (x : Rights) (a n next : ℕ) (own : Rights) → said p r l x a n ≡ entry.Table next own → own ≡ x
said_table true false false x a n next own e = let same : x ≡ own = cc in sym same
said_table _ _ _ x a n next own e = absurd (cc)

-- what the entry of a link allows is what its bits say
pub table_rights : (level word next : ℕ) (own : Rights) → meaning level word ≡ entry.Table next own → own ≡ rights_of word
table_rights level word next own says =
    said_table (bit_at word 0 == 1) (has_reserved level word) (is_leaf level word) (rights_of word) (word % 2 ^ 52 / entry_bytes level * entry_bytes level)
    (word % 2 ^ 52 / 2 ^ 12) next own says
