-- What a word means by its bits, and words that mean the same but for rights.
use Rattle.std.proofs.Common.{◌≡◌, ℕ, zero, suc, ◌+◌, ◌*◌, ◌/◌, ◌%◌, ◌^◌, ◌<◌, ◌≤◌, Bool, refl, sym, ap, ◌∙◌, arith}
use lib.Pow.{shr-shr}
use Rattle.std.specs.Prelude.{not, if◌then◌else◌, ◌==◌, ◌||◌, ◌&&◌, nat_le}
use Rattle.std.specs.Int.{bit_at}
use Rattle.vs_types.specs.Depth.{entry_bytes}
use Rattle.vs_types.specs.Entry.{meaning, is_leaf, has_reserved, rights_of}
use Rattle.vs_types.specs.declared.addresses.page.Rights.{Rights}
use Rattle.vs_types.specs.declared.entries.entry.Meaning.{Meaning}
use Rattle.vs_types.specs.declared.entries.entry.Meaning.TheVariants as entry

abbrev pub said : Bool → Bool → Bool → Rights → ℕ → ℕ → Meaning
said present reserved leaf rights address number =
    if not present then entry.Absent else if reserved then entry.Reserved else if leaf then entry.Leaf address rights else entry.Table number rights

pub said_same : (p p' r r' l l' : Bool) (x x' : Rights) (a a' n n' : ℕ) → p ≡ p' → r ≡ r' → l ≡ l' → x ≡ x' → a ≡ a' → n ≡ n'
    → said p r l x a n ≡ said p' r' l' x' a' n'
said_same p p' r r' l l' x x' a a' n n' same_p same_r same_l same_x same_a same_n = rw (same_p, same_r, same_l, same_x, same_a, same_n) refl

-- above the levels of pages a set bit 7 is reserved
reserved_deep : (level word : ℕ) → 3 < level → has_reserved level word ≡ (bit_at word 7 == 1)
reserved_deep level word deep = grind arith

pub rights_same : (w w' u u' x x' : ℕ) → w ≡ w' → u ≡ u' → x ≡ x'
    → ◌≡◌ {A = Rights} (record { write = w == 1; user = u == 1; exec = not (x == 1) }) (record { write = w' == 1; user = u' == 1; exec = not (x' == 1) })
rights_same w w' u u' x x' same_w same_u same_x = rw (same_w, same_u, same_x) refl

pub reserved_from : (offset offset' : ℕ) → offset ≡ offset' → (b b' : ℕ) → b ≡ b'
    → ◌≡◌ {A = Bool} (if b == 1 then not (offset == 0) else b == 1) (if b' == 1 then not (offset' == 0) else b' == 1)
reserved_from offset offset' same b b' alike = rw (same, alike) refl

-- words that have the same bit 0, and the same bits from 7 to 62
pub record IsAsPlaced (old new : ℕ) : Type 0 where
  pub present : new % 2 ≡ old % 2
  pub between : new % 2 ^ 63 / 128 ≡ old % 2 ^ 63 / 128

module _ {old new : ℕ} (is : IsAsPlaced old new) where
  pub bit_0 : bit_at new 0 ≡ bit_at old 0
  bit_0 = omega (arith, is.present)

  bit_7 : bit_at new 7 ≡ bit_at old 7
  bit_7 = omega (arith, is.between)

  same_number : new % 2 ^ 52 / 2 ^ 12 ≡ old % 2 ^ 52 / 2 ^ 12
  same_number = omega (arith, is.between)

  same_leaf : (level : ℕ) → is_leaf level new ≡ is_leaf level old
  same_leaf level = ap (λ b. (level == 1) || (nat_le level 3 && (b == 1))) bit_7

  same_address : (below : ℕ) → new % 2 ^ 52 / entry_bytes (suc below) * entry_bytes (suc below)
      ≡ old % 2 ^ 52 / entry_bytes (suc below) * entry_bytes (suc below)
  same_address below =
      let exponent : 3 + 9 * suc below ≡ 12 + 9 * below = omega arith in
      let by : new % 2 ^ 52 / 2 ^ (12 + 9 * below) ≡ old % 2 ^ 52 / 2 ^ (12 + 9 * below) =
      sym (shr-shr (new % 2 ^ 52) 12 (9 * below)) ∙ ap (λ n. n / 2 ^ (9 * below)) same_number ∙ shr-shr (old % 2 ^ 52) 12 (9 * below) in
      ap (λ e. new % 2 ^ 52 / 2 ^ e * 2 ^ e) exponent ∙ ap (λ n. n * 2 ^ (12 + 9 * below)) by ∙ ap (λ e. old % 2 ^ 52 / 2 ^ e * 2 ^ e) (sym exponent)

  same_reserved : (level : ℕ) → 1 ≤ level → has_reserved level new ≡ has_reserved level old
  same_reserved zero some = absurd (omega (arith, some))
  same_reserved (suc zero) some =
      let none : new % 2 ^ 12 / 2 ^ 13 ≡ old % 2 ^ 12 / 2 ^ 13 = omega arith in ap (λ n. not (n == 0)) none
  same_reserved (suc (suc zero)) some = reserved_from (new % 2 ^ 21 / 2 ^ 13) (old % 2 ^ 21 / 2 ^ 13) (omega (arith, is.between)) _ _ bit_7
  same_reserved (suc (suc (suc zero))) some = reserved_from (new % 2 ^ 30 / 2 ^ 13) (old % 2 ^ 30 / 2 ^ 13) (omega (arith, is.between)) _ _ bit_7
  same_reserved (suc (suc (suc (suc level)))) some =
      reserved_deep (suc (suc (suc (suc level)))) new (omega arith) ∙ ap (λ b. b == 1) bit_7
      ∙ sym (reserved_deep (suc (suc (suc (suc level)))) old (omega arith))

  -- the one means what the other means, with its own rights
  pub means_with : (below : ℕ) → meaning (suc below) new ≡ said (bit_at old 0 == 1) (has_reserved (suc below) old) (is_leaf (suc below) old) (rights_of new)
      (old % 2 ^ 52 / entry_bytes (suc below) * entry_bytes (suc below)) (old % 2 ^ 52 / 2 ^ 12)
  means_with below = said_same _ _ _ _ _ _ _ _ _ _ _ _ (ap (λ b. b == 1) bit_0) (same_reserved (suc below) (omega arith)) (same_leaf (suc below)) refl
      (same_address below) same_number
