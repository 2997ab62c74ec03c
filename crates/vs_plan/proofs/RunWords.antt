-- The words of pages that lead on from each other.
use Rattle.std.proofs.Common.{◌≡◌, ℕ, zero, suc, ◌+◌, ◌*◌, ◌/◌, ◌%◌, ◌^◌, ◌<◌, ◌≤◌, Bool, true, false, refl, ap, ◌∙◌, arith}
use Rattle.std.proofs.lemmas.Bool.{eqb-true, eq-eqb}
use Rattle.std.specs.Prelude.{not, ◌==◌, ◌||◌, ◌&&◌, nat_le}
use Rattle.std.specs.Int.{bit_at}
use Rattle.vs_types.specs.Depth.{entry_bytes}
use Rattle.vs_types.specs.Entry.{meaning, is_leaf, has_reserved, rights_of}
use Rattle.vs_types.specs.declared.addresses.page.Rights.{Rights}
use Rattle.vs_types.specs.declared.entries.entry.Meaning.TheVariants as entry
use Rattle.vs_walk.proofs.Walks.{leaf_level}
use Rattle.vs_types.proofs.Placed.{said, reserved_from, rights_same}

-- ---- what a leaf's word says, bit by bit

pub record IsLeafWord (level word phys : ℕ) (own : Rights) : Type 0 where
  pub present : bit_at word 0 ≡ 1
  pub plain : has_reserved level word ≡ false
  pub leaf : is_leaf level word ≡ true
  pub address : word % 2 ^ 52 / entry_bytes level * entry_bytes level ≡ phys
  pub rights : rights_of word ≡ own

said_parts : (p r l : Bool) (x : Rights) (a n phys : ℕ) (own : Rights) → said p r l x a n ≡ entry.Leaf phys own
    → (p ≡ true) × (r ≡ false) × (l ≡ true) × (a ≡ phys) × (x ≡ own)
said_parts true false true x a n phys own e = (refl, refl, refl, cc, cc)
said_parts _ _ _ x a n phys own e = absurd (cc)

said_back : (p r l : Bool) (x : Rights) (a n phys : ℕ) (own : Rights) → p ≡ true → r ≡ false → l ≡ true → a ≡ phys → x ≡ own
    → said p r l x a n ≡ entry.Leaf phys own
said_back p r l x a n phys own e1 e2 e3 e4 e5 = rw (e1, e2, e3, e4, e5) refl

pub leaf_parts : (level word phys : ℕ) (own : Rights) → meaning level word ≡ entry.Leaf phys own → IsLeafWord level word phys own
leaf_parts level word phys own says =
    let parts = said_parts (bit_at word 0 == 1) (has_reserved level word) (is_leaf level word) (rights_of word)
    (word % 2 ^ 52 / entry_bytes level * entry_bytes level) (word % 2 ^ 52 / 2 ^ 12) phys own says in
    record { present = eqb-true (bit_at word 0) 1 parts.0; plain = parts.1; leaf = parts.2; address = parts.3; rights = parts.4 }

pub leaf_of : (level word phys : ℕ) (own : Rights) → IsLeafWord level word phys own → meaning level word ≡ entry.Leaf phys own
leaf_of level word phys own is = said_back (bit_at word 0 == 1) (has_reserved level word) (is_leaf level word) (rights_of word)
    (word % 2 ^ 52 / entry_bytes level * entry_bytes level) (word % 2 ^ 52 / 2 ^ 12) phys own
    (eq-eqb (bit_at word 0) 1 is.present) is.plain is.leaf is.address is.rights

-- ---- an entry with another address

-- the words are alike but for the address
pub record HasNewAddress (level old new : ℕ) : Type 0 where
  pub bottom : new % 2 ^ 12 ≡ old % 2 ^ 12
  pub low : new % entry_bytes level ≡ old % entry_bytes level
  pub high : new / 2 ^ 52 ≡ old / 2 ^ 52

reserved_moved : (level old new : ℕ) → 1 ≤ level → level ≤ 3 → HasNewAddress level old new → has_reserved level new ≡ has_reserved level old
reserved_moved (suc zero) old new some few is = ap (λ n. not (n / 2 ^ 13 == 0)) is.low
reserved_moved (suc (suc zero)) old new some few is =
    reserved_from (new % 2 ^ 21 / 2 ^ 13) (old % 2 ^ 21 / 2 ^ 13) (ap (λ n. n / 2 ^ 13) is.low) (bit_at new 7) (bit_at old 7)
    (omega (arith, is.bottom))
reserved_moved (suc (suc (suc zero))) old new some few is =
    reserved_from (new % 2 ^ 30 / 2 ^ 13) (old % 2 ^ 30 / 2 ^ 13) (ap (λ n. n / 2 ^ 13) is.low) (bit_at new 7) (bit_at old 7)
    (omega (arith, is.bottom))
reserved_moved _ old new some few is = absurd (omega arith)

-- a leaf leads to the address that its word has then
pub leaf_moved : (level old new phys other : ℕ) (own : Rights) → 1 ≤ level → meaning level old ≡ entry.Leaf other own → HasNewAddress level old new
    → new % 2 ^ 52 / entry_bytes level * entry_bytes level ≡ phys → meaning level new ≡ entry.Leaf phys own
leaf_moved level old new phys other own some says is place =
    let parts = leaf_parts level old other own says in
    let seventh : bit_at new 7 ≡ bit_at old 7 = omega (arith, is.bottom) in
    leaf_of level new phys own (record {
      present = omega (arith, is.bottom, parts.present);
      plain = reserved_moved level old new some (leaf_level level old other own says).0 is ∙ parts.plain;
      leaf = ap (λ b. (level == 1) || (nat_le level 3 && (b == 1))) seventh ∙ parts.leaf;
      address = place;
      rights = rights_same (bit_at new 1) (bit_at old 1) (bit_at new 2) (bit_at old 2) (bit_at new 63) (bit_at old 63)
          (omega (arith, is.bottom)) (omega (arith, is.bottom)) (omega (arith, is.high)) ∙ parts.rights;
    })

-- ---- an address some entries further on

later_is : (level old k new : ℕ) → 1 ≤ level → level ≤ 3 → new ≡ old + k * entry_bytes level
    → old % 2 ^ 52 / entry_bytes level * entry_bytes level + k * entry_bytes level < 2 ^ 52 → HasNewAddress level old new
    × (new % 2 ^ 52 / entry_bytes level * entry_bytes level ≡ old % 2 ^ 52 / entry_bytes level * entry_bytes level + k * entry_bytes level)
later_is zero old k new some few is fits = absurd (omega arith)
later_is (suc zero) old k new some few is fits =
    let bottom : new % 2 ^ 12 ≡ old % 2 ^ 12 = omega arith in (record { bottom = bottom; low = bottom; high = omega arith }, omega arith)
later_is (suc (suc (suc (suc level)))) old k new some few is fits = absurd (omega arith)
later_is _ old k new some few is fits = (record { bottom = omega arith; low = omega arith; high = omega arith }, omega arith)

-- the page of the word with its address some entries further on
pub leaf_later : (level word phys : ℕ) (own : Rights) (k : ℕ) → 1 ≤ level → meaning level word ≡ entry.Leaf phys own
    → phys + k * entry_bytes level < 2 ^ 52 → meaning level (word + k * entry_bytes level) ≡ entry.Leaf (phys + k * entry_bytes level) own
leaf_later level word phys own k some says fits =
    let few = (leaf_level level word phys own says).0 in
    let parts = leaf_parts level word phys own says in
    let later = later_is level word k (word + k * entry_bytes level) some few refl (omega (arith, parts.address, fits)) in
    leaf_moved level word (word + k * entry_bytes level) (phys + k * entry_bytes level) phys own some says later.0
    (later.1 ∙ ap (λ n. n + k * entry_bytes level) parts.address)
