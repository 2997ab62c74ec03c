-- The words of entries with their bits.
use Rattle.std.proofs.Common.{◌≡◌, ℕ, zero, suc, ◌+◌, ◌*◌, ◌/◌, ◌%◌, ◌^◌, ◌<◌, ◌≤◌, Bool, true, false, cond, refl, ap, ◌∙◌, arith}
use Rattle.std.specs.Prelude.{not, ◌==◌}
use Rattle.std.specs.Int.{bit_at}
use Rattle.vs_types.specs.Depth.{entry_bytes}
use Rattle.vs_types.specs.Page.{level_of, bytes_of}
use Rattle.vs_types.specs.Entry.{meaning, is_leaf, has_reserved, rights_of, leaf_word}
use Rattle.vs_types.specs.declared.addresses.page.Rights.{Rights}
use Rattle.vs_types.specs.declared.addresses.page.Size.{Size}
use Rattle.vs_types.specs.declared.addresses.page.Size.TheVariants.{K4}
use Rattle.vs_types.specs.declared.entries.entry.Meaning.TheVariants as entry
use Rattle.vs_types.proofs.Pages.{level_some}
use Rattle.vs_types.proofs.Placed.{means_with, said}
use Rattle.vs_types.specs.Bits.{AreBits, placed, with_rights}

-- ---- other rights

abbrev pub digit : Bool → ℕ
digit true = 1
digit false = 0

pub digit_low : (b : Bool) → digit b < 2
digit_low true = omega arith
digit_low false = omega arith

digit_is : (b : Bool) → (digit b == 1) ≡ b
digit_is true = refl
digit_is false = refl

pub times : (b : Bool) (n : ℕ) → cond b n 0 ≡ digit b * n
times true n = omega arith
times false n = omega arith

pub times_not : (b : Bool) (n : ℕ) → cond b 0 n ≡ digit (not b) * n
times_not true n = omega arith
times_not false n = omega arith

not_not : (b : Bool) → not (not b) ≡ b
not_not true = refl
not_not false = refl

-- a word by its parts
abbrev pub in_parts : ℕ → ℕ → ℕ → ℕ → ℕ
in_parts old w u x = old % 2 + w * 2 + u * 4 + old % 2 ^ 63 / 2 ^ 3 * 2 ^ 3 + x * 2 ^ 63

pub in_digits : (word : ℕ) (rights : Rights)
    → with_rights word rights ≡ in_parts word (digit rights.write) (digit rights.user) (digit (not rights.exec))
in_digits word rights = omega (arith, times rights.write (2 ^ 1), times rights.user (2 ^ 2), times_not rights.exec (2 ^ 63))

record HasParts (old new w u x : ℕ) : Type 0 where
  zeroth : new % 2 ≡ old % 2
  first : bit_at new 1 ≡ w
  second : bit_at new 2 ≡ u
  last : bit_at new 63 ≡ x
  between : new % 2 ^ 63 / 8 ≡ old % 2 ^ 63 / 8

parts_of : (old w u x new : ℕ) → w < 2 → u < 2 → x < 2 → new ≡ in_parts old w u x → HasParts old new w u x
parts_of old w u x new a b c is = record {
  zeroth = omega (arith, is);
  first = omega (arith, is, a);
  second = omega (arith, is, a, b);
  last = omega (arith, is, a, b, c);
  between = omega (arith, is, a, b, c);
}

-- a leaf with other rights
said_leaf : (p r l : Bool) (x y : Rights) (a n phys : ℕ) (own : Rights) → said p r l x a n ≡ entry.Leaf phys own → said p r l y a n ≡ entry.Leaf phys y
said_leaf true false true x y a n phys own e = let same : a ≡ phys = cc in ap (λ z. entry.Leaf z y) same
said_leaf _ _ _ x y a n phys own e = absurd (cc)

module _ {old new w u x : ℕ} (is : HasParts old new w u x) where
  reads_as : (rights : Rights) → rights_of new ≡ rights → (level phys : ℕ) (own : Rights) → 1 ≤ level → meaning level old ≡ entry.Leaf phys own
      → meaning level new ≡ entry.Leaf phys rights
  reads_as rights rights_are zero phys own some says = absurd (omega (arith, some))
  reads_as rights rights_are (suc below) phys own some says =
      means_with (record { present = is.zeroth; between = omega (arith, is.between) }) below
      ∙ ap (λ r. said (bit_at old 0 == 1) (has_reserved (suc below) old) (is_leaf (suc below) old) r
      (old % 2 ^ 52 / entry_bytes (suc below) * entry_bytes (suc below)) (old % 2 ^ 52 / 2 ^ 12)) rights_are
      ∙ said_leaf (bit_at old 0 == 1) (has_reserved (suc below) old) (is_leaf (suc below) old) (rights_of old) rights
      (old % 2 ^ 52 / entry_bytes (suc below) * entry_bytes (suc below)) (old % 2 ^ 52 / 2 ^ 12) phys own says

rights_from : (w u x : ℕ) (rights : Rights) → (w == 1) ≡ rights.write → (u == 1) ≡ rights.user → not (x == 1) ≡ rights.exec
    → ◌≡◌ {A = Rights} (record { write = w == 1; user = u == 1; exec = not (x == 1) }) rights
rights_from w u x rights a b c = rw (a, b, c) refl

pub with_rights_reads : (level word : ℕ) (rights : Rights) (phys : ℕ) (own : Rights) → 1 ≤ level → meaning level word ≡ entry.Leaf phys own
    → meaning level (with_rights word rights) ≡ entry.Leaf phys rights
with_rights_reads level word rights phys own some says =
    let parts = parts_of word _ _ _ (with_rights word rights) (digit_low rights.write) (digit_low rights.user) (digit_low (not rights.exec))
    (in_digits word rights) in
    reads_as parts rights
    (rights_from _ _ _ rights (ap (λ n. n == 1) parts.first ∙ digit_is rights.write) (ap (λ n. n == 1) parts.second ∙ digit_is rights.user)
    (ap (λ n. not (n == 1)) parts.last ∙ ap not (digit_is (not rights.exec)) ∙ not_not rights.exec)) level phys own some says

-- ---- a page's word reads back as the page, whatever its bits are

abbrev none : Rights
none = record { write = false; user = false; exec = true }

-- the word of a page that may be executed and no more
plain_reads : (size : Size) (phys bits : ℕ) → phys % bytes_of size ≡ 0 → phys < 2 ^ 52 → bits % 2 ^ 3 ≡ 0 → bits % 2 ^ 52 < 2 ^ 12 → bits < 2 ^ 63
    → meaning (level_of size) (leaf_word size phys none + placed size bits) ≡ entry.Leaf phys none
plain_reads K4 phys bits aligned few above low high = grind arith
plain_reads _ phys bits aligned few above low high = grind arith

-- and with rights
rights_written : (size : Size) (phys bits : ℕ) (rights : Rights) → phys % bytes_of size ≡ 0 → phys < 2 ^ 52 → AreBits bits
    → leaf_word size phys rights + placed size bits ≡ with_rights (leaf_word size phys none + placed size bits) rights
rights_written K4 phys bits rights aligned few are = omega (arith, aligned, few, are.above, are.low, are.high)
rights_written _ phys bits rights aligned few are = omega (arith, aligned, few, are.above, are.low, are.high)

pub page_reads : (size : Size) (phys bits : ℕ) (rights : Rights) → phys % bytes_of size ≡ 0 → phys < 2 ^ 52 → AreBits bits
    → meaning (level_of size) (leaf_word size phys rights + placed size bits) ≡ entry.Leaf phys rights
page_reads size phys bits rights aligned few are =
    ap (meaning (level_of size)) (rights_written size phys bits rights aligned few are)
    ∙ with_rights_reads (level_of size) (leaf_word size phys none + placed size bits) rights phys none (level_some size)
    (plain_reads size phys bits aligned few are.above are.low are.high)

-- ---- an entry is a word of 64 bits

pub cond_most : (b : Bool) (n : ℕ) → cond b n 0 ≤ n
cond_most true n = omega arith
cond_most false n = omega arith

cond_not_most : (b : Bool) (n : ℕ) → cond b 0 n ≤ n
cond_not_most true n = omega arith
cond_not_most false n = omega arith

pub word_room : (size : Size) (phys bits : ℕ) (rights : Rights) → phys % bytes_of size ≡ 0 → phys < 2 ^ 52 → AreBits bits
    → {word more : ℕ} → word ≡ leaf_word size phys rights → more ≡ placed size bits → word + more < 2 ^ 64
word_room K4 phys bits rights aligned few are word_is more_is =
    omega (
      arith,
      cond_most rights.write (2 ^ 1),
      cond_most rights.user (2 ^ 2),
      cond_not_most rights.exec (2 ^ 63),
      aligned,
      few,
      are.low,
      are.high,
      word_is,
      more_is,
    )
word_room _ phys bits rights aligned few are word_is more_is =
    omega (
      arith,
      cond_most rights.write (2 ^ 1),
      cond_most rights.user (2 ^ 2),
      cond_not_most rights.exec (2 ^ 63),
      aligned,
      few,
      are.low,
      are.high,
      word_is,
      more_is,
    )
