-- What the words of extended page tables are, by their bits.
use Rattle.std.proofs.Common.{◌≡◌, ℕ, zero, suc, ◌+◌, ◌*◌, ◌/◌, ◌%◌, ◌^◌, ◌<◌, ◌≤◌, Bool, true, false, cond, IsTrue, refl, sym, ap, ◌∙◌, arith}
use lib.Pow.{shr-shr}
use Rattle.std.specs.Prelude.{nat_le, not, if◌then◌else◌, ◌==◌, ◌||◌, ◌&&◌}
use Rattle.std.specs.Int.{bit_at}
use Rattle.std.proofs.lemmas.Nat.{mod-pow-add}
use Rattle.vs_types.specs.Depth.{entry_bytes}
use Rattle.vs_types.specs.Format.{HasFlagsAt, IsFormat}
use Rattle.vs_types.specs.Page.{bytes_of, level_of}
use Rattle.vs_types.specs.declared.addresses.page.Size.{Size}
use Rattle.vs_types.specs.declared.addresses.page.Size.TheVariants.{K4, M2, G1}
use Rattle.vs_types.specs.declared.entries.kind.EntryKind.{EntryKind}
use Rattle.vs_types.specs.declared.entries.kind.EntryKind.TheVariants.{Absent, Reserved, Table, Leaf}
use Rattle.vs_types.proofs.BitWords.{digit, digit_low, times}
use Rattle.ept_tests.specs.Ept.{all_rights, can_say, format, is_leaf, kind, leaf_word, table_word}
use Rattle.ept_tests.specs.declared.guest.Ept.{Ept}
use Rattle.ept_tests.specs.declared.guest.EptRights.{EptRights}

-- what an entry is by its bits 0, 1, 2 and 10, by what of its address is too high, and by what is reserved in a leaf and in another
abbrev pub said : Bool → Bool → ℕ → ℕ → ℕ → ℕ → ℕ → ℕ → ℕ → ℕ → ℕ → EntryKind EptRights
said by_mode leaf b0 b1 b2 b10 high offset type address number =
    if not ((b0 == 1) || (b1 == 1) || (b2 == 1) || (by_mode && (b10 == 1))) then Absent
    else if (not (b0 == 1) && (b1 == 1)) || not (high == 0) || (if leaf then not (offset == 0) else not (type == 0)) then Reserved
    else if leaf then Leaf address (record { read = b0 == 1; write = b1 == 1; execute = b2 == 1; user_execute = if by_mode then b10 == 1 else b2 == 1 })
    else Table number (record { read = b0 == 1; write = b1 == 1; execute = b2 == 1; user_execute = if by_mode then b10 == 1 else b2 == 1 })

pub kind_is : (ept : Ept) (level word : ℕ) → kind ept level word
    ≡ said ept.by_mode (is_leaf level word) (bit_at word 0) (bit_at word 1) (bit_at word 2) (bit_at word 10) (word % 2 ^ 52 / 2 ^ 46)
    (word % entry_bytes level / 2 ^ 12) (word % 2 ^ 8 / 2 ^ 3) (word % 2 ^ 52 / entry_bytes level * entry_bytes level) (word % 2 ^ 52 / 2 ^ 12)
kind_is ept level word = refl

same_said : (m : Bool) (l l' : Bool) (a a' b b' c c' d d' h h' o o' t t' p p' n n' : ℕ) → l ≡ l' → a ≡ a' → b ≡ b' → c ≡ c' → d ≡ d' → h ≡ h' → o ≡ o'
    → t ≡ t' → p ≡ p' → n ≡ n' → said m l a b c d h o t p n ≡ said m l' a' b' c' d' h' o' t' p' n'
same_said m l l' a a' b b' c c' d d' h h' o o' t t' p p' n n' le ae be ce de he oe te pe ne = rw (le, ae, be, ce, de, he, oe, te, pe, ne) refl

-- ---- flags keep the meaning

-- what is below an entry's address in its page, and its address, by the bits from 12 on
pub offset_from : (below : ℕ) (word : ℕ) → word % entry_bytes (suc below) / 2 ^ 12 ≡ word / 2 ^ 12 % 2 ^ (9 * below)
offset_from below word =
    let exponent : 3 + 9 * suc below ≡ 9 * below + 12 = omega arith in
    ap (λ e. word % 2 ^ e / 2 ^ 12) exponent ∙ ap (λ n. n / 2 ^ 12) (mod-pow-add word (9 * below) 12)
    ∙ above_twelve (word / 2 ^ 12 % 2 ^ (9 * below)) word where
      above_twelve : (n word : ℕ) → (n * 2 ^ 12 + word % 2 ^ 12) / 2 ^ 12 ≡ n
      above_twelve n word = omega arith

address_from : (below : ℕ) (word : ℕ) → word % 2 ^ 52 / entry_bytes (suc below) ≡ word % 2 ^ 52 / 2 ^ 12 / 2 ^ (9 * below)
address_from below word =
    let exponent : 3 + 9 * suc below ≡ 12 + 9 * below = omega arith in
    ap (λ e. word % 2 ^ 52 / 2 ^ e) exponent ∙ sym (shr-shr (word % 2 ^ 52) 12 (9 * below))

same_kind : (ept : Ept) (level old new : ℕ) → 1 ≤ level → HasFlagsAt 8 old new → kind ept level new ≡ kind ept level old
same_kind ept zero old new some same = absurd (omega (arith, some))
same_kind ept (suc below) old new some same =
    let b0 : bit_at new 0 ≡ bit_at old 0 = omega (arith, same.below) in
    let b1 : bit_at new 1 ≡ bit_at old 1 = omega (arith, same.below) in
    let b2 : bit_at new 2 ≡ bit_at old 2 = omega (arith, same.below) in
    let b7 : bit_at new 7 ≡ bit_at old 7 = omega (arith, same.below) in
    let b10 : bit_at new 10 ≡ bit_at old 10 = omega (arith, same.above) in
    let twelve : new / 2 ^ 12 ≡ old / 2 ^ 12 = omega (arith, same.above) in
    let number : new % 2 ^ 52 / 2 ^ 12 ≡ old % 2 ^ 52 / 2 ^ 12 = omega (arith, same.above) in
    let high : new % 2 ^ 52 / 2 ^ 46 ≡ old % 2 ^ 52 / 2 ^ 46 = omega (arith, same.above) in
    let type : new % 2 ^ 8 / 2 ^ 3 ≡ old % 2 ^ 8 / 2 ^ 3 = ap (λ n. n / 2 ^ 3) (sym same.below) in
    same_said ept.by_mode _ _ _ _ _ _ _ _ _ _ _ _ _ _ _ _ _ _ _ _
    (ap (λ b. (suc below == 1) || (nat_le (suc below) 3 && (b == 1))) b7) b0 b1 b2 b10 high
    (offset_from below new ∙ ap (λ n. n % 2 ^ (9 * below)) twelve ∙ sym (offset_from below old)) type
    (ap (λ n. n * entry_bytes (suc below)) (address_from below new ∙ ap (λ n. n / 2 ^ (9 * below)) number ∙ sym (address_from below old))) number

-- ---- what is written reads back

-- the bits of rights that an entry can allow
leaf_said : (m r w x u : Bool) → IsTrue (can_say (record { by_mode = m }) (record { read = r; write = w; execute = x; user_execute = u }))
    → (type address number : ℕ) → said m true (digit r) (digit w) (digit x) (digit (m && u)) 0 0 type address number
    ≡ Leaf address (record { read = r; write = w; execute = x; user_execute = u })
leaf_said true true true true true can type address number = refl
leaf_said true true true true false can type address number = refl
leaf_said true true true false true can type address number = refl
leaf_said true true true false false can type address number = refl
leaf_said true true false true true can type address number = refl
leaf_said true true false true false can type address number = refl
leaf_said true true false false true can type address number = refl
leaf_said true true false false false can type address number = refl
leaf_said true false false true true can type address number = refl
leaf_said true false false true false can type address number = refl
leaf_said true false false false true can type address number = refl
leaf_said false true true true true can type address number = refl
leaf_said false true true false false can type address number = refl
leaf_said false true false true true can type address number = refl
leaf_said false true false false false can type address number = refl
leaf_said false false false true true can type address number = refl
leaf_said false false false false true can type address number = absurd (cc)
leaf_said false false false false false can type address number = absurd (cc)
leaf_said _ _ _ _ _ can type address number = absurd (cc)

-- the parts of a word
record HasParts (word r w x u l : ℕ) : Type 0 where
  zeroth : bit_at word 0 ≡ r
  first : bit_at word 1 ≡ w
  second : bit_at word 2 ≡ x
  seventh : bit_at word 7 ≡ l
  tenth : bit_at word 10 ≡ u
  high : word % 2 ^ 52 / 2 ^ 46 ≡ 0

parts_of : (word r w x u l phys : ℕ) → r < 2 → w < 2 → x < 2 → u < 2 → l < 2 → word ≡ phys + (r + w * 2 + x * 4 + u * 1024) + l * 128 → phys % 2 ^ 12 ≡ 0
    → phys < 2 ^ 46 → HasParts word r w x u l
parts_of word r w x u l phys rs ws xs us ls is aligned few = record {
  zeroth = omega (arith, is, aligned, rs);
  first = omega (arith, is, aligned, rs, ws);
  second = omega (arith, is, aligned, rs, ws, xs);
  seventh = omega (arith, is, aligned, rs, ws, xs, ls);
  tenth = omega (arith, is, aligned, rs, ws, xs, ls, us);
  high = omega (arith, is, aligned, few, rs, ws, xs, ls, us);
}

in_digits : (ept : Ept) (size : Size) (phys l : ℕ) (own : EptRights) → leaf_word ept size phys own ≡ leaf_word ept K4 phys own + l * 128
    → leaf_word ept size phys own ≡ phys +
    (digit own.read + digit own.write * 2 + digit own.execute * 4 + digit (ept.by_mode && own.user_execute) * 1024) + l * 128
in_digits ept size phys l own large =
    omega (
      arith,
      large,
      times own.read (2 ^ 0),
      times own.write (2 ^ 1),
      times own.execute (2 ^ 2),
      times (ept.by_mode && own.user_execute) (2 ^ 10),
    )

-- a word with these parts that maps a page
maps : (ept : Ept) (level word phys l : ℕ) (own : EptRights) → IsTrue (can_say ept own)
    → HasParts word (digit own.read) (digit own.write) (digit own.execute) (digit (ept.by_mode && own.user_execute)) l → is_leaf level word ≡ true
    → word % entry_bytes level / 2 ^ 12 ≡ 0 → word % 2 ^ 52 / entry_bytes level * entry_bytes level ≡ phys → kind ept level word ≡ Leaf phys own
maps ept level word phys l own can parts leaf offset address =
    same_said ept.by_mode _ _ _ _ _ _ _ _ _ _ _ _ _ _ _ _ _ _ _ _ leaf parts.zeroth parts.first parts.second parts.tenth parts.high offset refl address refl
    ∙ leaf_said ept.by_mode own.read own.write own.execute own.user_execute can (word % 2 ^ 8 / 2 ^ 3) phys (word % 2 ^ 52 / 2 ^ 12)

leaf_reads : (ept : Ept) (size : Size) (phys : ℕ) (own : EptRights) → phys % bytes_of size ≡ 0 → phys < 2 ^ 46 → IsTrue (can_say ept own)
    → kind ept (level_of size) (leaf_word ept size phys own) ≡ Leaf phys own
leaf_reads ept K4 phys own aligned few can =
    let is = in_digits ept K4 phys 0 own (omega arith) in
    let parts = parts_of _ _ _ _ _ 0 phys (digit_low own.read) (digit_low own.write) (digit_low own.execute) (digit_low (ept.by_mode && own.user_execute))
    (omega arith) is aligned few in
    maps ept 1 (leaf_word ept K4 phys own) phys 0 own can parts refl (omega arith) (at_4_kib _ _ _ _ _ phys (digit_low own.read) (digit_low own.write)
    (digit_low own.execute) (digit_low (ept.by_mode && own.user_execute)) is aligned few) where
      at_4_kib : (word r w x u phys : ℕ) → r < 2 → w < 2 → x < 2 → u < 2 → word ≡ phys + (r + w * 2 + x * 4 + u * 1024) + 0 * 128 → phys % 2 ^ 12 ≡ 0
          → phys < 2 ^ 46 → word % 2 ^ 52 / 2 ^ 12 * 2 ^ 12 ≡ phys
      at_4_kib word r w x u phys rs ws xs us is aligned few = omega (arith, is, aligned, few, rs, ws, xs, us)
leaf_reads ept M2 phys own aligned few can =
    let is = in_digits ept M2 phys 1 own (omega arith) in
    let parts = parts_of _ _ _ _ _ 1 phys (digit_low own.read) (digit_low own.write) (digit_low own.execute) (digit_low (ept.by_mode && own.user_execute))
    (omega arith) is (omega (arith, aligned)) few in
    let at = at_2_mib _ _ _ _ _ phys (digit_low own.read) (digit_low own.write) (digit_low own.execute) (digit_low (ept.by_mode && own.user_execute))
    is aligned few in
    maps ept 2 (leaf_word ept M2 phys own) phys 1 own can parts (ap (λ b. b == 1) parts.seventh) at.0 at.1 where
      at_2_mib : (word r w x u phys : ℕ) → r < 2 → w < 2 → x < 2 → u < 2 → word ≡ phys + (r + w * 2 + x * 4 + u * 1024) + 1 * 128 → phys % 2 ^ 21 ≡ 0
          → phys < 2 ^ 46 → (word % 2 ^ 21 / 2 ^ 12 ≡ 0) × (word % 2 ^ 52 / 2 ^ 21 * 2 ^ 21 ≡ phys)
      at_2_mib word r w x u phys rs ws xs us is aligned few =
          (omega (arith, is, aligned, rs, ws, xs, us), omega (arith, is, aligned, few, rs, ws, xs, us))
leaf_reads ept G1 phys own aligned few can =
    let is = in_digits ept G1 phys 1 own (omega arith) in
    let parts = parts_of _ _ _ _ _ 1 phys (digit_low own.read) (digit_low own.write) (digit_low own.execute) (digit_low (ept.by_mode && own.user_execute))
    (omega arith) is (omega (arith, aligned)) few in
    let at = at_1_gib _ _ _ _ _ phys (digit_low own.read) (digit_low own.write) (digit_low own.execute) (digit_low (ept.by_mode && own.user_execute))
    is aligned few in
    maps ept 3 (leaf_word ept G1 phys own) phys 1 own can parts (ap (λ b. b == 1) parts.seventh) at.0 at.1 where
      at_1_gib : (word r w x u phys : ℕ) → r < 2 → w < 2 → x < 2 → u < 2 → word ≡ phys + (r + w * 2 + x * 4 + u * 1024) + 1 * 128 → phys % 2 ^ 30 ≡ 0
          → phys < 2 ^ 46 → (word % 2 ^ 30 / 2 ^ 12 ≡ 0) × (word % 2 ^ 52 / 2 ^ 30 * 2 ^ 30 ≡ phys)
      at_1_gib word r w x u phys rs ws xs us is aligned few =
          (omega (arith, is, aligned, rs, ws, xs, us), omega (arith, is, aligned, few, rs, ws, xs, us))

no_leaf : (level word : ℕ) → 1 < level → bit_at word 7 ≡ 0 → is_leaf level word ≡ false
no_leaf level word above none = grind arith

table_reads : (ept : Ept) (level number : ℕ) → 1 < level → number * 4096 < 2 ^ 46 → kind ept level (table_word ept number) ≡ Table number all_rights
table_reads ept level number above few = by_mode ept.by_mode (table_word ept number) refl (no_leaf level (table_word ept number)) where
  by_mode : (m : Bool) (word : ℕ) → word ≡ number * 4096 + (1 + 2 + 4 + cond (m && true) (2 ^ 10) 0)
      → (1 < level → bit_at word 7 ≡ 0 → is_leaf level word ≡ false)
      → said m (is_leaf level word) (bit_at word 0) (bit_at word 1) (bit_at word 2) (bit_at word 10) (word % 2 ^ 52 / 2 ^ 46)
      (word % entry_bytes level / 2 ^ 12) (word % 2 ^ 8 / 2 ^ 3) (word % 2 ^ 52 / entry_bytes level * entry_bytes level) (word % 2 ^ 52 / 2 ^ 12)
      ≡ Table number all_rights
  by_mode true word is leads =
      same_said true (is_leaf level word) false (bit_at word 0) 1 (bit_at word 1) 1 (bit_at word 2) 1 (bit_at word 10) 1 (word % 2 ^ 52 / 2 ^ 46) 0
      _ _ (word % 2 ^ 8 / 2 ^ 3) 0 _ _ (word % 2 ^ 52 / 2 ^ 12) number (leads above (omega (arith, is))) (omega (arith, is)) (omega (arith, is))
      (omega (arith, is))
      (omega (arith, is)) (omega (arith, is, few)) refl (omega (arith, is)) refl (omega (arith, is, few))
  by_mode false word is leads =
      same_said false (is_leaf level word) false (bit_at word 0) 1 (bit_at word 1) 1 (bit_at word 2) 1 (bit_at word 10) 0 (word % 2 ^ 52 / 2 ^ 46) 0
      _ _ (word % 2 ^ 8 / 2 ^ 3) 0 _ _ (word % 2 ^ 52 / 2 ^ 12) number (leads above (omega (arith, is))) (omega (arith, is)) (omega (arith, is))
      (omega (arith, is))
      (omega (arith, is)) (omega (arith, is, few)) refl (omega (arith, is)) refl (omega (arith, is, few))

-- ---- where a leaf can be

bounds : (m l : Bool) (a b c d h o t p n phys : ℕ) (own : EptRights) → said m l a b c d h o t p n ≡ Leaf phys own → (l ≡ true) × (p ≡ phys)
bounds m true a b c d h o t p n phys own is = grind arith
bounds m false a b c d h o t p n phys own is = absurd (grind arith)

no_table : (m l : Bool) (a b c d h o t p n number : ℕ) (own : EptRights) → said m l a b c d h o t p n ≡ Table number own → l ≡ false
no_table m true a b c d h o t p n number own is = absurd (grind arith)
no_table m false a b c d h o t p n number own is = refl

link_high : (level word : ℕ) → 1 ≤ level → is_leaf level word ≡ false → 1 < level
link_high level word some is = grind arith

pub leaf_low : (level word : ℕ) → is_leaf level word ≡ true → level ≤ 3
leaf_low level word is = grind arith

-- the bits of a word are given once
leaf_is : (ept : Ept) (level word phys : ℕ) (own : EptRights) → kind ept level word ≡ Leaf phys own
    → (is_leaf level word ≡ true) × (word % 2 ^ 52 / entry_bytes level * entry_bytes level ≡ phys)
leaf_is ept level word phys own is =
    bounds ept.by_mode (is_leaf level word) (bit_at word 0) (bit_at word 1) (bit_at word 2) (bit_at word 10) (word % 2 ^ 52 / 2 ^ 46)
    (word % entry_bytes level / 2 ^ 12) (word % 2 ^ 8 / 2 ^ 3) (word % 2 ^ 52 / entry_bytes level * entry_bytes level) (word % 2 ^ 52 / 2 ^ 12) phys own is

link_is : (ept : Ept) (level word number : ℕ) (own : EptRights) → kind ept level word ≡ Table number own → is_leaf level word ≡ false
link_is ept level word number own is =
    no_table ept.by_mode (is_leaf level word) (bit_at word 0) (bit_at word 1) (bit_at word 2) (bit_at word 10) (word % 2 ^ 52 / 2 ^ 46)
    (word % entry_bytes level / 2 ^ 12) (word % 2 ^ 8 / 2 ^ 3) (word % 2 ^ 52 / entry_bytes level * entry_bytes level) (word % 2 ^ 52 / 2 ^ 12) number own is

address_low : (bytes word : ℕ) → word % 2 ^ 52 / bytes * bytes < 2 ^ 52
address_low bytes word = omega arith

pub is_format : (ept : Ept) → IsFormat (format ept)
is_format ept = record {
  some_level = omega arith;
  few_levels = omega arith;
  end_is = omega arith;
  empty = λ level. empty_said ept.by_mode (is_leaf level 0) (0 % entry_bytes level / 2 ^ 12) 0 (0 / entry_bytes level * entry_bytes level) 0;
  table_level = λ level word number own some is. link_high level word some (link_is ept level word number own is);
  leaf_level = λ level word phys own is. leaf_low level word (leaf_is ept level word phys own is).0;
  leaf_range = λ level word phys own is. low phys (leaf_is ept level word phys own is).1 (address_low (entry_bytes level) word);
  leaf_reads = leaf_reads ept;
  table_reads = λ level number above high in_range. table_reads ept level number above in_range;
  flags_keep = same_kind ept;
} where
  low : {address : ℕ} (phys : ℕ) → address ≡ phys → address < 2 ^ 52 → phys < 2 ^ 52
  low phys is few = omega (arith, is, few)

  empty_said : (m l : Bool) (o t p n : ℕ) → said m l 0 0 0 0 0 o t p n ≡ Absent
  empty_said true l o t p n = refl
  empty_said false l o t p n = refl
