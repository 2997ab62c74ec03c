-- Translated bits: the addresses that they are, their indexes in tables, and the leaves of tables.
use Rattle.std.proofs.Common.{◌≡◌, ◌≢◌, ℕ, zero, suc, ◌+◌, ◌-◌, ◌*◌, ◌/◌, ◌%◌, ◌^◌, ◌<◌, ◌≤◌, cond, refl, sym, ap, subst, ◌∙◌, inl, inr, ⊎_elim, arith, pow_pos}
use Rattle.std.proofs.Common.{nat_lt}
use Rattle.std.proofs.lemmas.Bool.{cases_lt}
use Rattle.std.proofs.lemmas.Bool.Decides.{nat_tests}
use Rattle.std.proofs.lemmas.Nat.{pow-add, div-mul-add, mod-mul-add, div-add-mod', mod_below, div_below}
use Rattle.vs_types.specs.Depth.{levels, entry_bytes, table_bytes, half_bytes, IsCanonical}
use Rattle.vs_types.specs.Page.{bytes_of}
use Rattle.vs_types.specs.Entry.{meaning, size_at}
use Rattle.vs_types.specs.declared.addresses.depth.Depth.{Depth}
use Rattle.vs_types.specs.declared.addresses.page.Rights.{Rights}
use Rattle.vs_types.specs.declared.addresses.page.Size.{Size}
use Rattle.vs_types.specs.declared.addresses.page.Size.TheVariants.{K4}
use Rattle.vs_types.specs.declared.entries.entry.Meaning.TheVariants as entry
use Rattle.vs_types.proofs.Pages.{half_multiple, canonical_means, ends_before}
use Rattle.vs_walk.specs.Traversal.{canonical_from}
use Rattle.vs_walk.proofs.Walks.{few_levels, leaf_level}

-- ---- the address of some bits

abbrev from_bits : ℕ → ℕ → ℕ → ℕ
from_bits half gap bits = cond (nat_lt bits half) bits (bits + gap)

from_bits_climb : (half gap a n b : ℕ) → a + n ≤ b → from_bits half gap a + n ≤ from_bits half gap b
from_bits_climb half gap a n b le = grind (arith, nat_tests)

-- addresses are at least as far apart as their bits
pub addresses_climb : (depth : Depth) (a n b : ℕ) → a + n ≤ b → canonical_from depth a + n ≤ canonical_from depth b
addresses_climb depth a n b le = from_bits_climb (half_bytes depth) (2 ^ 64 - 2 * half_bytes depth) a n b le

from_bits_within : (half gap a n : ℕ) → (a < half → a + n < half) → from_bits half gap (a + n) ≡ from_bits half gap a + n
from_bits_within half gap a n within = ⊎_elim (λ low. let up = within low in grind (arith, nat_tests)) (λ high. grind (arith, nat_tests)) (cases_lt a half)

-- and those of a page as far
pub address_within : (depth : Depth) (level bits rest : ℕ) → bits % bytes_of (size_at level) ≡ 0 → rest < bytes_of (size_at level)
    → canonical_from depth (bits + rest) ≡ canonical_from depth bits + rest
address_within depth level bits rest aligned lt =
    from_bits_within (half_bytes depth) (2 ^ 64 - 2 * half_bytes depth) bits rest (λ low.
    let up = ends_before (size_at level) bits (half_bytes depth) aligned (half_multiple depth (size_at level)) low in
    within bits rest (bytes_of (size_at level)) (half_bytes depth) lt up)
  where
    within : (bits rest bytes half : ℕ) → rest < bytes → bits + bytes ≤ half → bits + rest < half
    within bits rest bytes half lt le = omega arith

-- ---- what a table covers

pub whole_is : (depth : Depth) → table_bytes (levels depth) ≡ 2 * half_bytes depth
whole_is depth =
    ap (λ e. 2 ^ e) (parts (12 + 9 * levels depth) (omega arith)) ∙ pow-add 2 1 (12 + 9 * levels depth - 1)
  where
    parts : (e : ℕ) → 0 < e → e ≡ 1 + (e - 1)
    parts e some = omega arith

-- all addresses are a multiple of what the root covers
all_is : (depth : Depth) → (k : ℕ) × (2 ^ 64 ≡ suc k * table_bytes (levels depth))
all_is depth =
    let e : ℕ = 12 + 9 * levels depth in
    let split : 2 ^ 64 ≡ 2 ^ (64 - e) * 2 ^ e = ap (λ n. 2 ^ n) (parts e (omega (arith, few_levels depth))) ∙ pow-add 2 (64 - e) e in
    (2 ^ (64 - e) - 1, split ∙ ap (λ n. n * 2 ^ e) (up (2 ^ (64 - e)) (pow_pos (64 - e))))
  where
    parts : (e : ℕ) → e ≤ 64 → 64 ≡ (64 - e) + e
    parts e le = omega arith

    up : (n : ℕ) → 0 < n → n ≡ suc (n - 1)
    up n some = omega arith

pub halves_fit : (depth : Depth) → 2 * half_bytes depth ≤ 2 ^ 64
halves_fit depth = let all = all_is depth in fits (half_bytes depth) (table_bytes (levels depth)) (2 ^ 64) all.0 (whole_is depth) all.1 where
  fits : (half whole all k : ℕ) → whole ≡ 2 * half → all ≡ suc k * whole → 2 * half ≤ all
  fits half whole all k is e = omega arith

-- the translated bits of an address
pub record HasBits (depth : Depth) (address : ℕ) : Type 0 where
  pub bits : ℕ
  pub above : ℕ
  pub few : bits < table_bytes (levels depth)
  pub split : address ≡ above * table_bytes (levels depth) + bits
  pub is : address ≡ canonical_from depth bits

bits_low : (half gap address : ℕ) → address < half → address ≡ from_bits half gap address
bits_low half gap address lt = grind (arith, nat_tests)

bits_high : (half all address : ℕ) → 2 * half ≤ all → all - half ≤ address → address ≡ from_bits half (all - 2 * half) (address - (all - 2 * half))
bits_high half all address fits le = grind (arith, nat_tests)

pub bits_of : (depth : Depth) (address : ℕ) → IsCanonical depth address → HasBits depth address
bits_of depth address canonical =
    let whole = whole_is depth in
    let all = all_is depth in
    ⊎_elim
    (λ low. record {
      bits = address;
      above = 0;
      few = low_few address (half_bytes depth) (table_bytes (levels depth)) whole low;
      split = omega arith;
      is = bits_low (half_bytes depth) (2 ^ 64 - 2 * half_bytes depth) address low;
    })
    (λ high. record {
      bits = address - (2 ^ 64 - 2 * half_bytes depth);
      above = all.0;
      few = high_few address (half_bytes depth) (table_bytes (levels depth)) (2 ^ 64) whole high.0 high.1;
      split = high_split address (half_bytes depth) (table_bytes (levels depth)) (2 ^ 64) all.0 whole all.1 high.0;
      is = bits_high (half_bytes depth) (2 ^ 64) address (halves_fit depth) high.0;
    })
    ((canonical_means depth address).0 canonical)
  where
    low_few : (address half whole : ℕ) → whole ≡ 2 * half → address < half → address < whole
    low_few address half whole is lt = omega arith

    high_few : (address half whole all : ℕ) → whole ≡ 2 * half → all - half ≤ address → address < all → address - (all - 2 * half) < whole
    high_few address half whole all is le lt = omega arith

    high_split : (address half whole all k : ℕ) → whole ≡ 2 * half → all ≡ suc k * whole → all - half ≤ address
        → address ≡ k * whole + (address - (all - 2 * half))
    high_split address half whole all k is e le = omega arith

-- the address of some bits has those as its lowest
pub address_splits : (depth : Depth) (bits : ℕ) → (above : ℕ) × (canonical_from depth bits ≡ above * table_bytes (levels depth) + bits)
address_splits depth bits =
    let whole = whole_is depth in
    let all = all_is depth in
    ⊎_elim
    (λ low. (0, sym (bits_low (half_bytes depth) (2 ^ 64 - 2 * half_bytes depth) bits low) ∙ omega arith))
    (λ high. (all.0, up (half_bytes depth) (table_bytes (levels depth)) (2 ^ 64) bits all.0 whole all.1 high))
    (cases_lt bits (half_bytes depth))
  where
    over : (half gap bits : ℕ) → half ≤ bits → from_bits half gap bits ≡ bits + gap
    over half gap bits le = grind (arith, nat_tests)

    up : (half whole all bits k : ℕ) → whole ≡ 2 * half → all ≡ suc k * whole → half ≤ bits → from_bits half (all - 2 * half) bits ≡ k * whole + bits
    up half whole all bits k is e le = over half (all - 2 * half) bits le ∙ omega arith

-- and each bits are those of a canonical address
pub bits_canonical : (depth : Depth) (bits : ℕ) → bits < table_bytes (levels depth) → IsCanonical depth (canonical_from depth bits)
bits_canonical depth bits lt =
    let whole = whole_is depth in
    let all = all_is depth in
    (canonical_means depth (canonical_from depth bits)).1 (⊎_elim
    (λ low. inl (subst (λ a. a < half_bytes depth) (bits_low (half_bytes depth) (2 ^ 64 - 2 * half_bytes depth) bits low) low))
    (λ high. inr (in_high (half_bytes depth) (table_bytes (levels depth)) (2 ^ 64) bits all.0 whole all.1 high lt))
    (cases_lt bits (half_bytes depth)))
  where
    in_high : (half whole all bits k : ℕ) → whole ≡ 2 * half → all ≡ suc k * whole → half ≤ bits → bits < whole
        → (all - half ≤ from_bits half (all - 2 * half) bits) × (from_bits half (all - 2 * half) bits < all)
    in_high half whole all bits k is e le lt = let fits : whole ≤ all = omega arith in (grind (arith, nat_tests), grind (arith, nat_tests))

-- an address whose bits are a multiple of a page's bytes is one
pub from_bits_aligned : (depth : Depth) (size : Size) (bits : ℕ) → bits % bytes_of size ≡ 0 → canonical_from depth bits % bytes_of size ≡ 0
from_bits_aligned depth size bits aligned =
    ⊎_elim
    (λ low. subst (λ a. a % bytes_of size ≡ 0) (bits_low (half_bytes depth) (2 ^ 64 - 2 * half_bytes depth) bits low) aligned)
    (λ high. subst (λ a. a % bytes_of size ≡ 0) (sym (up (half_bytes depth) (2 ^ 64 - 2 * half_bytes depth) bits high))
    (shifted size bits (half_bytes depth) aligned (half_multiple depth size)))
    (cases_lt bits (half_bytes depth))
  where
    up : (half gap bits : ℕ) → half ≤ bits → from_bits half gap bits ≡ bits + gap
    up half gap bits le = grind (arith, nat_tests)

    shifted : (size : Size) (bits half : ℕ) → bits % bytes_of size ≡ 0 → half % bytes_of size ≡ 0 → (bits + (2 ^ 64 - 2 * half)) % bytes_of size ≡ 0
    shifted K4 bits half a b = omega arith
    shifted _ bits half a b = omega arith

-- ---- levels

pub entry_is_table : (level : ℕ) → entry_bytes (suc level) ≡ table_bytes level
entry_is_table level = ap (λ e. 2 ^ e) (omega arith)

pub table_is_entries : (level : ℕ) → table_bytes (suc level) ≡ 512 * entry_bytes (suc level)
table_is_entries level = ap (λ e. 2 ^ e) (parts level) ∙ pow-add 2 9 (3 + 9 * suc level) where
  parts : (level : ℕ) → 12 + 9 * suc level ≡ 9 + (3 + 9 * suc level)
  parts level = omega arith

pub entry_some : (level : ℕ) → 0 < entry_bytes level
entry_some level = pow_pos (3 + 9 * level)

-- where an offset into a table is: the entry's index, and the offset into what the entry represents
pub record StandsAt (bytes address offset : ℕ) : Type 0 where
  pub index : ℕ
  pub rest : ℕ
  pub within : index < 512
  pub small : rest < bytes
  pub sum : offset ≡ index * bytes + rest
  pub at : address / bytes % 512 ≡ index
  pub over : address % bytes ≡ rest

pub stands : (bytes address offset above : ℕ) → 0 < bytes → offset < 512 * bytes → address ≡ above * (512 * bytes) + offset → StandsAt bytes address offset
stands bytes address offset above some lt is =
    let index : ℕ = offset / bytes in
    let rest : ℕ = offset % bytes in
    let sum : offset ≡ index * bytes + rest = sym (div-add-mod' offset bytes) in
    let small : rest < bytes = mod_below offset bytes some in
    let within : index < 512 = div_below offset bytes 512 some lt in
    let split : address ≡ (above * 512 + index) * bytes + rest = regroup address above bytes offset index rest is sum in
    record {
      index = index;
      rest = rest;
      within = within;
      small = small;
      sum = sum;
      at = ap (λ a. a / bytes % 512) split ∙ ap (λ a. a % 512) (div-mul-add (above * 512 + index) bytes rest small) ∙ mod-mul-add above 512 index within;
      over = ap (λ a. a % bytes) split ∙ mod-mul-add (above * 512 + index) bytes rest small;
    }
  where
    regroup : (address above bytes offset index rest : ℕ) → address ≡ above * (512 * bytes) + offset → offset ≡ index * bytes + rest
        → address ≡ (above * 512 + index) * bytes + rest
    regroup address above bytes offset index rest is sum = omega arith

-- ---- leaves

-- the bytes of a leaf's page are those that its entry represents
pub leaf_bytes : (level word phys : ℕ) (own : Rights) → meaning (suc level) word ≡ entry.Leaf phys own
    → bytes_of (size_at (suc level)) ≡ entry_bytes (suc level)
leaf_bytes level word phys own is = small level (leaf_level (suc level) word phys own is).0 where
  small : (level : ℕ) → suc level ≤ 3 → bytes_of (size_at (suc level)) ≡ entry_bytes (suc level)
  small zero few = refl
  small (suc zero) few = refl
  small (suc (suc zero)) few = refl
  small (suc (suc (suc level))) few = absurd (omega arith)

leaf_address : (level word phys : ℕ) (own : Rights) → meaning level word ≡ entry.Leaf phys own → phys ≡ word % 2 ^ 52 / entry_bytes level * entry_bytes level
leaf_address level word phys own is = grind arith

-- a leaf's page lies whole below 2 ^ 52
pub leaf_lies : (level word phys : ℕ) (own : Rights) → meaning (suc level) word ≡ entry.Leaf phys own
    → (phys % entry_bytes (suc level) ≡ 0) × (phys + entry_bytes (suc level) ≤ 2 ^ 52)
leaf_lies level word phys own is = small level word phys (leaf_level (suc level) word phys own is).0 (leaf_address (suc level) word phys own is) where
  small : (level word phys : ℕ) → suc level ≤ 3 → phys ≡ word % 2 ^ 52 / entry_bytes (suc level) * entry_bytes (suc level)
      → (phys % entry_bytes (suc level) ≡ 0) × (phys + entry_bytes (suc level) ≤ 2 ^ 52)
  small zero word phys few at = (omega arith, omega arith)
  small (suc zero) word phys few at = (omega arith, omega arith)
  small (suc (suc zero)) word phys few at = (omega arith, omega arith)
  small (suc (suc (suc level))) word phys few at = absurd (omega arith)

-- the entries of the lowest tables lead to no table
pub no_table_below : (word number : ℕ) (own : Rights) → meaning 1 word ≢ entry.Table number own
no_table_below word number own is = grind arith
