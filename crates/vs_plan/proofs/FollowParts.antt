-- An entry follows on from the first one of its table just where its address, its rights and its bits do.
use Rattle.std.proofs.Common.{◌≡◌, ℕ, zero, suc, ◌+◌, ◌*◌, ◌/◌, ◌%◌, ◌^◌, ◌<◌, ◌≤◌, ◌↔◌, Bool, true, false, refl, sym, ap, ◌∙◌, arith}
use Rattle.std.proofs.lemmas.Bool.{eq-eqb, eqb-true, not-false}
use Rattle.std.specs.Prelude.{not, if◌then◌else◌, ◌==◌}
use Rattle.std.specs.Int.{bit_at}
use Rattle.vs_types.specs.Entry.{meaning, size_at, rights_of}
use Rattle.vs_types.specs.Page.{bytes_of}
use Rattle.vs_types.specs.declared.addresses.page.Rights.{Rights}
use Rattle.vs_types.specs.declared.addresses.page.Size.TheVariants.{K4, M2}
use Rattle.vs_types.specs.declared.entries.entry.Meaning.TheVariants as entry
use Rattle.vs_types.specs.Bits.{bits_in, unflagged}
use Rattle.vs_plan.specs.Changes.{larger}
use Rattle.vs_plan.specs.Answered.{Follows}
use Rattle.vs_plan.proofs.Following.{follows_reads, room_of}
use Rattle.vs_plan.proofs.RunWords.{leaf_parts}

-- ---- bits by the rights

bit_same : (a b : ℕ) → a < 2 → b < 2 → (a == 1) ≡ (b == 1) → a ≡ b
bit_same zero (suc zero) la lb e = absurd (cc)
bit_same (suc zero) zero la lb e = absurd (cc)
bit_same (suc (suc a)) b la lb e = absurd (omega (arith, la))
bit_same _ (suc (suc b)) la lb e = absurd (omega (arith, lb))
bit_same _ _ la lb e = refl

not_same : (a b : Bool) → not a ≡ not b → a ≡ b
not_same true false e = absurd (cc)
not_same false true e = absurd (cc)
not_same _ _ e = refl

record HasSameRights (word first : ℕ) : Type 0 where
  one : bit_at word 1 ≡ bit_at first 1
  two : bit_at word 2 ≡ bit_at first 2
  last : bit_at word 63 ≡ bit_at first 63

same_rights : (word first : ℕ) → rights_of word ≡ rights_of first → HasSameRights word first
same_rights word first e = record {
  one = bit_same (bit_at word 1) (bit_at first 1) (omega arith) (omega arith) (ap (λ (r : Rights). r.write) e);
  two = bit_same (bit_at word 2) (bit_at first 2) (omega arith) (omega arith) (ap (λ (r : Rights). r.user) e);
  last = bit_same (bit_at word 63) (bit_at first 63) (omega arith) (omega arith)
      (not_same (bit_at word 63 == 1) (bit_at first 63 == 1) (ap (λ (r : Rights). r.exec) e));
}

-- ---- a page of 2 MiB

offset_none : (b n : ℕ) → b ≡ 1 → (if b == 1 then not (n == 0) else b == 1) ≡ false → n ≡ 0
offset_none b n set plain = by (b == 1) (eq-eqb b 1 set) plain where
  by : (t : Bool) → t ≡ true → (if t then not (n == 0) else t) ≡ false → n ≡ 0
  by true e is = eqb-true n 0 (not-false (n == 0) is)
  by false e is = absurd (cc)

medium_leaf : (word phys : ℕ) (own : Rights) → meaning 2 word ≡ entry.Leaf phys own → (bit_at word 7 ≡ 1) × (word % 2 ^ 21 / 2 ^ 13 ≡ 0)
medium_leaf word phys own says =
    let parts = leaf_parts 2 word phys own says in
    let large : bit_at word 7 ≡ 1 = eqb-true (bit_at word 7) 1 parts.leaf in
    (large, offset_none (bit_at word 7) (word % 2 ^ 21 / 2 ^ 13) large parts.plain)

-- ---- words without their flags

record AreAlike (a b : ℕ) : Type 0 where
  below : a % 2 ^ 5 ≡ b % 2 ^ 5
  above : a / 2 ^ 7 ≡ b / 2 ^ 7

alike_of : (a b : ℕ) → unflagged a ≡ unflagged b → AreAlike a b
alike_of a b e = record { below = omega (arith, e); above = omega (arith, e) }

-- ---- by their parts they follow on

small_follows : (first index word phys : ℕ) (own : Rights) → first < 2 ^ 64 → word < 2 ^ 64 → meaning 1 first ≡ entry.Leaf phys own
    → meaning 1 word ≡ entry.Leaf (phys + index * 2 ^ 12) own → unflagged (bits_in K4 word) ≡ unflagged (bits_in K4 first)
    → unflagged word ≡ unflagged first + index * 2 ^ 12
small_follows first index word phys own fits few says reads bits =
    let f = leaf_parts 1 first phys own says in
    let w = leaf_parts 1 word (phys + index * 2 ^ 12) own reads in
    let r = same_rights word first (w.rights ∙ sym f.rights) in
    let b = alike_of (bits_in K4 word) (bits_in K4 first) bits in
    let low : word % 2 ^ 5 ≡ first % 2 ^ 5 = omega (arith, f.present, w.present, r.one, r.two, b.below) in
    let mid : word % 2 ^ 12 / 2 ^ 7 ≡ first % 2 ^ 12 / 2 ^ 7 = omega (arith, b.above) in
    let place : word % 2 ^ 52 / 2 ^ 12 ≡ first % 2 ^ 52 / 2 ^ 12 + index = omega (arith, f.address, w.address) in
    let high : word / 2 ^ 52 % 2 ^ 11 ≡ first / 2 ^ 52 % 2 ^ 11 = omega (arith, b.above) in
    let top : word / 2 ^ 63 ≡ first / 2 ^ 63 = omega (arith, r.last, fits, few) in
    omega (arith, low, mid, place, high, top)

medium_follows : (first index word phys : ℕ) (own : Rights) → first < 2 ^ 64 → word < 2 ^ 64 → meaning 2 first ≡ entry.Leaf phys own
    → meaning 2 word ≡ entry.Leaf (phys + index * 2 ^ 21) own → unflagged (bits_in M2 word) ≡ unflagged (bits_in M2 first)
    → unflagged word ≡ unflagged first + index * 2 ^ 21
medium_follows first index word phys own fits few says reads bits =
    let f = leaf_parts 2 first phys own says in
    let w = leaf_parts 2 word (phys + index * 2 ^ 21) own reads in
    let fl = medium_leaf first phys own says in
    let wl = medium_leaf word (phys + index * 2 ^ 21) own reads in
    let r = same_rights word first (w.rights ∙ sym f.rights) in
    let b = alike_of (bits_in M2 word) (bits_in M2 first) bits in
    let low : word % 2 ^ 5 ≡ first % 2 ^ 5 = omega (arith, f.present, w.present, r.one, r.two, b.below) in
    let pat : bit_at word 12 ≡ bit_at first 12 = omega (arith, b.above) in
    let mid : word % 2 ^ 12 / 2 ^ 8 ≡ first % 2 ^ 12 / 2 ^ 8 = omega (arith, b.above) in
    let all : word % 2 ^ 21 / 2 ^ 7 ≡ first % 2 ^ 21 / 2 ^ 7 = omega (arith, fl, wl, pat, mid) in
    let place : word % 2 ^ 52 / 2 ^ 21 ≡ first % 2 ^ 52 / 2 ^ 21 + index = omega (arith, f.address, w.address) in
    let high : word / 2 ^ 52 % 2 ^ 11 ≡ first / 2 ^ 52 % 2 ^ 11 = omega (arith, b.above) in
    let top : word / 2 ^ 63 ≡ first / 2 ^ 63 = omega (arith, r.last, fits, few) in
    omega (arith, low, all, place, high, top)

-- ---- and where they follow on, so do their bits

small_bits : (first index word : ℕ) → first % 2 ^ 21 < 2 ^ 12 → index < 512 → unflagged word ≡ unflagged first + index * 2 ^ 12
    → unflagged (bits_in K4 word) ≡ unflagged (bits_in K4 first)
small_bits first index word room low is =
    let below : word % 2 ^ 5 ≡ first % 2 ^ 5 = omega (arith, is) in
    let above : word / 2 ^ 7 ≡ first / 2 ^ 7 + index * 2 ^ 5 = omega (arith, is) in
    let mid : word % 2 ^ 12 / 2 ^ 7 ≡ first % 2 ^ 12 / 2 ^ 7 = omega (arith, above) in
    let high : word / 2 ^ 52 ≡ first / 2 ^ 52 = omega (arith, above, room, low) in
    omega (arith, below, mid, high)

medium_bits : (first index word : ℕ) → first % 2 ^ 30 < 2 ^ 21 → index < 512 → unflagged word ≡ unflagged first + index * 2 ^ 21
    → unflagged (bits_in M2 word) ≡ unflagged (bits_in M2 first)
medium_bits first index word room low is =
    let below : word % 2 ^ 5 ≡ first % 2 ^ 5 = omega (arith, is) in
    let above : word / 2 ^ 7 ≡ first / 2 ^ 7 + index * 2 ^ 14 = omega (arith, is) in
    let mid : word % 2 ^ 12 / 2 ^ 8 ≡ first % 2 ^ 12 / 2 ^ 8 = omega (arith, above) in
    let pat : bit_at word 12 ≡ bit_at first 12 = omega (arith, above) in
    let high : word / 2 ^ 52 ≡ first / 2 ^ 52 = omega (arith, above, room, low) in
    omega (arith, below, mid, pat, high)

-- ---- both

pub follows_by_parts : (level first index word phys : ℕ) (own : Rights) → 1 ≤ level → level ≤ 2 → first < 2 ^ 64 → word < 2 ^ 64
    → meaning level first ≡ entry.Leaf phys own → phys % bytes_of (larger (size_at level)) ≡ 0 → index < 512
    → Follows (size_at level) first index word
    ↔ ((meaning level word ≡ entry.Leaf (phys + index * bytes_of (size_at level)) own)
    × (unflagged (bits_in (size_at level) word) ≡ unflagged (bits_in (size_at level) first)))
follows_by_parts zero first index word phys own some few fits short says aligned low = absurd (omega (arith, some))
follows_by_parts (suc zero) first index word phys own some few fits short says aligned low = (
  λ is. (
    follows_reads 1 first index word phys own some few says aligned low is,
    small_bits first index word (room_of 1 first phys own says some few aligned) low is,
  ),
  λ parts. small_follows first index word phys own fits short says parts.0 parts.1,
)
follows_by_parts (suc (suc zero)) first index word phys own some few fits short says aligned low = (
  λ is. (
    follows_reads 2 first index word phys own some few says aligned low is,
    medium_bits first index word (room_of 2 first phys own says some few aligned) low is,
  ),
  λ parts. medium_follows first index word phys own fits short says parts.0 parts.1,
)
follows_by_parts (suc (suc (suc level))) first index word phys own some few fits short says aligned low = absurd (omega (arith, few))
