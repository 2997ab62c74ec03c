-- The tables of a depth have a format.
use Rattle.std.proofs.Common.{◌≡◌, ℕ, zero, suc, ◌+◌, ◌*◌, ◌/◌, ◌%◌, ◌^◌, ◌<◌, ◌≤◌, ap, ◌∙◌, refl, arith}
use Rattle.std.specs.Prelude.{◌==◌}
use Rattle.std.specs.Int.{bit_at}
use Rattle.vs_types.specs.Depth.{entry_bytes, half_bytes, levels}
use Rattle.vs_types.specs.Entry.{all_rights, has_reserved, is_leaf, leaf_word, meaning, table_word}
use Rattle.vs_types.specs.Format.{HasFlagsAt, IsFormat, IsReservedBitOf, kind_of, x86}
use Rattle.vs_types.specs.Bits.{IsLowestReservedBit}
use Rattle.vs_types.specs.declared.addresses.depth.Depth.{Depth}
use Rattle.vs_types.specs.declared.addresses.depth.Depth.TheVariants.{Four, Five}
use Rattle.vs_types.specs.declared.addresses.page.Rights.{Rights}
use Rattle.vs_types.specs.declared.entries.entry.Meaning.{Meaning}
use Rattle.vs_types.specs.declared.entries.entry.Meaning.TheVariants as entry
use Rattle.vs_types.specs.declared.entries.kind.EntryKind.TheVariants.{Reserved, Leaf, Table}
use Rattle.vs_types.proofs.LeafWords.{leaf_reads}
use Rattle.vs_types.proofs.Placed.{IsAsPlaced, means_with, rights_same, said}

pub few_levels : (depth : Depth) → levels depth ≤ 5
few_levels Four = omega arith
few_levels Five = omega arith

some_levels : (depth : Depth) → 1 ≤ levels depth
some_levels Four = omega arith
some_levels Five = omega arith

ends : (depth : Depth) → 2 * half_bytes depth ≡ 2 ^ (12 + 9 * levels depth)
ends Four = omega arith
ends Five = omega arith

-- ---- what an entry is, from what it means

leaf_from : (m : Meaning) (phys : ℕ) (own : Rights) → kind_of m ≡ Leaf phys own → m ≡ entry.Leaf phys own
leaf_from (entry.Leaf phys own) _ _ is = cc
leaf_from entry.Absent phys own is = absurd (cc)
leaf_from entry.Reserved phys own is = absurd (cc)
leaf_from (entry.Table number own) phys _ is = absurd (cc)

table_from : (m : Meaning) (number : ℕ) (own : Rights) → kind_of m ≡ Table number own → m ≡ entry.Table number own
table_from (entry.Table number own) _ _ is = cc
table_from entry.Absent number own is = absurd (cc)
table_from entry.Reserved number own is = absurd (cc)
table_from (entry.Leaf phys own) number _ is = absurd (cc)

pub reserved_from : (m : Meaning) → kind_of m ≡ Reserved → m ≡ entry.Reserved
reserved_from entry.Reserved is = refl
reserved_from entry.Absent is = absurd (cc)
reserved_from (entry.Leaf phys own) is = absurd (cc)
reserved_from (entry.Table number own) is = absurd (cc)

pub lowest_from : (depth : Depth) (level word bit : ℕ) → IsLowestReservedBit level word bit → IsReservedBitOf (x86 depth) level word bit
lowest_from depth level word bit is = record { set = is.is.set; is = is.is; lowest = λ other set reserved. is.lowest other reserved }

leaf_bounds : (level word phys : ℕ) (own : Rights) → meaning level word ≡ entry.Leaf phys own → (level ≤ 3) × (phys < 2 ^ 52)
leaf_bounds level word phys own is = grind arith

table_above : (level word number : ℕ) (own : Rights) → 1 ≤ level → meaning level word ≡ entry.Table number own → 1 < level
table_above level word number own some is = grind arith

table_means : (level number : ℕ) → 1 < level → number < 2 ^ 40 → meaning level (table_word number) ≡ entry.Table number all_rights
table_means level number above few = grind arith

same_kind : (level old new : ℕ) → 1 ≤ level → HasFlagsAt 5 old new → meaning level new ≡ meaning level old
same_kind zero old new some same = absurd (omega (arith, some))
same_kind (suc below) old new some same =
    let placed : IsAsPlaced old new = record { present = omega (arith, same.below); between = omega (arith, same.above) } in
    let write : bit_at new 1 ≡ bit_at old 1 = omega (arith, same.below) in
    let user : bit_at new 2 ≡ bit_at old 2 = omega (arith, same.below) in
    let fetch : bit_at new 63 ≡ bit_at old 63 = omega (arith, same.above) in
    means_with placed below
    ∙ ap (λ r. said (bit_at old 0 == 1) (has_reserved (suc below) old) (is_leaf (suc below) old) r
    (old % 2 ^ 52 / entry_bytes (suc below) * entry_bytes (suc below)) (old % 2 ^ 52 / 2 ^ 12)) (rights_same _ _ _ _ _ _ write user fetch)

pub x86_is : (depth : Depth) → IsFormat (x86 depth)
x86_is depth = record {
  some_level = some_levels depth;
  few_levels = few_levels depth;
  end_is = ends depth;
  empty = λ level. refl;
  table_level = λ level word number own some is. table_above level word number own some (table_from (meaning level word) number own is);
  leaf_level = λ level word phys own is. (leaf_bounds level word phys own (leaf_from (meaning level word) phys own is)).0;
  leaf_range = λ level word phys own is. (leaf_bounds level word phys own (leaf_from (meaning level word) phys own is)).1;
  leaf_reads = λ size phys own aligned in_range sayable. ap kind_of (leaf_reads size phys own (leaf_word size phys own) refl aligned in_range);
  table_reads = λ level number above high in_range. ap kind_of (table_means level number above (omega (arith, in_range)));
  flags_keep = λ level old new some same. ap kind_of (same_kind level old new some same);
}
