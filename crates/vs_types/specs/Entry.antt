-- What a page-table entry means (Intel SDM volume 3A, chapter "Paging": formats of paging-structure entries in 4-level
-- paging). CR0.WP = 1, EFER.NXE = 1; SMEP, SMAP and protection keys are off; physical addresses have 52 bits.
use Rattle.std.specs.Prelude.{ℕ, suc, zero, ◌+◌, ◌*◌, ◌/◌, ◌%◌, ◌^◌, Bool, true, cond, not, ◌||◌, ◌&&◌, ◌==◌, nat_le, if◌then◌else◌}
use Rattle.std.specs.Int.{bit_at}
use Rattle.vs_types.specs.Depth.{entry_bytes}
use Rattle.vs_types.specs.declared.addresses.page.Rights.{Rights}
use Rattle.vs_types.specs.declared.addresses.page.Size.{Size}
use Rattle.vs_types.specs.declared.addresses.page.Size.TheVariants.{K4, M2, G1}
use Rattle.vs_types.specs.declared.entries.entry.Meaning.{Meaning}
use Rattle.vs_types.specs.declared.entries.entry.Meaning.TheVariants.{Absent, Reserved, Table, Leaf}

abbrev is_set : ℕ → ℕ → Bool
is_set word bit = bit_at word bit == 1

-- bit 1 allows writes, bit 2 user accesses, and bit 63 forbids fetches
abbrev pub rights_of : ℕ → Rights
rights_of word = record { write = is_set word 1; user = is_set word 2; exec = not (is_set word 63) }

-- whether a present word maps a page: in a page table always, at the two levels above where bit 7 is set
abbrev pub is_leaf : ℕ → ℕ → Bool
is_leaf level word = (level == 1) || (nat_le level 3 && is_set word 7)

-- whether a present word has a reserved bit set. In a page of 2 MiB that is one of bits 20:13, in one of 1 GiB one of bits
-- 29:13, in one of 4 KiB none, and in an entry that maps no page bit 7
abbrev pub has_reserved : ℕ → ℕ → Bool
has_reserved level word = if is_leaf level word then not (word % entry_bytes level / 2 ^ 13 == 0) else is_set word 7

-- the physical address in a word: its bits below 52, from those of a multiple of this size on
abbrev address_in : ℕ → ℕ → ℕ
address_in bytes word = word % 2 ^ 52 / bytes * bytes

-- what a word means as an entry of a table of this level
abbrev pub meaning : ℕ → ℕ → Meaning
meaning level word =
    if not (is_set word 0) then Absent
    else if has_reserved level word then Reserved
    else if is_leaf level word then Leaf (address_in (entry_bytes level) word) (rights_of word)
    else Table (word % 2 ^ 52 / 2 ^ 12) (rights_of word)

-- the size of the pages that entries of this level map
abbrev pub size_at : ℕ → Size
size_at zero = K4
size_at (suc zero) = K4
size_at (suc (suc zero)) = M2
size_at (suc (suc (suc level))) = G1

-- all rights: to write, for users, and to execute
abbrev pub all_rights : Rights
all_rights = record { write = true; user = true; exec = true }

-- the word that is written for the table in this frame: present, with all rights
abbrev pub table_word : ℕ → ℕ
table_word number = number * 4096 + 7

-- the word that is written for a page: present, with its rights, its size above 4 KiB and its physical address
abbrev pub leaf_word : Size → ℕ → Rights → ℕ
leaf_word size phys rights =
    phys + 1 + cond rights.write (2 ^ 1) 0 + cond rights.user (2 ^ 2) 0 + large_bit size + cond rights.exec 0 (2 ^ 63) where
      large_bit : Size → ℕ
      large_bit K4 = 0
      large_bit M2 = 2 ^ 7
      large_bit G1 = 2 ^ 7
