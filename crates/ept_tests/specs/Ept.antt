-- What an entry of extended page tables means (Intel SDM volume 3C, chapter "VMX Support for Address Translation": formats of EPT
-- paging-structure entries, misconfigurations). A page walk has four levels, a physical address 46 bits; entries may allow to execute
-- alone. Memory types are not looked at.
use Rattle.std.specs.Prelude.{◌≡◌, ℕ, ◌+◌, ◌*◌, ◌/◌, ◌%◌, ◌^◌, ◌<◌, ◌≤◌, ◌⊎◌, Bool, true, cond, not, ◌||◌, ◌&&◌, ◌==◌, MatchBool, nat_le, nat_lt, if◌then◌else◌}
use Rattle.std.specs.Int.{bit_at}
use Rattle.vs_types.specs.Depth.{entry_bytes}
use Rattle.vs_types.specs.Format.{Format}
use Rattle.vs_types.specs.declared.addresses.page.Size.{Size}
use Rattle.vs_types.specs.declared.addresses.page.Size.TheVariants.{K4, M2, G1}
use Rattle.vs_types.specs.declared.entries.kind.EntryKind.{EntryKind}
use Rattle.vs_types.specs.declared.entries.kind.EntryKind.TheVariants.{Absent, Reserved, Table, Leaf}
use Rattle.ept_tests.specs.declared.guest.Ept.{Ept}
use Rattle.ept_tests.specs.declared.guest.EptRights.{EptRights}
use Rattle.ept_tests.specs.declared.guest.GuestPage.{GuestPage}

abbrev pub is_set : ℕ → ℕ → Bool
is_set word bit = bit_at word bit == 1

-- bit 0 allows reads, bit 1 writes, and bit 2 to execute; with mode-based control bit 2 is for supervisor mode, and bit 10 for user mode
abbrev pub rights_of : Ept → ℕ → EptRights
rights_of ept word = record {
  read = is_set word 0;
  write = is_set word 1;
  execute = is_set word 2;
  user_execute = if ept.by_mode then is_set word 10 else is_set word 2;
}

-- whether an entry is present: it allows anything
abbrev pub is_present : Ept → ℕ → Bool
is_present ept word = is_set word 0 || is_set word 1 || is_set word 2 || (ept.by_mode && is_set word 10)

-- whether a present word maps a page: in a page table always, at the two levels above where bit 7 is set
abbrev pub is_leaf : ℕ → ℕ → Bool
is_leaf level word = (level == 1) || (nat_le level 3 && is_set word 7)

-- whether a present word allows writes and no reads
abbrev pub writes_alone : ℕ → Bool
writes_alone word = not (is_set word 0) && is_set word 1

-- whether it has a reserved bit set: one of bits 51:46. In a page of 2 MiB bits 20:12 are reserved, in one of 1 GiB bits 29:12, and in an entry
-- that maps no page bits 7:3
abbrev pub has_reserved : ℕ → ℕ → Bool
has_reserved level word =
    writes_alone word || not (word % 2 ^ 52 / 2 ^ 46 == 0)
    || (if is_leaf level word then not (word % entry_bytes level / 2 ^ 12 == 0) else not (word % 2 ^ 8 / 2 ^ 3 == 0))

-- what a word is in a table of this level
abbrev pub kind : Ept → ℕ → ℕ → EntryKind EptRights
kind ept level word =
    if not (is_present ept word) then Absent
    else if has_reserved level word then Reserved
    else if is_leaf level word then Leaf (word % 2 ^ 52 / entry_bytes level * entry_bytes level) (rights_of ept word)
    else Table (word % 2 ^ 52 / 2 ^ 12) (rights_of ept word)

-- whether a bit is reserved in a word of a table of this level: bit 1 where bit 0 is not set, and those above
abbrev pub IsReserved : ℕ → ℕ → ℕ → Type 0
IsReserved level word bit =
    ((bit ≡ 1) × (bit_at word 0 ≡ 0)) ⊎ ((46 ≤ bit) × (bit < 52))
    ⊎ MatchBool (is_leaf level word) ((12 ≤ bit) × (bit < 3 + 9 * level)) ((3 ≤ bit) × (bit < 8))

-- all rights
abbrev pub all_rights : EptRights
all_rights = record { read = true; write = true; execute = true; user_execute = true }

-- the rights that two entries both allow
abbrev pub both : EptRights → EptRights → EptRights
both a b = record {
  read = a.read && b.read;
  write = a.write && b.write;
  execute = a.execute && b.execute;
  user_execute = a.user_execute && b.user_execute;
}

-- the bits of rights
abbrev pub rights_bits : Ept → EptRights → ℕ
rights_bits ept own = cond own.read (2 ^ 0) 0 + cond own.write (2 ^ 1) 0 + cond own.execute (2 ^ 2) 0 + cond (ept.by_mode && own.user_execute) (2 ^ 10) 0

-- whether an entry that is present can allow just these: some, no writes without reads, and without mode-based control the same in both modes
abbrev pub can_say : Ept → EptRights → Bool
can_say ept own = (own.read || (not own.write && (own.execute || own.user_execute))) && (ept.by_mode || are_equal own.execute own.user_execute) where
  are_equal : Bool → Bool → Bool
  are_equal a b = if a then b else not b

-- the words that are written for a page and for a table
abbrev pub leaf_word : Ept → Size → ℕ → EptRights → ℕ
leaf_word ept size phys own = phys + rights_bits ept own + large_bit size where
  large_bit : Size → ℕ
  large_bit K4 = 0
  large_bit M2 = 2 ^ 7
  large_bit G1 = 2 ^ 7

abbrev pub table_word : Ept → ℕ → ℕ
table_word ept number = number * 4096 + rights_bits ept all_rights

-- the format of these tables. Addresses are not sign-extended: they end at 2 ^ 48
abbrev pub format : Ept → Format EptRights GuestPage
format ept = record {
  levels = 4;
  end = 2 ^ 48;
  is_address = λ address. nat_lt address (2 ^ 48);
  address_at = λ bits. bits;
  all = all_rights;
  both = both;
  can_say = can_say ept;
  page = λ base size phys rights. record { base = base; size = size; phys = phys; rights = rights };
  kind = kind ept;
  IsReserved = IsReserved;
  limit = 2 ^ 46;
  leaf = leaf_word ept;
  table = table_word ept;
  accessed = 8;
}
