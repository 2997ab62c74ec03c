-- Formats of page-table entries: what a format says, what is so in each of them, and the format of x86's own tables.
use Rattle.std.specs.Prelude.{◌≡◌, ℕ, ◌+◌, ◌*◌, ◌/◌, ◌%◌, ◌^◌, ◌<◌, ◌≤◌, Bool, true, IsTrue}
use Rattle.std.specs.Int.{bit_at}
use Rattle.vs_types.specs.Bits.{IsReservedBit}
use Rattle.vs_types.specs.Depth.{canonical_from, half_bytes, is_canonical, levels}
use Rattle.vs_types.specs.Entry.{all_rights, leaf_word, meaning, table_word}
use Rattle.vs_types.specs.Page.{bytes_of, intersection, level_of}
use Rattle.vs_types.specs.declared.addresses.depth.Depth.{Depth}
use Rattle.vs_types.specs.declared.addresses.page.Page.{Page}
use Rattle.vs_types.specs.declared.addresses.page.Rights.{Rights}
use Rattle.vs_types.specs.declared.addresses.page.Size.{Size}
use Rattle.vs_types.specs.declared.entries.entry.Meaning.{Meaning}
use Rattle.vs_types.specs.declared.entries.entry.Meaning.TheVariants as entry
use Rattle.vs_types.specs.declared.entries.kind.EntryKind.{EntryKind}
use Rattle.vs_types.specs.declared.entries.kind.EntryKind.TheVariants.{Absent, Reserved, Table, Leaf}

-- a format whose entries allow rights, and whose tables map pages, of these types
pub record Format (R P : Type 0) : Type 1 where
  -- how many levels of tables there are, and where the translated bits end
  pub levels : ℕ
  pub end : ℕ
  -- which addresses there are, and the one whose translated bits are these
  pub is_address : ℕ → Bool
  pub address_at : ℕ → ℕ
  -- the rights where no entry takes one away, what two entries allow together, and whether the entry of a page can allow these
  pub all : R
  pub both : R → R → R
  pub can_say : R → Bool
  -- the page of this address, size, physical address and rights
  pub page : ℕ → Size → ℕ → R → P
  -- what a word is in a table of a level, and whether a bit is reserved there
  pub kind : ℕ → ℕ → EntryKind R
  pub IsReserved : ℕ → ℕ → ℕ → Type 0
  -- the first physical address that there isn't, and the words that are written for pages and tables
  pub limit : ℕ
  pub leaf : Size → ℕ → R → ℕ
  pub table : ℕ → ℕ
  -- the accessed flag; the dirty flag is the bit above
  pub accessed : ℕ

-- the bit is set in the word and reserved in an entry of this level, and no lower one is
pub record IsReservedBitOf {R P : Type 0} (f : Format R P) (level word bit : ℕ) : Type 0 where
  pub set : bit_at word bit ≡ 1
  pub is : f.IsReserved level word bit
  pub lowest : (other : ℕ) → bit_at word other ≡ 1 → f.IsReserved level word other → bit ≤ other

-- but for the two flags the words are equal
pub record HasFlagsAt (accessed old new : ℕ) : Type 0 where
  pub below : old % 2 ^ accessed ≡ new % 2 ^ accessed
  pub above : old / 2 ^ (accessed + 2) ≡ new / 2 ^ (accessed + 2)

-- what is so in each format
pub record IsFormat {R P : Type 0} (f : Format R P) : Type 0 where
  pub some_level : 1 ≤ f.levels
  pub few_levels : f.levels ≤ 5
  pub end_is : f.end ≡ 2 ^ (12 + 9 * f.levels)
  -- 0 is absent
  pub empty : (level : ℕ) → f.kind level 0 ≡ Absent
  -- an entry of the lowest level leads to no table; pages are in the tables of the three lowest levels, and below the limit
  pub table_level : (level word number : ℕ) (own : R) → 1 ≤ level → f.kind level word ≡ Table number own → 1 < level
  pub leaf_level : (level word phys : ℕ) (own : R) → f.kind level word ≡ Leaf phys own → level ≤ 3
  pub leaf_range : (level word phys : ℕ) (own : R) → f.kind level word ≡ Leaf phys own → phys < 2 ^ 52
  -- what is written reads back, and the word of a table allows all
  pub leaf_reads : (size : Size) (phys : ℕ) (own : R) → phys % bytes_of size ≡ 0 → phys < f.limit → IsTrue (f.can_say own)
      → f.kind (level_of size) (f.leaf size phys own) ≡ Leaf phys own
  pub table_reads : (level number : ℕ) → 1 < level → level ≤ f.levels → number * 4096 < f.limit → f.kind level (f.table number) ≡ Table number f.all
  -- flags keep the meaning
  pub flags_keep : (level old new : ℕ) → 1 ≤ level → HasFlagsAt f.accessed old new → f.kind level new ≡ f.kind level old

-- ---- x86

-- what an entry of x86 says is what it is
abbrev pub kind_of : Meaning → EntryKind Rights
kind_of entry.Absent = Absent
kind_of entry.Reserved = Reserved
kind_of (entry.Table number own) = Table number own
kind_of (entry.Leaf phys own) = Leaf phys own

-- the format of the tables of this depth
abbrev pub x86 : Depth → Format Rights Page
x86 depth = record {
  levels = levels depth;
  end = 2 * half_bytes depth;
  is_address = is_canonical depth;
  address_at = canonical_from depth;
  all = all_rights;
  both = intersection;
  can_say = λ own. true;
  page = λ base size phys rights. record { base = base; size = size; rights = rights; phys = phys };
  kind = λ level word. kind_of (meaning level word);
  IsReserved = IsReservedBit;
  limit = 2 ^ 52;
  leaf = leaf_word;
  table = table_word;
  accessed = 5;
}
