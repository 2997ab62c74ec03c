-- The bits of an entry: those beside its address and its rights, those that are written, and rights as bits (Intel SDM volume 3A, chapter
-- "Paging": formats of paging-structure entries). Those beside address and rights are one word, at the places of an entry of 4 KiB: 3 PWT,
-- 4 PCD, 5 accessed, 6 dirty, 7 PAT, 8 global, 11:9 and 58:52 for software, 62:59 the protection key.
use Rattle.std.specs.Prelude.{◌≡◌, ℕ, ◌+◌, ◌-◌, ◌*◌, ◌/◌, ◌%◌, ◌^◌, ◌<◌, ◌≤◌, ◌==◌, MatchBool, cond, nat_eq, if◌then◌else◌}
use Rattle.std.specs.Int.{bit_at}
use Rattle.vs_types.specs.Entry.{is_leaf, leaf_word, meaning, size_at, table_word}
use Rattle.vs_types.specs.Page.{bytes_of}
use Rattle.vs_types.specs.declared.entries.entry.Meaning.{Meaning}
use Rattle.vs_types.specs.declared.entries.entry.Meaning.TheVariants as entry
use Rattle.vs_types.specs.declared.addresses.page.Page.{Page}
use Rattle.vs_types.specs.declared.addresses.page.Rights.{Rights}
use Rattle.vs_types.specs.declared.addresses.page.Size.{Size}
use Rattle.vs_types.specs.declared.addresses.page.Size.TheVariants.{K4, M2, G1}

-- no bit is set but these
pub record AreBits (bits : ℕ) : Type 0 where
  pub above : bits % 2 ^ 3 ≡ 0
  pub low : bits % 2 ^ 52 < 2 ^ 12
  pub high : bits < 2 ^ 63

-- these bits in the entry of a page of this size: above 4 KiB PAT is bit 12
abbrev pub placed : Size → ℕ → ℕ
placed K4 bits = bits
placed M2 bits = bits + bit_at bits 7 * (2 ^ 12 - 2 ^ 7)
placed G1 bits = bits + bit_at bits 7 * (2 ^ 12 - 2 ^ 7)

-- the entry of a page with these bits
abbrev pub page_word : Page → ℕ → ℕ
page_word page bits = leaf_word page.size page.phys page.rights + placed page.size bits

-- the bits of the entry of a page of this size
abbrev pub bits_in : Size → ℕ → ℕ
bits_in K4 word = word % 2 ^ 12 / 2 ^ 3 * 2 ^ 3 + word / 2 ^ 52 % 2 ^ 11 * 2 ^ 52
bits_in M2 word = word % 2 ^ 7 / 2 ^ 3 * 2 ^ 3 + bit_at word 12 * 2 ^ 7 + word % 2 ^ 12 / 2 ^ 8 * 2 ^ 8 + word / 2 ^ 52 % 2 ^ 11 * 2 ^ 52
bits_in G1 word = word % 2 ^ 7 / 2 ^ 3 * 2 ^ 3 + bit_at word 12 * 2 ^ 7 + word % 2 ^ 12 / 2 ^ 8 * 2 ^ 8 + word / 2 ^ 52 % 2 ^ 11 * 2 ^ 52

-- the entry with these rights, in bits 1, 2 and 63; its bit 0 and its bits 62:3 are as they were
abbrev pub with_rights : ℕ → Rights → ℕ
with_rights word rights =
    word % 2 + cond rights.write (2 ^ 1) 0 + cond rights.user (2 ^ 2) 0 + word % 2 ^ 63 / 2 ^ 3 * 2 ^ 3 + cond rights.exec 0 (2 ^ 63)

-- the entry of a page of this size with this physical address, in its bits 51:12 (above 4 KiB 51:21, 51:30); its other bits are as they were
abbrev pub with_address : Size → ℕ → ℕ → ℕ
with_address size word phys = word % bytes_of size + phys + word / 2 ^ 52 * 2 ^ 52

-- a word without its accessed and its dirty flag
abbrev pub unflagged : ℕ → ℕ
unflagged word = word % 2 ^ 5 + word / 2 ^ 7 * 2 ^ 7

-- a word with its accessed and its dirty flag
abbrev pub flagged : ℕ → ℕ
flagged word = unflagged word + 3 * 2 ^ 5

-- the accessed and the dirty flag of a word, as they are in it: bits 5 and 6
abbrev pub flags_in : ℕ → ℕ
flags_in word = bit_at word 5 * 2 ^ 5 + bit_at word 6 * 2 ^ 6

-- the word was an entry that is present, and but for the two flags it is as it was
pub record HasFlagsSet (old new : ℕ) : Type 0 where
  pub present : old % 2 ≡ 1
  pub below : old % 2 ^ 5 ≡ new % 2 ^ 5
  pub above : old / 2 ^ 7 ≡ new / 2 ^ 7

-- a number with the flags of a word
abbrev pub flags_into : ℕ → ℕ → ℕ
flags_into word number = number % 2 ^ 5 + word % 2 ^ 7 / 2 ^ 5 * 2 ^ 5 + number / 2 ^ 7 * 2 ^ 7

-- an entry with the flags of a word; what is not present stays
abbrev pub with_flags_of : ℕ → ℕ → ℕ
with_flags_of word old = if nat_eq (old % 2) 0 then old else flags_into word old

-- ---- words that are written

-- the word that is written for what an entry of this level says, with these flags: 0, or that of a table or of a page; none that says
-- Reserved is written
abbrev pub word_for : ℕ → Meaning → ℕ → ℕ
word_for level entry.Absent flags = 0
word_for level entry.Reserved flags = 0
word_for level (entry.Table number own) flags = table_word number + flags
word_for level (entry.Leaf phys own) flags = leaf_word (size_at level) phys own + flags

-- a word is the one that is written for what it says at this level, with the flags that it has
pub record IsWritten (level word : ℕ) : Type 0 where
  pub is : word ≡ word_for level (meaning level word) (flags_in word)

-- ---- what entries allow together

-- the rights that bits 1 for writes, 2 for user accesses and 63 for fetches allow
abbrev pub rights_at : ℕ → Rights
rights_at bits = record { write = bit_at bits 1 == 1; user = bit_at bits 2 == 1; exec = bit_at bits 63 == 1 }

-- the bits of rights, as an entry has them
abbrev pub rights_bits : Rights → ℕ
rights_bits rights = cond rights.write (2 ^ 1) 0 + cond rights.user (2 ^ 2) 0 + cond rights.exec 0 (2 ^ 63)

-- ---- reserved bits

-- the bit is set in the word, and reserved in an entry of this level. In one that maps a page it is any from 13 to below the bits of an
-- address in the page, in one that maps none bit 7
pub record IsReservedBit (level word bit : ℕ) : Type 0 where
  pub set : bit_at word bit ≡ 1
  pub reserved : MatchBool (is_leaf level word) ((13 ≤ bit) × (bit < 3 + 9 * level)) (bit ≡ 7)

-- it is the lowest such bit of the word
pub record IsLowestReservedBit (level word bit : ℕ) : Type 0 where
  pub is : IsReservedBit level word bit
  pub lowest : (other : ℕ) → IsReservedBit level word other → bit ≤ other
