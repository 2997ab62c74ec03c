-- How addresses are cut into levels (Intel SDM volume 3A, chapter "Paging": linear addresses, canonicality, and the
-- bits that index the table of each level).
use Rattle.std.specs.Prelude.{ℕ, ◌+◌, ◌-◌, ◌*◌, ◌/◌, ◌%◌, ◌^◌, Bool, ◌||◌, ◌&&◌, nat_lt, nat_le, IsTrue, if◌then◌else◌}
use Rattle.vs_types.specs.declared.addresses.depth.Depth.{Depth}
use Rattle.vs_types.specs.declared.addresses.depth.Depth.TheVariants.{Four, Five}

-- how many levels of tables a translation goes through; the root is the table of the highest
abbrev pub levels : Depth → ℕ
levels Four = 4
levels Five = 5

-- what one entry of a table of this level represents, in bytes
abbrev pub entry_bytes : ℕ → ℕ
entry_bytes level = 2 ^ (3 + 9 * level)

-- what a table of this level covers, in bytes: its 512 entries
abbrev pub table_bytes : ℕ → ℕ
table_bytes level = 2 ^ (12 + 9 * level)

-- the index of an address in a table of this level
abbrev pub index_at : ℕ → ℕ → ℕ
index_at level address = address / entry_bytes level % 512

-- half of the addresses that are translated: the low half begins at 0, the high half ends below 2 ^ 64
abbrev pub half_bytes : Depth → ℕ
half_bytes depth = 2 ^ (12 + 9 * levels depth - 1)

-- whether all bits above the translated ones equal the highest translated one
abbrev pub is_canonical : Depth → ℕ → Bool
is_canonical depth address = nat_lt address (half_bytes depth) || (nat_le (2 ^ 64 - half_bytes depth) address && nat_lt address (2 ^ 64))

abbrev pub IsCanonical : Depth → ℕ → Type 0
IsCanonical depth address = IsTrue (is_canonical depth address)

-- the address whose translated bits these are: the bits above repeat the highest of them
abbrev pub canonical_from : Depth → ℕ → ℕ
canonical_from depth bits = if nat_lt bits (half_bytes depth) then bits else bits + (2 ^ 64 - 2 * half_bytes depth)
