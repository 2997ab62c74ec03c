-- Where the entries of a table are absent, no page lies.
use Rattle.std.proofs.Common.{◌≡◌, ℕ, suc, ◌+◌, ◌-◌, ◌*◌, ◌/◌, ◌%◌, ◌^◌, ◌<◌, ◌≤◌, List, Some, refl, ap, ◌∙◌, arith}
use Rattle.std.specs.Prelude.{slice_index}
use Rattle.std.specs.FinMap as finite
use Rattle.vs_types.specs.Depth.{levels, entry_bytes, table_bytes, index_at}
use Rattle.vs_types.specs.declared.addresses.depth.Depth.{Depth}
use Rattle.vs_types.specs.declared.addresses.page.Rights.{Rights}
use Rattle.vs_types.specs.declared.entries.entry.Meaning.TheVariants as entry
use Rattle.vs_walk.specs.Memory.{Memory}
use Rattle.vs_walk.specs.Walk.{walk}
use Rattle.vs_walk.specs.declared.walk.Walk.TheVariants.{NotMapped}
use Rattle.vs_space.specs.Held.{word_at}
use Rattle.vs_space.proofs.Regions.{stretch_same}
use Rattle.vs_space.proofs.Written.{word_of}
use Rattle.vs_plan.specs.Way.{IsWay}
use Rattle.vs_plan.proofs.Stored.{found_word, even_absent}
use Rattle.vs_plan.proofs.Ways.{way_shared, walk_at}

-- an address that so many entries of a table represent, from that for the base on
pub record IsBehind (level base address count : ℕ) : Type 0 where
  pub number : ℕ
  pub few : number < count
  pub index : index_at level address ≡ index_at level base + number
  pub stretch : base / table_bytes level ≡ address / table_bytes level

is_behind : (level base address count : ℕ) → 1 ≤ level → level ≤ 5 → index_at level base + count ≤ 512 → base ≤ address
    → address < base + (count * entry_bytes level - base % entry_bytes level) → base % entry_bytes level ≤ count * entry_bytes level
    → IsBehind level base address count
is_behind (suc (suc (suc (suc (suc (suc level)))))) base address count some few room low high left = absurd (omega arith)
is_behind (suc (suc (suc (suc (suc level))))) base address count some few room low high left = record {
  number = address / 281474976710656 - base / 281474976710656;
  few = omega arith;
  index = omega arith;
  stretch = omega arith;
}
is_behind (suc (suc (suc (suc level)))) base address count some few room low high left = record {
  number = address / 549755813888 - base / 549755813888;
  few = omega arith;
  index = omega arith;
  stretch = omega arith;
}
is_behind (suc (suc (suc level))) base address count some few room low high left = record {
  number = address / 1073741824 - base / 1073741824;
  few = omega arith;
  index = omega arith;
  stretch = omega arith;
}
is_behind (suc (suc level)) base address count some few room low high left = record {
  number = address / 2097152 - base / 2097152;
  few = omega arith;
  index = omega arith;
  stretch = omega arith;
}
is_behind (suc level) base address count some few room low high left = record {
  number = address / 4096 - base / 4096;
  few = omega arith;
  index = omega arith;
  stretch = omega arith;
}
is_behind level base address count some few room low high left = absurd (omega arith)

-- what is left of an entry from an address on is less than the entry, and of so many entries something is left
pub rest_low : (level base : ℕ) → 1 ≤ level → level ≤ 5 → base % entry_bytes level < entry_bytes level
rest_low (suc (suc (suc (suc (suc (suc level)))))) base some few = absurd (omega arith)
rest_low (suc (suc (suc (suc (suc level))))) base some few = omega arith
rest_low (suc (suc (suc (suc level)))) base some few = omega arith
rest_low (suc (suc (suc level))) base some few = omega arith
rest_low (suc (suc level)) base some few = omega arith
rest_low (suc level) base some few = omega arith
rest_low level base some few = absurd (omega arith)

pub some_left : (count bytes rest : ℕ) → 1 ≤ count → rest < bytes → rest < count * bytes
some_left (suc count) bytes rest some low = omega arith
some_left count bytes rest some low = absurd (omega arith)

pub entries_fit : (level count : ℕ) → 1 ≤ level → level ≤ 5 → count ≤ 512 → count * entry_bytes level ≤ 2 ^ 57
entries_fit (suc (suc (suc (suc (suc (suc level)))))) count some few low = absurd (omega arith)
entries_fit (suc (suc (suc (suc (suc level))))) count some few low = omega arith
entries_fit (suc (suc (suc (suc level)))) count some few low = omega arith
entries_fit (suc (suc (suc level))) count some few low = omega arith
entries_fit (suc (suc level)) count some few low = omega arith
entries_fit (suc level) count some few low = omega arith
entries_fit level count some few low = absurd (omega arith)

-- the first address behind so many entries, from that of an address on: it is a multiple of an entry's bytes, and the table ends there, or its next
-- entry is for that address
pub whole_end : (level base count : ℕ) → 1 ≤ level → level ≤ 5 → base % entry_bytes level < count * entry_bytes level
    → (base + (count * entry_bytes level - base % entry_bytes level)) % entry_bytes level ≡ 0
whole_end (suc (suc (suc (suc (suc (suc level)))))) base count some few left = absurd (omega arith)
whole_end (suc (suc (suc (suc (suc level))))) base count some few left = omega arith
whole_end (suc (suc (suc (suc level)))) base count some few left = omega arith
whole_end (suc (suc (suc level))) base count some few left = omega arith
whole_end (suc (suc level)) base count some few left = omega arith
whole_end (suc level) base count some few left = omega arith
whole_end level base count some few left = absurd (omega arith)

pub table_end : (level base count : ℕ) → 1 ≤ level → level ≤ 5 → base % entry_bytes level < count * entry_bytes level
    → index_at level base + count ≡ 512 → (base + (count * entry_bytes level - base % entry_bytes level)) % table_bytes level ≡ 0
table_end (suc (suc (suc (suc (suc (suc level)))))) base count some few left all = absurd (omega arith)
table_end (suc (suc (suc (suc (suc level))))) base count some few left all = omega arith
table_end (suc (suc (suc (suc level)))) base count some few left all = omega arith
table_end (suc (suc (suc level))) base count some few left all = omega arith
table_end (suc (suc level)) base count some few left all = omega arith
table_end (suc level) base count some few left all = omega arith
table_end level base count some few left all = absurd (omega arith)

pub next_index : (level base count : ℕ) → 1 ≤ level → level ≤ 5 → base % entry_bytes level < count * entry_bytes level
    → index_at level base + count < 512
    → index_at level (base + (count * entry_bytes level - base % entry_bytes level)) ≡ index_at level base + count
next_index (suc (suc (suc (suc (suc (suc level)))))) base count some few left less = absurd (omega arith)
next_index (suc (suc (suc (suc (suc level))))) base count some few left less = omega arith
next_index (suc (suc (suc (suc level)))) base count some few left less = omega arith
next_index (suc (suc (suc level))) base count some few left less = omega arith
next_index (suc (suc level)) base count some few left less = omega arith
next_index (suc level) base count some few left less = omega arith
next_index level base count some few left less = absurd (omega arith)

module _ (depth : Depth) (m : Memory) (root base level number : ℕ) (rights : Rights) (way : IsWay depth m root base level number rights)
    (some : 1 ≤ level) (few : level ≤ 5) (words : List ℕ) (got : finite.get m number ≡ Some words) (count : ℕ) (room : index_at level base + count ≤ 512)
    (absent : (k : ℕ) → k < count → slice_index words (index_at level base + k) % 2 ≡ 0) where
  behind_nothing : (address : ℕ) → IsBehind level base address count → walk depth m root address ≡ NotMapped
  behind_nothing address behind =
      let word = slice_index words (index_at level base + behind.number) in
      let told : word_at m number (index_at level address) ≡ Some (slice_index words (index_at level base + behind.number)) =
      ap (word_at m number) behind.index ∙ word_of m number (index_at level base + behind.number) (Some words) got in
      walk_at (way_shared address level number rights way (stretch_same (levels depth) level base address behind.stretch)) some entry.Absent
      (found_word level m number address word told ∙ ap Some (even_absent level word (absent behind.number behind.few))) address (λ i from to. refl)

  pub hole : 1 ≤ count → (address : ℕ) → base ≤ address → address < base + (count * entry_bytes level - base % entry_bytes level)
      → walk depth m root address ≡ NotMapped
  hole many address low high =
      let left = some_left count (entry_bytes level) (base % entry_bytes level) many (rest_low level base some few) in
      behind_nothing address (is_behind level base address count some few room low high (omega arith))
