-- The pages that are found in a table lie in what it covers, by rising bases; and the walk of an address is what the page
-- that covers it says.
use Rattle.std.proofs.Common.{◌≡◌, ℕ, zero, suc, ◌+◌, ◌*◌, ◌%◌, ◌^◌, ◌<◌, ◌≤◌, [], Some, None, get_or, flat_map, refl, sym, ap, subst, ◌∙◌, arith, add-zero}
use Rattle.std.specs.Prelude.{All}
use Rattle.std.specs.FinMap as finite
use Rattle.std.specs.List.{enumerate_from}
use Rattle.std.proofs.lemmas.Nat.{mod-mul-add, row_fits}
use Rattle.std.proofs.lemmas.List.Elements.{All-nil, All-cons, All-weaker}
use Rattle.vs_types.specs.Depth.{entry_bytes, table_bytes}
use Rattle.vs_types.specs.Page.{bytes_of, intersection}
use Rattle.vs_types.specs.Entry.{meaning, size_at}
use Rattle.vs_types.specs.declared.addresses.depth.Depth.{Depth}
use Rattle.vs_types.specs.declared.addresses.page.Page.{Page}
use Rattle.vs_types.specs.declared.addresses.page.Rights.{Rights}
use Rattle.vs_types.specs.declared.entries.entry.Meaning.{Meaning}
use Rattle.vs_types.specs.declared.entries.entry.Meaning.TheVariants as entry
use Rattle.vs_walk.specs.Memory.{Memory, AreWhole}
use Rattle.vs_walk.specs.Traversal.{Visit, OfFrame, OfLeaf, OfReservedBit, ReachedTable, canonical_from, entry_visits, table_visits}
use Rattle.vs_walk.proofs.LawsOfLists.{all_at_words}
use Rattle.vs_walk.proofs.TranslatedBits.{entry_is_table, table_is_entries, entry_some, leaf_bytes, leaf_lies}
use Rattle.vs_walk.proofs.LawsOfVisits.{at_word_met, table_met, missing_met, nothing_met, OfFound}

-- the page's translated bits begin at low or above and end at high or below; it is well formed but for its base
pub record LiesIn (depth : Depth) (low high : ℕ) (page : Page) : Type 0 where
  pub bits : ℕ
  pub begins : page.base ≡ canonical_from depth bits
  pub above : low ≤ bits
  pub below : bits + bytes_of page.size ≤ high
  pub aligned : bits % bytes_of page.size ≡ 0
  pub phys_aligned : page.phys % bytes_of page.size ≡ 0
  pub phys_range : page.phys + bytes_of page.size ≤ 2 ^ 52

pub lies_wider : {depth : Depth} {page : Page} (low high lower higher : ℕ) → lower ≤ low → high ≤ higher → LiesIn depth low high page
    → LiesIn depth lower higher page
lies_wider {depth} {page} low high lower higher down up lies = record {
  bits = lies.bits;
  begins = lies.begins;
  above = chain lower low lies.bits down lies.above;
  below = chain (lies.bits + bytes_of page.size) high higher lies.below up;
  aligned = lies.aligned;
  phys_aligned = lies.phys_aligned;
  phys_range = lies.phys_range;
}
  where
    chain : (a b c : ℕ) → a ≤ b → b ≤ c → a ≤ c
    chain a b c p q = omega arith

-- a table begins at a multiple of what it covers
pub record IsPlaced (level : ℕ) (table : ReachedTable) : Type 0 where
  pub times : ℕ
  pub at : table.start ≡ times * table_bytes level

-- the table below an entry
pub place_below : (level : ℕ) (table : ReachedTable) (index number : ℕ) (own : Rights) → IsPlaced (suc level) table
    → IsPlaced level (record { number = number; start = table.start + index * entry_bytes (suc level); rights = intersection table.rights own })
place_below level table index number own placed = record {
  times = placed.times * 512 + index;
  at = regroup table.start placed.times (table_bytes (suc level)) (entry_bytes (suc level)) index placed.at (table_is_entries level)
      ∙ ap (λ n. (placed.times * 512 + index) * n) (entry_is_table level);
}
  where
    regroup : (start times whole bytes index : ℕ) → start ≡ times * whole → whole ≡ 512 * bytes → start + index * bytes ≡ (times * 512 + index) * bytes
    regroup start times whole bytes index at is = let here : start ≡ times * (512 * bytes) = at ∙ ap (λ n. times * n) is in omega arith

-- what is found at an entry lies in what the entry represents
abbrev pub EntryLies : Depth → ℕ → ReachedTable → ℕ → Visit → Type 0
EntryLies depth level table index = OfFound (LiesIn depth (table.start + index * entry_bytes (suc level))
    (table.start + index * entry_bytes (suc level) + entry_bytes (suc level)))

abbrev pub TableLies : Depth → ℕ → ReachedTable → Visit → Type 0
TableLies depth level table = OfFound (LiesIn depth table.start (table.start + table_bytes level))

pub wider : (depth : Depth) (low high lower higher : ℕ) → lower ≤ low → high ≤ higher → (visit : Visit) → OfFound (LiesIn depth low high) visit
    → OfFound (LiesIn depth lower higher) visit
wider depth low high lower higher down up (OfLeaf page) lies = lies_wider low high lower higher down up lies
wider depth low high lower higher down up _ lies = tt

-- a leaf's page begins at a multiple of its bytes
pub leaf_aligned : (level : ℕ) (table : ReachedTable) (index word phys : ℕ) (own : Rights) → IsPlaced (suc level) table
    → meaning (suc level) word ≡ entry.Leaf phys own → (table.start + index * entry_bytes (suc level)) % bytes_of (size_at (suc level)) ≡ 0
leaf_aligned level table index word phys own placed is =
    let below = place_below level table index 0 own placed in
    ap (λ n. (table.start + index * entry_bytes (suc level)) % n) (leaf_bytes level word phys own is ∙ entry_is_table level)
    ∙ multiple (table.start + index * entry_bytes (suc level)) below.times (table_bytes level)
    (subst (λ n. 0 < n) (entry_is_table level) (entry_some (suc level))) below.at
  where
    multiple : (start times bytes : ℕ) → 0 < bytes → start ≡ times * bytes → start % bytes ≡ 0
    multiple start times bytes some is = ap (λ n. n % bytes) (is ∙ sym (add-zero _)) ∙ mod-mul-add times bytes 0 some

leaf_in : (depth : Depth) (level : ℕ) (table : ReachedTable) (index word phys : ℕ) (own : Rights) → IsPlaced (suc level) table
    → meaning (suc level) word ≡ entry.Leaf phys own → LiesIn depth (table.start + index * entry_bytes (suc level))
    (table.start + index * entry_bytes (suc level) + entry_bytes (suc level))
    (record {
      base = canonical_from depth (table.start + index * entry_bytes (suc level));
      size = size_at (suc level);
      phys = phys;
      rights =
          intersection table.rights own;
    })
leaf_in depth level table index word phys own placed is =
    let bytes = leaf_bytes level word phys own is in
    let lies = leaf_lies level word phys own is in
    record {
      bits = table.start + index * entry_bytes (suc level);
      begins = refl;
      above = omega arith;
      below = same_end (table.start + index * entry_bytes (suc level)) (bytes_of (size_at (suc level))) (entry_bytes (suc level)) bytes;
      aligned = leaf_aligned level table index word phys own placed is;
      phys_aligned = ap (λ n. phys % n) bytes ∙ lies.0;
      phys_range = subst (λ n. phys + n ≤ 2 ^ 52) (sym bytes) lies.1;
    }
  where
    same_end : (start bytes other : ℕ) → bytes ≡ other → start + bytes ≤ start + other
    same_end start bytes other is = omega arith

entry_in : (depth : Depth) (memory : Memory) (level : ℕ) (table : ReachedTable) (index word : ℕ) (found : Meaning) → IsPlaced (suc level) table
    → ((next : ReachedTable) → IsPlaced level next → All (TableLies depth level next) (table_visits depth memory level next))
    → meaning (suc level) word ≡ found → All (EntryLies depth level table index)
    (entry_visits depth (suc level) table index (λ next. table_visits depth memory level next) found)
entry_in depth memory level table index word entry.Absent placed lower is = All-nil _
entry_in depth memory level table index word entry.Reserved placed lower is =
    All-cons (EntryLies depth level table index) (OfReservedBit table.number index) [] tt (All-nil _)
entry_in depth memory level table index word (entry.Leaf phys own) placed lower is =
    All-cons (EntryLies depth level table index) _ [] (leaf_in depth level table index word phys own placed is) (All-nil _)
entry_in depth memory level table index word (entry.Table number own) placed lower is =
    subst (λ bytes. All (OfFound (LiesIn depth (table.start + index * entry_bytes (suc level)) (table.start + index * entry_bytes (suc level) + bytes)))
    (table_visits depth memory level (record {
      number = number;
      start = table.start + index * entry_bytes (suc level);
      rights =
          intersection table.rights own;
    })))
    (sym (entry_is_table level))
    (lower (record { number = number; start = table.start + index * entry_bytes (suc level); rights = intersection table.rights own })
    (place_below level table index number own placed))

pub entry_fits : (level start index : ℕ) → index < 512 → start + index * entry_bytes (suc level) + entry_bytes (suc level) ≤ start + table_bytes (suc level)
entry_fits level start index lt = sums start (index * entry_bytes (suc level)) (entry_bytes (suc level)) (table_bytes (suc level))
    (row_fits index (entry_bytes (suc level)) 512 (entry_bytes (suc level)) lt (omega arith)) (table_is_entries level) where
      sums : (start a b whole : ℕ) → a + b ≤ 512 * b → whole ≡ 512 * b → start + a + b ≤ start + whole
      sums start a b whole le is = omega arith

-- what is found in a table lies in what it covers
pub table_in : (depth : Depth) (memory : Memory) → AreWhole memory → (level : ℕ) (table : ReachedTable) → IsPlaced level table
    → All (TableLies depth level table) (table_visits depth memory level table)
table_in depth memory whole zero table placed = subst (All (TableLies depth zero table)) (sym (nothing_met depth memory table)) (All-nil _)
table_in depth memory whole (suc level) table placed =
    elim (finite.get memory table.number) as (λ o. finite.get memory table.number ≡ o
    → All (TableLies depth (suc level) table) (table_visits depth memory (suc level) table)) [
      | None ↦ λ is. subst (All (TableLies depth (suc level) table)) (sym (missing_met depth memory level table is))
          (All-cons (TableLies depth (suc level) table) (OfFrame table.number) [] tt (All-nil _))
      | Some words ↦ λ is. subst (All (TableLies depth (suc level) table)) (sym (table_met depth memory level table words is))
          (All-cons (TableLies depth (suc level) table) (OfFrame table.number) (flat_map (at_word_met depth memory level table) (enumerate_from 0 words)) tt
          (all_at_words (at_word_met depth memory level table) (TableLies depth (suc level) table) words 0 (λ k lt.
          All-weaker _ (TableLies depth (suc level) table)
          (wider depth _ _ table.start (table.start + table_bytes (suc level)) (omega arith)
          (entry_fits level table.start (0 + k) (omega (arith, whole table.number words is))))
          _ (entry_in depth memory level table (0 + k) (get_or words k 0) (meaning (suc level) (get_or words k 0)) placed
          (λ next. table_in depth memory whole level next) refl))))
    ] refl

-- what is found at an entry lies in what it represents
pub word_in : (depth : Depth) (memory : Memory) → AreWhole memory → (level : ℕ) (table : ReachedTable) (index word : ℕ) → IsPlaced (suc level) table
    → All (EntryLies depth level table index) (at_word_met depth memory level table (index, word))
word_in depth memory whole level table index word placed =
    entry_in depth memory level table index word (meaning (suc level) word) placed (λ next. table_in depth memory whole level next) refl
