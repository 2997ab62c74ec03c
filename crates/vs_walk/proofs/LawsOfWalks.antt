-- The walk of an address is what the found page that covers it says.
use Rattle.std.proofs.Common.{◌≡◌, ◌≢◌, ℕ, zero, suc, ◌+◌, ◌-◌, ◌*◌, ◌/◌, ◌%◌, ◌<◌, ◌≤◌, true, false, cond, List, [], ◌∷◌, Some, None, get_or, flat_map, refl}
use Rattle.std.proofs.Common.{sym, ap, subst, ◌∙◌, ◌⊎◌, inl, inr, ⊎_elim, arith, slice_index}
use Rattle.std.specs.FinMap as finite
use Rattle.std.specs.List.{enumerate_from}
use Rattle.std.proofs.lemmas.Bool.{cases_order, false_from_ne_true}
use Rattle.std.proofs.lemmas.Nat.{row_fits, div-add-mod'}
use Rattle.std.proofs.lemmas.List.Elements.{All-weaker}
use Rattle.vs_types.specs.Depth.{levels, entry_bytes, table_bytes, index_at, IsCanonical}
use Rattle.vs_types.specs.Page.{bytes_of, covers, intersection}
use Rattle.vs_types.specs.Entry.{meaning, size_at}
use Rattle.vs_types.specs.declared.addresses.depth.Depth.{Depth}
use Rattle.vs_types.specs.declared.addresses.page.Page.{Page}
use Rattle.vs_types.specs.declared.addresses.page.Rights.{Rights}
use Rattle.vs_types.specs.declared.entries.entry.Meaning.{Meaning}
use Rattle.vs_types.specs.declared.entries.entry.Meaning.TheVariants as entry
use Rattle.vs_types.proofs.Pages.{covers_means}
use Rattle.vs_walk.specs.Memory.{Memory, AreWhole}
use Rattle.vs_walk.specs.Walk.{all_rights, walk_entry, walk_from, walk}
use Rattle.vs_walk.specs.Traversal.{ReachedTable, canonical_from, entry_visits, table_visits, traversal, found_by, found}
use Rattle.vs_types.specs.Space.{page_covering}
use Rattle.vs_walk.specs.Laws.{as_found}
use Rattle.vs_walk.specs.declared.walk.Walk.{Walk}
use Rattle.vs_walk.specs.declared.walk.Walk.TheVariants.{NotMapped, Mapped}
use Rattle.vs_walk.proofs.Walks.{walk_nowhere, walk_missing, walk_at}
use Rattle.vs_walk.proofs.LawsOfLists.{find_none, find_at_word}
use Rattle.vs_walk.proofs.TranslatedBits.{addresses_climb, address_within, entry_is_table, table_is_entries, entry_some, stands, leaf_bytes, bits_of}
use Rattle.vs_walk.proofs.LawsOfVisits.{at_word_met, table_met, missing_met, nothing_met, all_found}
use Rattle.vs_walk.proofs.LawsOfFoundPages.{LiesIn, IsPlaced, place_below, word_in, leaf_aligned}
use Rattle.vs_walk.proofs.LawsOfRising.{root_placed}

-- ---- what covers an address

-- a page does not cover an address whose bits are not between those in which it lies
pub lies_outside : {depth : Depth} {page : Page} (low high bits : ℕ) → LiesIn depth low high page → (bits < low) ⊎ (high ≤ bits)
    → covers page (canonical_from depth bits) ≡ false
lies_outside {depth} {page} low high bits lies outside =
    false_from_ne_true (covers page (canonical_from depth bits)) (λ covered.
    let at = (covers_means page (canonical_from depth bits)).0 covered in
    ⊎_elim
    (λ under. below page.base (canonical_from depth lies.bits) (canonical_from depth bits) lies.begins
    (addresses_climb depth bits 1 lies.bits (order bits low lies.bits under lies.above)) at.0)
    (λ over. past page.base (canonical_from depth lies.bits) (canonical_from depth bits) (bytes_of page.size) lies.begins
    (addresses_climb depth lies.bits (bytes_of page.size) bits (chain (lies.bits + bytes_of page.size) high bits lies.below over)) at.1)
    outside)
  where
    order : (a b c : ℕ) → a < b → b ≤ c → a + 1 ≤ c
    order a b c p q = omega arith

    chain : (a b c : ℕ) → a ≤ b → b ≤ c → a ≤ c
    chain a b c p q = omega arith

    below : (base from to : ℕ) → base ≡ from → to + 1 ≤ from → base ≤ to → ⊥
    below base from to is le at = omega arith

    past : (base from to bytes : ℕ) → base ≡ from → from + bytes ≤ to → to < base + bytes → ⊥
    past base from to bytes is le at = omega arith

-- nothing that is found at another entry covers the address
pub other_entry : (depth : Depth) (memory : Memory) → AreWhole memory → (level : ℕ) (table : ReachedTable) (index rest k word : ℕ) → IsPlaced (suc level) table
    → rest < entry_bytes (suc level) → k ≢ index → page_covering (canonical_from depth (table.start + index * entry_bytes (suc level) + rest))
    (found (at_word_met depth memory level table (k, word))) ≡ None
other_entry depth memory whole level table index rest k word placed small other =
    find_none (λ page. covers page (canonical_from depth (table.start + index * entry_bytes (suc level) + rest)))
    (found (at_word_met depth memory level table (k, word)))
    (All-weaker (LiesIn depth (table.start + k * entry_bytes (suc level)) (table.start + k * entry_bytes (suc level) + entry_bytes (suc level))) _
    (λ page lies. lies_outside _ _ (table.start + index * entry_bytes (suc level) + rest) lies (outside table.start (entry_bytes (suc level)) small))
    (found (at_word_met depth memory level table (k, word)))
    (all_found _ (at_word_met depth memory level table (k, word)) (word_in depth memory whole level table k word placed)))
  where
    outside : (start bytes : ℕ) → rest < bytes → (start + index * bytes + rest < start + k * bytes) ⊎ (start + k * bytes + bytes ≤ start + index * bytes + rest)
    outside start bytes lt = ⊎_elim
        (λ same. absurd (other same))
        (λ apart. ⊎_elim
        (λ less. inr (let le = rows k index bytes less in omega_right start (index * bytes) (k * bytes) bytes rest le))
        (λ more. inl (let le = rows index k bytes more in omega_left start (index * bytes) (k * bytes) bytes rest le lt))
        apart)
        (cases_order k index)
      where
        rows : (a b bytes : ℕ) → a < b → a * bytes + bytes ≤ b * bytes
        rows a b bytes lt = row_fits a bytes b bytes lt (omega arith)

        omega_right : (start a b bytes rest : ℕ) → b + bytes ≤ a → start + b + bytes ≤ start + a + rest
        omega_right start a b bytes rest le = omega arith

        omega_left : (start a b bytes rest : ℕ) → a + bytes ≤ b → rest < bytes → start + a + rest < start + b
        omega_left start a b bytes rest le lt = omega arith

-- ---- the walk from a table

-- a walk, where one that meets a fault counts as not mapped
abbrev pub unfaulted : Walk → Walk
unfaulted (Mapped phys size rights) = Mapped phys size rights
unfaulted _ = NotMapped

-- the leaf's page covers the address, with the offset of the walk
leaf_walk : (depth : Depth) (level : ℕ) (table : ReachedTable) (index rest word phys address : ℕ) (own : Rights) → IsPlaced (suc level) table
    → meaning (suc level) word ≡ entry.Leaf phys own → rest < entry_bytes (suc level)
    → address ≡ canonical_from depth (table.start + index * entry_bytes (suc level) + rest) → address % entry_bytes (suc level) ≡ rest
    → Mapped (phys + address % entry_bytes (suc level)) (size_at (suc level)) (intersection table.rights own) ≡ as_found address
    (page_covering address (record {
      base = canonical_from depth (table.start + index * entry_bytes (suc level));
      size = size_at (suc level);
      phys =
          phys;
      rights = intersection table.rights own;
    } ∷ []))
leaf_walk depth level table index rest word phys address own placed means small is over =
    let bits : ℕ = table.start + index * entry_bytes (suc level) in
    let base : ℕ = canonical_from depth bits in
    let page : Page = record { base = base; size = size_at (suc level); phys = phys; rights = intersection table.rights own } in
    let bytes = leaf_bytes level word phys own means in
    let inside : rest < bytes_of (size_at (suc level)) = subst (λ n. rest < n) (sym bytes) small in
    let at : address ≡ base + rest = is ∙ address_within depth (suc level) bits rest (leaf_aligned level table index word phys own placed means) inside in
    let covered : covers page address ≡ true = (covers_means page address).1
    (from base rest address at, upto base rest address (bytes_of (size_at (suc level))) at inside) in
    ap (λ n. Mapped (phys + n) (size_at (suc level)) (intersection table.rights own)) (over ∙ offset base rest address at)
    ∙ ap (λ b. as_found address (cond b (Some page) None)) (sym covered)
  where
    from : (base rest address : ℕ) → address ≡ base + rest → base ≤ address
    from base rest address at = omega arith

    upto : (base rest address bytes : ℕ) → address ≡ base + rest → rest < bytes → address < base + bytes
    upto base rest address bytes at lt = omega arith

    offset : (base rest address : ℕ) → address ≡ base + rest → rest ≡ address - base
    offset base rest address at = omega arith

-- that the walk from each table of a level is what is found in it, at the addresses whose bits are in the table
abbrev pub WalkIsFound : Depth → Memory → ℕ → Type 0
WalkIsFound depth memory level = (table : ReachedTable) (address offset above : ℕ) → IsPlaced level table → offset < table_bytes level
    → address ≡ above * table_bytes level + offset → address ≡ canonical_from depth (table.start + offset)
    → unfaulted (walk_from memory level table.number table.rights address) ≡ as_found address
    (page_covering address (found (table_visits depth memory level table)))

entry_walk : (depth : Depth) (memory : Memory) (level : ℕ) (table : ReachedTable) (index rest word address above : ℕ) (means : Meaning)
    → WalkIsFound depth memory level → IsPlaced (suc level) table → meaning (suc level) word ≡ means → rest < entry_bytes (suc level)
    → address ≡ canonical_from depth (table.start + index * entry_bytes (suc level) + rest) → address % entry_bytes (suc level) ≡ rest
    → address ≡ above * entry_bytes (suc level) + rest → unfaulted
    (walk_entry (suc level) table.rights address (λ next own. walk_from memory level next own address) means) ≡ as_found address
    (page_covering address (found (entry_visits depth (suc level) table index (λ next. table_visits depth memory level next) means)))
entry_walk depth memory level table index rest word address above (entry.Leaf phys own) lower placed is small at over split =
    leaf_walk depth level table index rest word phys address own placed is small at over
entry_walk depth memory level table index rest word address above (entry.Table number own) lower placed is small at over split =
    lower (record { number = number; start = table.start + index * entry_bytes (suc level); rights = intersection table.rights own }) address rest above
    (place_below level table index number own placed)
    (subst (λ n. rest < n) (entry_is_table level) small)
    (subst (λ n. address ≡ above * n + rest) (entry_is_table level) split)
    at
entry_walk depth memory level table index rest word address above _ lower placed is small at over split = refl

words_walk : (depth : Depth) (memory : Memory) → AreWhole memory → (level : ℕ) (table : ReachedTable) (address index rest above : ℕ) (words : List ℕ)
    → WalkIsFound depth memory level → IsPlaced (suc level) table → finite.get memory table.number ≡ Some words → index_at (suc level) address ≡ index
    → rest < entry_bytes (suc level) → address ≡ canonical_from depth (table.start + index * entry_bytes (suc level) + rest)
    → address % entry_bytes (suc level) ≡ rest → address ≡ above * entry_bytes (suc level) + rest
    → unfaulted (walk_from memory (suc level) table.number table.rights address) ≡ as_found address
    (page_covering address (found (table_visits depth memory (suc level) table)))
words_walk depth memory whole level table address index rest above words lower placed is place small at over split =
    let word : ℕ = get_or words index 0 in
    let means : Meaning = meaning (suc level) word in
    let only : page_covering address (found (flat_map (at_word_met depth memory level table) (enumerate_from 0 words))) ≡ page_covering address
    (found (at_word_met depth memory level table (0 + index, word))) =
    find_at_word (at_word_met depth memory level table) found_by (λ page. covers page address) words 0 index
    (λ k other differs. subst (λ a. page_covering a (found (at_word_met depth memory level table (k, other))) ≡ None) (sym at)
    (other_entry depth memory whole level table index rest k other placed small (λ same. differs (same ∙ omega arith))))
    refl in
    ap unfaulted (walk_at memory level table.number table.rights address words means is (ap (λ i. meaning (suc level) (slice_index words i)) place))
    ∙ entry_walk depth memory level table index rest word address above means lower placed refl small at over split
    ∙ ap (λ i. as_found address (page_covering address (found (at_word_met depth memory level table (i, word))))) (omega arith)
    ∙ ap (as_found address) (sym only)
    ∙ ap (λ ms. as_found address (page_covering address (found ms))) (sym (table_met depth memory level table words is))

-- the walk from a table is what is found in it
pub table_walk : (depth : Depth) (memory : Memory) → AreWhole memory → (level : ℕ) → WalkIsFound depth memory level
table_walk depth memory whole zero table address offset above placed lt split at =
    ap unfaulted (walk_nowhere memory table.number table.rights address)
    ∙ ap (λ ms. as_found address (page_covering address (found ms))) (sym (nothing_met depth memory table))
table_walk depth memory whole (suc level) table address offset above placed lt split at =
    elim (finite.get memory table.number) as (λ o. finite.get memory table.number ≡ o
    → unfaulted (walk_from memory (suc level) table.number table.rights address) ≡ as_found address
    (page_covering address (found (table_visits depth memory (suc level) table)))) [
      | None ↦ λ is.
          ap unfaulted (walk_missing memory level table.number table.rights address is)
          ∙ ap (λ ms. as_found address (page_covering address (found ms))) (sym (missing_met depth memory level table is))
      | Some words ↦ λ is.
          let bytes : ℕ = entry_bytes (suc level) in
          let stand = stands bytes address offset above (entry_some (suc level)) (subst (λ n. offset < n) (table_is_entries level) lt)
          (subst (λ n. address ≡ above * n + offset) (table_is_entries level) split) in
          words_walk depth memory whole level table address stand.index stand.rest (address / bytes) words
          (λ next. table_walk depth memory whole level next) placed is stand.at stand.small
          (at ∙ ap (canonical_from depth) (regroup table.start offset (stand.index * bytes) stand.rest stand.sum))
          stand.over (sym (div-add-mod' address bytes) ∙ ap (λ n. address / bytes * bytes + n) stand.over)
    ] refl
  where
    regroup : (start offset a rest : ℕ) → offset ≡ a + rest → start + offset ≡ start + a + rest
    regroup start offset a rest is = omega arith

-- the walk of each canonical address
pub walk_is_found : (depth : Depth) (memory : Memory) (root address : ℕ) → AreWhole memory → IsCanonical depth address
    → unfaulted (walk depth memory root address) ≡ as_found address (page_covering address (found (traversal depth memory root)))
walk_is_found depth memory root address whole canonical =
    let has = bits_of depth address canonical in
    table_walk depth memory whole (levels depth) (record { number = root; start = 0; rights = all_rights }) address has.bits has.above
    (root_placed (levels depth) root) has.few has.split
    (has.is ∙ ap (canonical_from depth) (omega arith))
