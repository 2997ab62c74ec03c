-- Walks meet what the traversal meets: where no visit is wrong no walk goes wrong, and where a visit is wrong some walk is.
use Rattle.std.proofs.Common.{◌≡◌, ◌≢◌, ℕ, zero, suc, ◌+◌, ◌*◌, ◌/◌, ◌%◌, ◌<◌, true, false, List, [], Some, None, length, get_or, flat_map, refl, sym, ap}
use Rattle.std.proofs.Common.{subst, ◌∙◌, ⊎_elim, arith, Contains, IsTrue, slice_index}
use Rattle.std.specs.Prelude.{All}
use Rattle.std.specs.FinMap as finite
use Rattle.std.specs.List.{enumerate_from}
use Rattle.std.proofs.lemmas.Bool.{cases_lt}
use Rattle.std.proofs.lemmas.Nat.{div-mul-add, mod-mul-add, mul-add-lt}
use Rattle.std.proofs.lemmas.List.Elements.{All-head}
use Rattle.vs_types.specs.Depth.{levels, entry_bytes, table_bytes, index_at, IsCanonical}
use Rattle.vs_types.specs.Page.{intersection}
use Rattle.vs_types.specs.Entry.{meaning, size_at}
use Rattle.vs_types.specs.declared.addresses.depth.Depth.{Depth}
use Rattle.vs_types.specs.declared.addresses.page.Rights.{Rights}
use Rattle.vs_types.specs.declared.entries.entry.Meaning.{Meaning}
use Rattle.vs_types.specs.declared.entries.entry.Meaning.TheVariants as entry
use Rattle.vs_types.proofs.Lists.{Contains-cases, not_in_nil}
use Rattle.vs_types.proofs.Pages.{three_levels}
use Rattle.vs_walk.specs.Memory.{Memory, AreWhole}
use Rattle.vs_walk.specs.Walk.{all_rights, walk_entry, walk_from, walk}
use Rattle.vs_walk.specs.Traversal.{Visit, OfFrame, OfLeaf, OfReservedBit, ReachedTable, canonical_from, entry_visits, table_visits, traversal}
use Rattle.vs_walk.specs.declared.walk.Walk.{Walk}
use Rattle.vs_walk.specs.declared.walk.Walk.TheVariants.{NotMapped, Reserved, Missing, Mapped}
use Rattle.vs_walk.proofs.Walks.{walk_missing, walk_at}
use Rattle.vs_walk.proofs.LawsOfLists.{contained_at_some_word}
use Rattle.vs_walk.proofs.TranslatedBits.{address_splits, bits_canonical, entry_is_table, table_is_entries, entry_some, no_table_below}
use Rattle.vs_walk.proofs.LawsOfVisits.{at_word_met, table_met, missing_met, nothing_met, means_absent, all_at_one_word}
use Rattle.vs_walk.proofs.LawsOfFirstFaults.{IsFine}

-- ---- nothing wrong

abbrev pub GoesWell : Walk → Type 0
GoesWell walk = (walk ≢ Reserved) × (walk ≢ Missing)

not_mapped_well : GoesWell NotMapped
not_mapped_well = (λ is. cc, λ is. cc)

mapped_well : (phys : ℕ) (level : ℕ) (rights : Rights) → GoesWell (Mapped phys (size_at level) rights)
mapped_well phys level rights = (λ is. cc, λ is. cc)

-- the tables to which words of this level lead go well
abbrev LowerWell : Depth → Memory → ℕ → ℕ → Type 0
LowerWell depth memory level address = (word number : ℕ) (own : Rights) → meaning (suc level) word ≡ entry.Table number own → (next : ReachedTable)
    → All (IsFine memory) (table_visits depth memory level next) → GoesWell (walk_from memory level next.number next.rights address)

entry_well : (depth : Depth) (memory : Memory) (level : ℕ) (table : ReachedTable) (index word address : ℕ) (means : Meaning)
    → LowerWell depth memory level address → meaning (suc level) word ≡ means
    → All (IsFine memory) (entry_visits depth (suc level) table index (λ next. table_visits depth memory level next) means)
    → GoesWell (walk_entry (suc level) table.rights address (λ next own. walk_from memory level next own address) means)
entry_well depth memory level table index word address entry.Absent lower is fine = not_mapped_well
entry_well depth memory level table index word address entry.Reserved lower is fine =
    absurd (All-head (IsFine memory) (OfReservedBit table.number index) [] fine)
entry_well depth memory level table index word address (entry.Leaf phys own) lower is fine = mapped_well _ (suc level) _
entry_well depth memory level table index word address (entry.Table number own) lower is fine =
    lower word number own is (record { number = number; start = table.start + index * entry_bytes (suc level); rights = intersection table.rights own }) fine

words_well : (depth : Depth) (memory : Memory) (level : ℕ) (table : ReachedTable) (address : ℕ) → LowerWell depth memory level address
    → All (IsFine memory) (table_visits depth memory (suc level) table) → GoesWell (walk_from memory (suc level) table.number table.rights address)
words_well depth memory level table address lower fine =
    elim (finite.get memory table.number) as (λ o. finite.get memory table.number ≡ o
    → GoesWell (walk_from memory (suc level) table.number table.rights address)) [
      | None ↦ λ is.
          let there = All-head (IsFine memory) (OfFrame table.number) [] (subst (All (IsFine memory)) (missing_met depth memory level table is) fine) in
          absurd (nowhere is there)
      | Some words ↦ λ is.
          let index : ℕ = index_at (suc level) address in
          let word : ℕ = get_or words index 0 in
          ⊎_elim
          (λ lt. subst GoesWell (sym (walk_at memory level table.number table.rights address words (meaning (suc level) word) is refl))
          (entry_well depth memory level table index word address (meaning (suc level) word) lower refl
          (all_at_one_word (IsFine memory) depth memory level table words index is lt fine)))
          (λ past. subst GoesWell (sym (walk_at memory level table.number table.rights address words entry.Absent is
          (means_absent (suc level) words index past))) not_mapped_well)
          (cases_lt index (length words))
    ] refl
  where
    nowhere : finite.get memory table.number ≡ None → IsTrue (finite.contains_key memory table.number) → ⊥
    nowhere is there = let bad : false ≡ true = rw is at there in cc

pub table_well : (depth : Depth) (memory : Memory) (level : ℕ) (table : ReachedTable) (address : ℕ)
    → All (IsFine memory) (table_visits depth memory (suc level) table) → GoesWell (walk_from memory (suc level) table.number table.rights address)
table_well depth memory zero table address fine = words_well depth memory zero table address
    (λ word number own is. absurd (no_table_below word number own is)) fine
table_well depth memory (suc level) table address fine =
    words_well depth memory (suc level) table address (λ word number own is next. table_well depth memory level next address) fine

pub level_below : (level : ℕ) → 0 < level → (below : ℕ) × (level ≡ suc below)
level_below zero some = absurd (omega arith)
level_below (suc below) some = (below, refl)

pub some_levels : (depth : Depth) → 0 < levels depth
some_levels depth = omega (arith, three_levels depth)

pub walk_well : (depth : Depth) (memory : Memory) (root address : ℕ) → All (IsFine memory) (traversal depth memory root)
    → GoesWell (walk depth memory root address)
walk_well depth memory root address fine =
    let low = level_below (levels depth) (some_levels depth) in
    subst (λ level. GoesWell (walk_from memory level root all_rights address)) (sym low.1)
    (table_well depth memory low.0 (record { number = root; start = 0; rights = all_rights }) address
    (subst (λ level. All (IsFine memory) (table_visits depth memory level (record { number = root; start = 0; rights = all_rights }))) low.1 fine))

-- ---- something wrong

-- how a walk ends at what is wrong with a visit
abbrev pub EndsAt : Memory → Visit → Walk → Type 0
EndsAt memory (OfFrame number) end = (finite.get memory number ≡ None) × (end ≡ Missing)
EndsAt memory (OfLeaf page) end = ⊥
EndsAt memory (OfReservedBit number index) end = end ≡ Reserved

ends_missing : (memory : Memory) (number : ℕ) (visit : Visit) (end : Walk) → OfFrame number ≡ visit → EndsAt memory visit end
    → (finite.get memory number ≡ None) × (end ≡ Missing)
ends_missing memory number visit end same wrong = subst (λ m. EndsAt memory m end) (sym same) wrong

-- some walk from a table ends so: that of each address at this offset into what the table covers
pub record SomeEnds (memory : Memory) (level number : ℕ) (rights : Rights) (end : Walk) : Type 0 where
  pub offset : ℕ
  pub inside : offset < table_bytes level
  pub ends : (address above : ℕ) → address ≡ above * table_bytes level + offset → walk_from memory level number rights address ≡ end

-- an address at an offset into an entry
pub at_entry : (level above index rest address : ℕ) → index < 512 → rest < entry_bytes (suc level)
    → address ≡ above * table_bytes (suc level) + (index * entry_bytes (suc level) + rest)
    → (index_at (suc level) address ≡ index) × (address ≡ (above * 512 + index) * table_bytes level + rest)
at_entry level above index rest address within small is =
    let bytes : ℕ = entry_bytes (suc level) in
    let split : address ≡ (above * 512 + index) * bytes + rest =
    regroup above index rest address bytes (is ∙ ap (λ n. above * n + (index * bytes + rest)) (table_is_entries level)) in (
      ap (λ a. a / bytes % 512) split ∙ ap (λ a. a % 512) (div-mul-add (above * 512 + index) bytes rest small) ∙ mod-mul-add above 512 index within,
      split ∙ ap (λ n. (above * 512 + index) * n + rest) (entry_is_table level),
    )
  where
    regroup : (above index rest address bytes : ℕ) → address ≡ above * (512 * bytes) + (index * bytes + rest) → address ≡ (above * 512 + index) * bytes + rest
    regroup above index rest address bytes is = omega arith

pub offset_fits : (level index rest : ℕ) → index < 512 → rest < entry_bytes (suc level) → index * entry_bytes (suc level) + rest < table_bytes (suc level)
offset_fits level index rest within small =
    bound (index * entry_bytes (suc level) + rest) (entry_bytes (suc level)) (table_bytes (suc level))
    (mul-add-lt index (entry_bytes (suc level)) rest 512 within small) (table_is_entries level)
  where
    bound : (a b whole : ℕ) → a < b * 512 → whole ≡ 512 * b → a < whole
    bound a b whole lt is = omega arith

abbrev LowerEnds : Depth → Memory → ℕ → Visit → Walk → Type 0
LowerEnds depth memory level visit end = (next : ReachedTable) → Contains (table_visits depth memory level next) visit
    → SomeEnds memory level next.number next.rights end

entry_ends : (depth : Depth) (memory : Memory) (level : ℕ) (table : ReachedTable) (words : List ℕ) (index : ℕ) (means : Meaning) (visit : Visit) (end : Walk)
    → EndsAt memory visit end → LowerEnds depth memory level visit end → finite.get memory table.number ≡ Some words → index < 512
    → meaning (suc level) (get_or words index 0) ≡ means → Contains
    (entry_visits depth (suc level) table index (λ next. table_visits depth memory level next) means) visit
    → SomeEnds memory (suc level) table.number table.rights end
entry_ends depth memory level table words index entry.Absent visit end wrong lower is within says met = absurd (not_in_nil visit met)
entry_ends depth memory level table words index entry.Reserved visit end wrong lower is within says met = ⊎_elim
    (λ same. record {
      offset = index * entry_bytes (suc level) + 0;
      inside = offset_fits level index 0 within (entry_some (suc level));
      ends = λ address above at.
          let place = at_entry level above index 0 address within (entry_some (suc level)) at in
          walk_at memory level table.number table.rights address words entry.Reserved is (ap (λ i. meaning (suc level) (slice_index words i)) place.0 ∙ says)
          ∙ sym (subst (λ m. EndsAt memory m end) (sym same) wrong);
    })
    (λ later. absurd (not_in_nil visit later))
    (Contains-cases (OfReservedBit table.number index) [] visit met)
entry_ends depth memory level table words index (entry.Leaf phys own) visit end wrong lower is within says met = ⊎_elim
    (λ same. absurd (subst (λ m. EndsAt memory m end) (sym same) wrong))
    (λ later. absurd (not_in_nil visit later))
    (Contains-cases _ [] visit met)
entry_ends depth memory level table words index (entry.Table number own) visit end wrong lower is within says met =
    let below = lower (record { number = number; start = table.start + index * entry_bytes (suc level); rights = intersection table.rights own }) met in
    let small : below.offset < entry_bytes (suc level) = subst (λ n. below.offset < n) (sym (entry_is_table level)) below.inside in
    record {
      offset = index * entry_bytes (suc level) + below.offset;
      inside = offset_fits level index below.offset within small;
      ends = λ address above at.
          let place = at_entry level above index below.offset address within small at in
          walk_at memory level table.number table.rights address words (entry.Table number own) is
          (ap (λ i. meaning (suc level) (slice_index words i)) place.0 ∙ says)
          ∙ below.ends address (above * 512 + index) place.1;
    }

pub table_ends : (depth : Depth) (memory : Memory) → AreWhole memory → (level : ℕ) (table : ReachedTable) (visit : Visit) (end : Walk)
    → EndsAt memory visit end → Contains (table_visits depth memory level table) visit → SomeEnds memory level table.number table.rights end
table_ends depth memory whole zero table visit end wrong met = absurd (not_in_nil visit (subst (λ ms. Contains ms visit) (nothing_met depth memory table) met))
table_ends depth memory whole (suc level) table visit end wrong met =
    elim (finite.get memory table.number) as (λ o. finite.get memory table.number ≡ o → SomeEnds memory (suc level) table.number table.rights end) [
      | None ↦ λ is. ⊎_elim
          (λ same. record {
            offset = 0;
            inside = subst (λ n. 0 < n) (entry_is_table (suc level)) (entry_some (suc (suc level)));
            ends = λ address above at. walk_missing memory level table.number table.rights address is
                ∙ sym (ends_missing memory table.number visit end same wrong).1;
          })
          (λ later. absurd (not_in_nil visit later))
          (Contains-cases (OfFrame table.number) [] visit (subst (λ ms. Contains ms visit) (missing_met depth memory level table is) met))
      | Some words ↦ λ is. ⊎_elim
          (λ same. absurd (there words is (ends_missing memory table.number visit end same wrong).0))
          (λ later.
          let at = contained_at_some_word (at_word_met depth memory level table) words 0 visit later in
          entry_ends depth memory level table words at.0 (meaning (suc level) (get_or words at.0 0)) visit end wrong
          (λ next. table_ends depth memory whole level next visit end wrong) is
          (omega (arith, at.1, whole table.number words is)) refl
          (subst (λ i. Contains (at_word_met depth memory level table (i, get_or words at.0 0)) visit) (omega arith) at.2))
          (Contains-cases (OfFrame table.number) (flat_map (at_word_met depth memory level table) (enumerate_from 0 words)) visit
          (subst (λ ms. Contains ms visit) (table_met depth memory level table words is) met))
    ] refl
  where
    there : (words : List ℕ) → finite.get memory table.number ≡ Some words → finite.get memory table.number ≡ None → ⊥
    there words is none = cc

-- what is wrong with a visit, the walk of some canonical address meets
pub some_walk : (depth : Depth) (memory : Memory) (root : ℕ) (visit : Visit) (end : Walk) → AreWhole memory → EndsAt memory visit end
    → Contains (traversal depth memory root) visit → (address : ℕ) × IsCanonical depth address × (walk depth memory root address ≡ end)
some_walk depth memory root visit end whole wrong met =
    let some = table_ends depth memory whole (levels depth) (record { number = root; start = 0; rights = all_rights }) visit end wrong met in
    let splits = address_splits depth some.offset in
    (canonical_from depth some.offset, bits_canonical depth some.offset some.inside, some.ends (canonical_from depth some.offset) splits.0 splits.1)
