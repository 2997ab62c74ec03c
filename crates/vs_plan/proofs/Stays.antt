-- What may still be kept where a memory has changed.
use Rattle.std.proofs.Common.{◌≡◌, ℕ, zero, suc, ◌+◌, ◌/◌, ◌%◌, ◌<◌, ◌≤◌, Option, Some, None, ◌⊎◌, inl, inr, ⊎_elim, refl, sym, ap, subst, ◌∙◌, arith}
use Rattle.vs_types.specs.Depth.{levels, entry_bytes, IsCanonical}
use Rattle.vs_types.specs.Entry.{size_at, all_rights}
use Rattle.vs_types.specs.Page.{intersection, level_of, bytes_of}
use Rattle.vs_types.specs.declared.addresses.depth.Depth.{Depth}
use Rattle.vs_types.specs.declared.addresses.page.Rights.{Rights}
use Rattle.vs_types.specs.declared.addresses.page.Size.{Size}
use Rattle.vs_types.specs.declared.entries.entry.Meaning.{Meaning}
use Rattle.vs_types.specs.declared.entries.entry.Meaning.TheVariants as entry
use Rattle.vs_walk.specs.Memory.{Memory}
use Rattle.vs_walk.specs.Walk.{walk, walk_from}
use Rattle.vs_walk.specs.declared.walk.Walk.TheVariants.{Mapped}
use Rattle.vs_walk.proofs.Walks.{walk_nowhere, leaf_level}
use Rattle.vs_space.specs.Path.{found_at, table_at}
use Rattle.vs_space.proofs.Paths.{walk_found, walk_lost, words_found}
use Rattle.vs_space.proofs.Regions.{level_back}
use Rattle.vs_plan.specs.Processor.{page_number, region_number, Kept, Translation, PagingEntry, OfRoot, OfTable, OfPage}
use Rattle.vs_plan.proofs.Kept.{IsClosed, Reads, all_reads, translation_walk, entry_path}

-- ---- what is kept is kept of some address, and translations are kept of the three lowest levels

abbrev pub IsOfSome : Depth → Kept → Type 0
IsOfSome depth (Translation level page frame rights) =
    (address : ℕ) × IsCanonical depth address × (page_number level address ≡ page) × (1 ≤ level) × (level ≤ 3)
IsOfSome depth (PagingEntry level region number rights) = (address : ℕ) × IsCanonical depth address × (region_number level address ≡ region)

some_closed : (depth : Depth) (root : ℕ) (memory : Memory) → IsClosed depth root memory (IsOfSome depth)
some_closed depth root memory = record {
  of_root = λ address canonical. (address, canonical, refl);
  of_table = λ address below number next rights own canonical table found. (address, canonical, refl);
  of_page = λ address below number phys rights own canonical table found.
      let at = words_found (suc below) memory number address (entry.Leaf phys own) found in
      (address, canonical, refl, omega arith, (leaf_level (suc below) _ phys own at.2).0);
}

pub of_some : (depth : Depth) (root : ℕ) (memory : Memory) (kept : Kept) → Reads depth root memory kept → IsOfSome depth kept
of_some depth root memory kept reads = all_reads (some_closed depth root memory) kept reads

-- no path leads to the table of a kept entry but one that leads to it at this level
pub entry_reached : (depth : Depth) (root : ℕ) (memory : Memory) (level region number : ℕ) (rights : Rights)
    → Reads depth root memory (PagingEntry level region number rights) → (address : ℕ) × (table_at (levels depth) memory root level address ≡ Some number)
entry_reached depth root memory level region number rights reads =
    let some = of_some depth root memory (PagingEntry level region number rights) reads in
    (some.0, entry_path depth root memory level region number rights reads some.0 some.2)

-- ---- where an address is mapped, its translation may be kept

pub mapped_same : {a b : ℕ} {s t : Size} {q r : Rights} → Mapped a s q ≡ Mapped b t r → (a ≡ b) × (s ≡ t) × (q ≡ r)
mapped_same e = (cc, cc, cc)

pub record ReadsPage (depth : Depth) (root : ℕ) (memory : Memory) (address phys : ℕ) (size : Size) (rights : Rights) : Type 0 where
  pub level : ℕ
  pub frame : ℕ
  pub reads : Reads depth root memory (Translation level (page_number level address) frame rights)
  pub phys_is : phys ≡ frame + address % entry_bytes level
  pub size_is : size ≡ size_at level

module _ (depth : Depth) (root : ℕ) (memory : Memory) (address phys : ℕ) (size : Size) (rights : Rights) (canonical : IsCanonical depth address) where
  abbrev Ends : ℕ → Type 0
  Ends level = (number : ℕ) (above : Rights) → Reads depth root memory (PagingEntry level (region_number level address) number above)
      → walk_from memory level number above address ≡ Mapped phys size rights → ReadsPage depth root memory address phys size rights

  ends_at : (below number : ℕ) (above : Rights) → Ends below
      → Reads depth root memory (PagingEntry (suc below) (region_number (suc below) address) number above)
      → walk_from memory (suc below) number above address ≡ Mapped phys size rights → (o : Option Meaning) → found_at (suc below) memory number address ≡ o
      → ReadsPage depth root memory address phys size rights
  ends_at below number above go reads is None found = let lost = sym (walk_lost memory below number above address found) ∙ is in absurd (cc)
  ends_at below number above go reads is (Some (entry.Table next own)) found =
      go next (intersection above own) (OfTable address below number next above own canonical reads found)
      (sym (walk_found memory below number above address (entry.Table next own) found) ∙ is)
  ends_at below number above go reads is (Some (entry.Leaf base own)) found =
      let ends : Mapped (base + address % entry_bytes (suc below)) (size_at (suc below)) (intersection above own) ≡ Mapped phys size rights =
      sym (walk_found memory below number above address (entry.Leaf base own) found) ∙ is in
      record {
        level = suc below;
        frame = base;
        reads = subst (λ r. Reads depth root memory (Translation (suc below) (page_number (suc below) address) base r))
            (mapped_same ends).2 (OfPage address below number base above own canonical reads found);
        phys_is = sym (mapped_same ends).0;
        size_is = sym (mapped_same ends).1;
      }
  ends_at below number above go reads is (Some e) found = let ends = sym (walk_found memory below number above address e found) ∙ is in absurd (cc)

  ends_in : (level : ℕ) → Ends level
  ends_in zero number above reads is = let nowhere = sym (walk_nowhere memory number above address) ∙ is in absurd (cc)
  ends_in (suc below) number above reads is = ends_at below number above (ends_in below) reads is (found_at (suc below) memory number address) refl

  pub mapped_reads : walk depth memory root address ≡ Mapped phys size rights → ReadsPage depth root memory address phys size rights
  mapped_reads is = ends_in (levels depth) root all_rights (OfRoot address canonical) is

-- ---- a translation whose address is walked as before may be kept as before

pub translation_stays : (depth : Depth) (root : ℕ) (old new : Memory) (level frame address : ℕ) (rights : Rights) → IsCanonical depth address
    → walk depth new root address ≡ walk depth old root address → Reads depth root old (Translation level (page_number level address) frame rights)
    → Reads depth root new (Translation level (page_number level address) frame rights)
translation_stays depth root old new level frame address rights canonical same reads =
    let was = of_some depth root old (Translation level (page_number level address) frame rights) reads in
    let walked = translation_walk depth root old level (page_number level address) frame rights reads address refl in
    let is = mapped_reads depth root new address (frame + address % entry_bytes level) (size_at level) rights canonical (same ∙ walked) in
    let now = of_some depth root new (Translation is.level (page_number is.level address) is.frame rights) is.reads in
    let level_same : is.level ≡ level = sym (level_back is.level now.3 now.4) ∙ ap level_of (sym is.size_is) ∙ level_back level was.3 was.4 in
    let rest : address % entry_bytes is.level ≡ address % entry_bytes level = ap (λ l. address % entry_bytes l) level_same in
    let frame_same : is.frame ≡ frame = frames frame is.frame (address % entry_bytes level) (address % entry_bytes is.level) is.phys_is rest in
    subst (λ f. Reads depth root new (Translation level (page_number level address) f rights)) frame_same
    (subst (λ l. Reads depth root new (Translation l (page_number l address) is.frame rights)) level_same is.reads)
  where
    frames : (f g x y : ℕ) → f + x ≡ g + y → y ≡ x → g ≡ f
    frames f g x y p q = omega arith

-- ---- where walks change at some addresses alone

-- what is mapped is walked as before, but where this is so of the address and the size of its page
abbrev pub ChangesAlone : Depth → ℕ → Memory → Memory → (ℕ → Size → Type 0) → Type 0
ChangesAlone depth root old new P = (address phys : ℕ) (size : Size) (rights : Rights) → IsCanonical depth address
    → walk depth old root address ≡ Mapped phys size rights → (walk depth new root address ≡ walk depth old root address) ⊎ P address size

translation_or : (depth : Depth) (root : ℕ) (old new : Memory) (P : ℕ → Size → Type 0) → ChangesAlone depth root old new P
    → (level page frame : ℕ) (rights : Rights) → Reads depth root old (Translation level page frame rights)
    → Reads depth root new (Translation level page frame rights)
    ⊎ ((address : ℕ) × P address (size_at level) × (page ≡ page_number level address) × (level_of (size_at level) ≡ level))
translation_or depth root old new P alone level page frame rights reads =
    let some = of_some depth root old (Translation level page frame rights) reads in
    let address = some.0 in
    ⊎_elim
    (λ same. inl (subst (λ p. Reads depth root new (Translation level p frame rights)) some.2
    (translation_stays depth root old new level frame address rights some.1 same
    (subst (λ p. Reads depth root old (Translation level p frame rights)) (sym some.2) reads))))
    (λ there. inr (address, there, sym some.2, level_back level some.3 some.4))
    (alone address _ (size_at level) rights some.1 (translation_walk depth root old level page frame rights reads address some.2))

-- but for the page at this base
abbrev pub ChangesPageAlone : Depth → ℕ → Memory → Memory → ℕ → Type 0
ChangesPageAlone depth root old new base = ChangesAlone depth root old new (λ address size. address / bytes_of size ≡ base / bytes_of size)

pub translation_or_page : (depth : Depth) (root : ℕ) (old new : Memory) (base : ℕ) → ChangesPageAlone depth root old new base
    → (level page frame : ℕ) (rights : Rights) → Reads depth root old (Translation level page frame rights)
    → Reads depth root new (Translation level page frame rights) ⊎ (page ≡ page_number level base)
translation_or_page depth root old new base alone level page frame rights reads = ⊎_elim
    (λ stays. inl stays)
    (λ there. inr (there.2 ∙ subst (λ l. there.0 / entry_bytes l ≡ base / entry_bytes l) there.3 there.1))
    (translation_or depth root old new (λ a s. a / bytes_of s ≡ base / bytes_of s) alone level page frame rights reads)

-- but in the range of this size from this base on
abbrev pub ChangesRangeAlone : Depth → ℕ → Memory → Memory → ℕ → Size → Type 0
ChangesRangeAlone depth root old new base range = ChangesAlone depth root old new (λ address size. (base ≤ address) × (address < base + bytes_of range))

pub translation_or_range : (depth : Depth) (root : ℕ) (old new : Memory) (base : ℕ) (range : Size) → ChangesRangeAlone depth root old new base range
    → (level page frame : ℕ) (rights : Rights) → Reads depth root old (Translation level page frame rights)
    → Reads depth root new (Translation level page frame rights)
    ⊎ ((address : ℕ) × (base ≤ address) × (address < base + bytes_of range) × (page ≡ page_number level address))
translation_or_range depth root old new base range alone level page frame rights reads = ⊎_elim
    (λ stays. inl stays)
    (λ there. inr (there.0, there.1.0, there.1.1, there.2))
    (translation_or depth root old new (λ a s. (base ≤ a) × (a < base + bytes_of range)) alone level page frame rights reads)

-- ---- where entries that lead to tables stay

-- each kept entry may be kept of both memories
abbrev IsInBoth : Depth → ℕ → Memory → Memory → Kept → Type 0
IsInBoth depth root old new (Translation level page frame rights) = Unit {0}
IsInBoth depth root old new (PagingEntry level region number rights) =
    Reads depth root old (PagingEntry level region number rights) × Reads depth root new (PagingEntry level region number rights)

-- the entries that lead to tables are there still
abbrev pub KeepsLinks : Depth → ℕ → Memory → Memory → Type 0
KeepsLinks depth root old new = (address below number next : ℕ) (rights own : Rights) → IsCanonical depth address
    → Reads depth root old (PagingEntry (suc below) (region_number (suc below) address) number rights)
    → found_at (suc below) old number address ≡ Some (entry.Table next own)
    → found_at (suc below) new number address ≡ Some (entry.Table next own)

both_closed : (depth : Depth) (root : ℕ) (old new : Memory) → KeepsLinks depth root old new → IsClosed depth root old (IsInBoth depth root old new)
both_closed depth root old new links = record {
  of_root = λ address canonical. (OfRoot address canonical, OfRoot address canonical);
  of_table = λ address below number next rights own canonical table found. (
    OfTable address below number next rights own canonical table.0 found,
    OfTable address below number next rights own canonical table.1 (links address below number next rights own canonical table.0 found),
  );
  of_page = λ address below number phys rights own canonical table found. tt;
}

pub entry_stays : (depth : Depth) (root : ℕ) (old new : Memory) → KeepsLinks depth root old new → (level region number : ℕ) (rights : Rights)
    → Reads depth root old (PagingEntry level region number rights) → Reads depth root new (PagingEntry level region number rights)
entry_stays depth root old new links level region number rights reads =
    (all_reads (both_closed depth root old new links) (PagingEntry level region number rights) reads).1
