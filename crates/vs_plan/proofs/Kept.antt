-- What may be kept of a memory, and what it says of walks.
use Rattle.std.proofs.Common.{◌≡◌, ℕ, suc, ◌+◌, ◌*◌, ◌/◌, ◌%◌, ◌^◌, List, [], ◌∷◌, Some, refl, sym, ap, ◌∙◌, arith, shr-shr}
use Rattle.vs_types.specs.Depth.{levels, entry_bytes, index_at, IsCanonical}
use Rattle.vs_types.specs.Entry.{size_at, all_rights}
use Rattle.vs_types.specs.Page.{intersection}
use Rattle.vs_types.specs.declared.addresses.depth.Depth.{Depth}
use Rattle.vs_types.specs.declared.addresses.page.Rights.{Rights}
use Rattle.vs_types.specs.declared.entries.entry.Meaning.TheVariants as entry
use Rattle.vs_walk.specs.Memory.{Memory}
use Rattle.vs_walk.specs.Walk.{walk, walk_from}
use Rattle.vs_walk.specs.declared.walk.Walk.{Walk}
use Rattle.vs_walk.specs.declared.walk.Walk.TheVariants.{Mapped}
use Rattle.vs_walk.proofs.TranslatedBits.{entry_is_table}
use Rattle.vs_space.specs.Path.{found_at, table_in, table_at}
use Rattle.vs_space.proofs.Paths.{walk_found, found_same, table_first, table_below}
use Rattle.vs_space.proofs.Regions.{stretch_same}
use Rattle.vs_plan.specs.Processor.{page_number, region_number, Kept, Translation, PagingEntry, MayKeepBy, KeptBefore, OfRoot, OfTable, OfPage}
use Rattle.vs_plan.specs.Processor.{Moment, Is, MayKeep, MayFind, ByTranslation, ByWalk, IsUpToDate}

-- ---- regions

-- addresses of one region have the same index in the table above
pub region_index : (below a b : ℕ) → region_number below a ≡ region_number below b → index_at (suc below) a ≡ index_at (suc below) b
region_index below a b same = stretch_same (suc below) below a b same (suc below) (omega arith) (omega arith)

-- and lie in one region of it
pub region_wider : (below a b : ℕ) → region_number below a ≡ region_number below b → region_number (suc below) a ≡ region_number (suc below) b
region_wider below a b same = sym (up a) ∙ ap (λ n. n / 2 ^ 9) same ∙ up b where
  up : (x : ℕ) → region_number below x / 2 ^ 9 ≡ region_number (suc below) x
  up x =
      let exponent : 12 + 9 * below + 9 ≡ 12 + 9 * suc below = omega arith in
      shr-shr x (12 + 9 * below) 9 ∙ ap (λ e. x / 2 ^ e) exponent

-- the page numbers of a level are the regions of the level below
pub page_region : (below a : ℕ) → page_number (suc below) a ≡ region_number below a
page_region below a = ap (λ n. a / n) (entry_is_table below)

pub page_regions : (below a b : ℕ) → page_number (suc below) a ≡ page_number (suc below) b → region_number below a ≡ region_number below b
page_regions below a b same = sym (page_region below a) ∙ same ∙ page_region below b

-- ---- what holds of all that may be kept

-- what holds of the root, and of what is read where it holds of the table
pub record IsClosed (depth : Depth) (root : ℕ) (memory : Memory) (P : Kept → Type 0) : Type 0 where
  pub of_root : (address : ℕ) → IsCanonical depth address → P (PagingEntry (levels depth) (region_number (levels depth) address) root all_rights)
  pub of_table : (address below number next : ℕ) (rights own : Rights) → IsCanonical depth address
      → P (PagingEntry (suc below) (region_number (suc below) address) number rights)
      → found_at (suc below) memory number address ≡ Some (entry.Table next own)
      → P (PagingEntry below (region_number below address) next (intersection rights own))
  pub of_page : (address below number phys : ℕ) (rights own : Rights) → IsCanonical depth address
      → P (PagingEntry (suc below) (region_number (suc below) address) number rights)
      → found_at (suc below) memory number address ≡ Some (entry.Leaf phys own)
      → P (Translation (suc below) (page_number (suc below) address) phys (intersection rights own))

pub all_kept : {depth : Depth} {root : ℕ} {memory : Memory} {before P : Kept → Type 0} → IsClosed depth root memory P
    → ((kept : Kept) → before kept → P kept) → (kept : Kept) → MayKeepBy depth root memory before kept → P kept
all_kept closed first kept (KeptBefore k held) = first k held
all_kept closed first kept (OfRoot address canonical) = closed.of_root address canonical
all_kept closed first kept (OfTable address below number next rights own canonical table found) =
    closed.of_table address below number next rights own canonical (all_kept closed first _ table) found
all_kept closed first kept (OfPage address below number phys rights own canonical table found) =
    closed.of_page address below number phys rights own canonical (all_kept closed first _ table) found

-- what one could keep that began with nothing and read this memory alone
abbrev pub Reads : Depth → ℕ → Memory → Kept → Type 0
Reads depth root memory kept = MayKeep depth root (Is memory ∷ []) kept

pub reads_closed : (depth : Depth) (root : ℕ) (memory : Memory) → IsClosed depth root memory (Reads depth root memory)
reads_closed depth root memory = record {
  of_root = λ address canonical. OfRoot address canonical;
  of_table = λ address below number next rights own canonical table found. OfTable address below number next rights own canonical table found;
  of_page = λ address below number phys rights own canonical table found. OfPage address below number phys rights own canonical table found;
}

pub all_reads : {depth : Depth} {root : ℕ} {memory : Memory} {P : Kept → Type 0} → IsClosed depth root memory P
    → (kept : Kept) → Reads depth root memory kept → P kept
all_reads closed kept reads = all_kept closed (λ k none. absurd none) kept reads

pub stays_up_to_date : (depth : Depth) (root : ℕ) (memory : Memory) (moments : List Moment) → IsUpToDate depth root memory moments
    → IsUpToDate depth root memory (Is memory ∷ moments)
stays_up_to_date depth root memory moments is kept held = all_kept (reads_closed depth root memory) is kept held

-- ---- what is kept of a memory, and its walks

-- a kept translation is what the walk of each address of its page finds, and a kept entry leads to the table on the path of each address of its region
abbrev pub Agrees : Depth → ℕ → Memory → Kept → Type 0
Agrees depth root memory (Translation level page frame rights) =
    (address : ℕ) → page_number level address ≡ page
    → walk depth memory root address ≡ Mapped (frame + address % entry_bytes level) (size_at level) rights
Agrees depth root memory (PagingEntry level region number rights) =
    (address : ℕ) → region_number level address ≡ region → walk depth memory root address ≡ walk_from memory level number rights address

agrees_closed : (depth : Depth) (root : ℕ) (memory : Memory) → IsClosed depth root memory (Agrees depth root memory)
agrees_closed depth root memory = record {
  of_root = λ address canonical other same. refl;
  of_table = λ address below number next rights own canonical table found other same.
      table other (region_wider below other address same)
      ∙ walk_found memory below number rights other (entry.Table next own)
      (found_same (suc below) memory number other address (region_index below other address same) ∙ found);
  of_page = λ address below number phys rights own canonical table found other same.
      let region = page_regions below other address same in
      table other (region_wider below other address region)
      ∙ walk_found memory below number rights other (entry.Leaf phys own)
      (found_same (suc below) memory number other address (region_index below other address region) ∙ found);
}

pub entry_walk : (depth : Depth) (root : ℕ) (memory : Memory) (level region number : ℕ) (rights : Rights)
    → Reads depth root memory (PagingEntry level region number rights) → (address : ℕ) → region_number level address ≡ region
    → walk depth memory root address ≡ walk_from memory level number rights address
entry_walk depth root memory level region number rights reads address same =
    all_reads (agrees_closed depth root memory) (PagingEntry level region number rights) reads address same

pub translation_walk : (depth : Depth) (root : ℕ) (memory : Memory) (level page frame : ℕ) (rights : Rights)
    → Reads depth root memory (Translation level page frame rights) → (address : ℕ) → page_number level address ≡ page
    → walk depth memory root address ≡ Mapped (frame + address % entry_bytes level) (size_at level) rights
translation_walk depth root memory level page frame rights reads address same =
    all_reads (agrees_closed depth root memory) (Translation level page frame rights) reads address same

pub finds_walk : (depth : Depth) (root : ℕ) (memory : Memory) (moments : List Moment) (address : ℕ) (end : Walk)
    → IsUpToDate depth root memory moments → IsCanonical depth address → MayFind depth root memory moments address end
    → end ≡ walk depth memory root address
finds_walk depth root memory moments address end is canonical (ByTranslation level frame rights held) =
    sym (translation_walk depth root memory level (page_number level address) frame rights (is _ held) address refl)
finds_walk depth root memory moments address end is canonical (ByWalk level number rights held) =
    sym (entry_walk depth root memory level (region_number level address) number rights (is _ held) address refl)

-- ---- the tables that are kept are those on the paths

abbrev pub IsOnPaths : Depth → ℕ → Memory → Kept → Type 0
IsOnPaths depth root memory (Translation level page frame rights) = Unit {0}
IsOnPaths depth root memory (PagingEntry level region number rights) =
    (address : ℕ) → region_number level address ≡ region → table_at (levels depth) memory root level address ≡ Some number

on_paths_closed : (depth : Depth) (root : ℕ) (memory : Memory) → IsClosed depth root memory (IsOnPaths depth root memory)
on_paths_closed depth root memory = record {
  of_root = λ address canonical other same. table_first (levels depth) root memory other;
  of_table = λ address below number next rights own canonical table found other same.
      table_below (levels depth) root memory (suc below) below other number refl (table other (region_wider below other address same))
      ∙ ap table_in (found_same (suc below) memory number other address (region_index below other address same) ∙ found);
  of_page = λ address below number phys rights own canonical table found. tt;
}

pub entry_path : (depth : Depth) (root : ℕ) (memory : Memory) (level region number : ℕ) (rights : Rights)
    → Reads depth root memory (PagingEntry level region number rights) → (address : ℕ) → region_number level address ≡ region
    → table_at (levels depth) memory root level address ≡ Some number
entry_path depth root memory level region number rights reads address same =
    all_reads (on_paths_closed depth root memory) (PagingEntry level region number rights) reads address same
