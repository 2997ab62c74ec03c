-- Which flush suffices, by what the stores are and what they are for a root.
use Rattle.std.proofs.Common.{◌≡◌, ℕ, suc, List, [], ◌∷◌, All, Some, None, ⊎_elim, sym, ap, subst, ◌∙◌}
use Rattle.std.proofs.lemmas.List.Elements.{All-head, All-tail}
use Rattle.vs_types.specs.Depth.{levels}
use Rattle.vs_types.specs.Entry.{meaning}
use Rattle.vs_types.specs.declared.addresses.depth.Depth.{Depth}
use Rattle.vs_types.specs.declared.addresses.page.Rights.{Rights}
use Rattle.vs_types.specs.declared.addresses.page.Size.{Size}
use Rattle.vs_types.specs.declared.entries.entry.Meaning.TheVariants as entry
use Rattle.vs_walk.specs.Memory.{Memory}
use Rattle.vs_space.specs.Held.{word_at, with_word}
use Rattle.vs_space.specs.Path.{found_at, table_in, table_at}
use Rattle.vs_plan.specs.declared.plans.plan.Flush.{Flush}
use Rattle.vs_plan.specs.declared.plans.plan.Flush.TheVariants.{Nothing, Page, PageAndTables, Range}
use Rattle.vs_plan.specs.declared.plans.plan.Store.{Store}
use Rattle.vs_plan.specs.Processor.{region_number, PagingEntry}
use Rattle.vs_plan.specs.Stores.{stored, stored_all, FindTheirWords}
use Rattle.vs_plan.specs.Flushed.{Suffices}
use Rattle.vs_plan.proofs.Kept.{Reads}
use Rattle.vs_plan.proofs.Orders.{IsLess, less_refl, less_trans, less_reads, AllAdd, AllTake}
use Rattle.vs_plan.proofs.Stays.{KeepsLinks, ChangesPageAlone, ChangesRangeAlone, entry_stays, entry_reached}
use Rattle.vs_plan.proofs.Replaced.{IsCalm, word_calm}
use Rattle.vs_plan.proofs.WordOrders.{elsewhere_or_here, clear_is_less}
use Rattle.vs_plan.proofs.Sufficing.{IsSwitched, AreUnreached, adding_suffices, taking_suffices, passes_page, passes_tables, passes_range, switched_once}
use Rattle.vs_plan.proofs.Sufficing.{replacing_suffices}
use Rattle.vs_plan.proofs.Stored.{found_word, used_word}

-- ---- stores of 0

store_takes : (memory : Memory) (s : Store) → word_at memory s.frame s.index ≡ Some s.old → s.new ≡ 0 → IsLess (stored memory s) memory
store_takes memory s told clear = subst (λ w. IsLess (with_word memory s.frame s.index w) memory) (sym clear)
    (clear_is_less memory s.frame s.index (used_word memory s.frame s.index s.old told))

pub takes : (memory : Memory) (stores : List Store) → FindTheirWords memory stores → All (λ (s : Store). s.new ≡ 0) stores → AllTake memory stores
takes memory [] found all = tt
takes memory (s ∷ later) found all = (
  store_takes memory s found.0 (All-head (λ (s : Store). s.new ≡ 0) s later all),
  takes (stored memory s) later found.1 (All-tail (λ (s : Store). s.new ≡ 0) s later all),
)

-- ---- what the stores are

pub data HasForm (memory : Memory) : List Store → Flush → Type 0 where
  -- entries are added
  Adds : (stores : List Store) → AllAdd memory stores → HasForm memory stores Nothing
  -- entries are cleared, none of which led to a table
  Clears : (stores : List Store) (base : ℕ) (size : Size) → FindTheirWords memory stores → All (λ (s : Store). s.new ≡ 0) stores
      → HasForm memory stores (Page base size)
  -- entries are cleared
  Unlinks : (stores : List Store) (base : ℕ) (size : Size) → FindTheirWords memory stores → All (λ (s : Store). s.new ≡ 0) stores
      → HasForm memory stores (PageAndTables base size)
  -- one entry is changed, which led to no table
  Replaces : (s : Store) (base : ℕ) (size : Size) → FindTheirWords memory (s ∷ []) → HasForm memory (s ∷ []) (Page base size)
  -- one entry is changed, on whose way pages of another size lie then
  Resizes : (s : Store) (base : ℕ) (size : Size) → FindTheirWords memory (s ∷ []) → HasForm memory (s ∷ []) (Range base size)

-- ---- what they are for a root

-- this root's paths lead to the frame of a store at one level alone
abbrev pub IsOnceFor : Depth → Memory → ℕ → Store → Type 0
IsOnceFor depth memory root s = (height : ℕ) × ((level b : ℕ) → table_at (levels depth) memory root level b ≡ Some s.frame → level ≡ height)

-- and the word there led to no table
pub record IsEndFor (depth : Depth) (memory : Memory) (root : ℕ) (s : Store) : Type 0 where
  pub once : IsOnceFor depth memory root s
  pub ends : (level b : ℕ) → table_at (levels depth) memory root level b ≡ Some s.frame → table_in (Some (meaning level s.old)) ≡ None

-- what changes for its walks, and what was there, by what is flushed
abbrev pub AreFor : Depth → Memory → ℕ → List Store → Flush → Type 0
AreFor depth memory root stores Nothing = Unit {0}
AreFor depth memory root stores (Page base size) =
    ChangesPageAlone depth root memory (stored_all memory stores) base × All (IsEndFor depth memory root) stores
AreFor depth memory root stores (PageAndTables base size) = ChangesPageAlone depth root memory (stored_all memory stores) base
AreFor depth memory root stores (Range base size) =
    ChangesRangeAlone depth root memory (stored_all memory stores) base size × All (IsOnceFor depth memory root) stores

-- ---- links that stay

module _ (depth : Depth) (root : ℕ) (first : Memory) where
  -- a store leaves the links, where what is read is no more than what was read at first
  keeps_links : (memory : Memory) (s : Store) → IsLess memory first → IsEndFor depth first root s → word_at memory s.frame s.index ≡ Some s.old
      → KeepsLinks depth root memory (stored memory s)
  keeps_links memory s less end told a below number next rights allows canonical reads found = ⊎_elim
      (λ same. same ∙ found)
      (λ here.
      let at : Reads depth root memory (PagingEntry (suc below) (region_number (suc below) a) s.frame rights) =
      subst (λ n. Reads depth root memory (PagingEntry (suc below) (region_number (suc below) a) n rights)) here.0 reads in
      let reached = entry_reached depth root first (suc below) (region_number (suc below) a) s.frame rights
      (less_reads depth root memory first less (PagingEntry (suc below) (region_number (suc below) a) s.frame rights) at) in
      let none = end.ends (suc below) reached.0 reached.1 in
      let word = found_word (suc below) memory s.frame a s.old (ap (word_at memory s.frame) here.1 ∙ told) in
      let leads : found_at (suc below) memory s.frame a ≡ Some (entry.Table next allows) =
      subst (λ n. found_at (suc below) memory n a ≡ Some (entry.Table next allows)) here.0 found in
      let both : table_in (Some (entry.Table next allows)) ≡ None = ap table_in (sym leads ∙ word) ∙ none in
      absurd (cc))
      (elsewhere_or_here (suc below) memory s.frame s.index s.new number a (used_word memory s.frame s.index s.old told))

  -- so entries stay through stores of 0 that unlink nothing
  entries_stay : (memory : Memory) (stores : List Store) → IsLess memory first → FindTheirWords memory stores → All (λ (s : Store). s.new ≡ 0) stores
      → All (IsEndFor depth first root) stores → (level region number : ℕ) (rights : Rights) → Reads depth root memory (PagingEntry level region number rights)
      → Reads depth root (stored_all memory stores) (PagingEntry level region number rights)
  entries_stay memory [] less found clear ends level region number rights reads = reads
  entries_stay memory (s ∷ later) less found clear ends level region number rights reads =
      entries_stay (stored memory s) later
      (less_trans (stored memory s) memory first (store_takes memory s found.0 (All-head (λ (s : Store). s.new ≡ 0) s later clear)) less)
      found.1 (All-tail (λ (s : Store). s.new ≡ 0) s later clear) (All-tail (IsEndFor depth first root) s later ends) level region number rights
      (entry_stays depth root memory (stored memory s)
      (keeps_links memory s less (All-head (IsEndFor depth first root) s later ends) found.0) level region number rights reads)

-- ---- the flush suffices

module _ (depth : Depth) (root : ℕ) (memory : Memory) where
  pub calm_once : (s : Store) → FindTheirWords memory (s ∷ []) → IsOnceFor depth memory root s → IsCalm depth root memory (stored memory s)
  calm_once s found once = word_calm depth root memory s.frame s.index s.new once.0 (used_word memory s.frame s.index s.old found.0)
      (λ level region rights reads.
      let reached = entry_reached depth root memory level region s.frame rights reads in
      once.1 level reached.0 reached.1)

  pub form_suffices : (stores : List Store) (flush : Flush) (unlinked : List ℕ) → HasForm memory stores flush → IsSwitched depth root memory stores
      → AreUnreached depth root (stored_all memory stores) unlinked → AreFor depth memory root stores flush → Suffices depth root memory stores flush unlinked
  form_suffices _ _ unlinked (Adds stores adds) switched unreached are =
      adding_suffices depth root memory stores unlinked switched unreached adds
  form_suffices _ _ unlinked (Clears stores base size found clear) switched unreached are =
      taking_suffices depth root memory stores unlinked switched unreached (Page base size) (takes memory stores found clear)
      (passes_page depth root memory stores unlinked switched unreached base size are.0
      (entries_stay depth root memory memory stores (less_refl memory) found clear are.1))
  form_suffices _ _ unlinked (Unlinks stores base size found clear) switched unreached are =
      taking_suffices depth root memory stores unlinked switched unreached (PageAndTables base size) (takes memory stores found clear)
      (passes_tables depth root memory stores unlinked switched unreached base size are)
  form_suffices _ _ unlinked (Replaces s base size found) switched unreached are =
      let end = All-head (IsEndFor depth memory root) s [] are.1 in
      let calm = calm_once s found end.once in
      replacing_suffices depth root memory s unlinked calm unreached (Page base size)
      (passes_page depth root memory (s ∷ []) unlinked (switched_once depth root memory s unlinked calm unreached) unreached base size are.0
      (entry_stays depth root memory (stored memory s) (keeps_links depth root memory memory s (less_refl memory) end found.0)))
  form_suffices _ _ unlinked (Resizes s base size found) switched unreached are =
      let calm = calm_once s found (All-head (IsOnceFor depth memory root) s [] are.1) in
      replacing_suffices depth root memory s unlinked calm unreached (Range base size)
      (passes_range depth root memory (s ∷ []) unlinked (switched_once depth root memory s unlinked calm unreached) unreached base size are.0)
