-- Which flush suffices after stores that add, after stores that take away, and after one store that changes an entry.
use Rattle.std.proofs.Common.{◌≡◌, ℕ, zero, suc, ◌≤◌, List, [], ◌∷◌, take, length, Contains, Some, ◌⊎◌, inl, inr, ⊎_elim, refl, ◌∙◌}
use Rattle.vs_types.specs.Depth.{levels, IsCanonical}
use Rattle.vs_types.specs.declared.addresses.depth.Depth.{Depth}
use Rattle.vs_types.specs.declared.addresses.page.Rights.{Rights}
use Rattle.vs_types.specs.declared.addresses.page.Size.{Size}
use Rattle.vs_walk.specs.Memory.{Memory}
use Rattle.vs_walk.specs.Walk.{walk}
use Rattle.vs_walk.specs.declared.walk.Walk.{Walk}
use Rattle.vs_space.specs.Path.{table_at}
use Rattle.vs_plan.specs.declared.plans.plan.Flush.{Flush}
use Rattle.vs_plan.specs.declared.plans.plan.Flush.TheVariants.{Nothing, Page, PageAndTables, Range}
use Rattle.vs_plan.specs.declared.plans.plan.Store.{Store}
use Rattle.vs_plan.specs.Processor.{Kept, Translation, PagingEntry, Moment, Is, IsDropped, MayKeep, MayFind, IsUpToDate}
use Rattle.vs_plan.specs.Stores.{stored, stored_all}
use Rattle.vs_plan.specs.Flushed.{while_stored, Suffices}
use Rattle.vs_plan.proofs.Kept.{Reads, finds_walk, stays_up_to_date}
use Rattle.vs_plan.proofs.Orders.{less_refl, AllAdd, AllTake, added, taken, taken_find}
use Rattle.vs_plan.proofs.Stays.{ChangesPageAlone, ChangesRangeAlone, translation_or_page, translation_or_range, entry_reached}
use Rattle.vs_plan.proofs.Replaced.{IsCalm, replaced_keeps, replaced_find}

-- after each number of stores, walks end as before all of them or as after all of them
abbrev pub IsSwitched : Depth → ℕ → Memory → List Store → Type 0
IsSwitched depth root memory stores = (done address : ℕ) → done ≤ length stores → IsCanonical depth address
    → (walk depth (stored_all memory (take done stores)) root address ≡ walk depth memory root address)
    ⊎ (walk depth (stored_all memory (take done stores)) root address ≡ walk depth (stored_all memory stores) root address)

-- no path leads to these frames
abbrev pub AreUnreached : Depth → ℕ → Memory → List ℕ → Type 0
AreUnreached depth root memory unlinked =
    (number : ℕ) → Contains unlinked number → (level address : ℕ) → table_at (levels depth) memory root level address ≡ Some number → ⊥

module _ (depth : Depth) (root : ℕ) (memory : Memory) (stores : List Store) (unlinked : List ℕ) (switched : IsSwitched depth root memory stores)
    (unreached : AreUnreached depth root (stored_all memory stores) unlinked) where
  leads_nowhere : (moments : List Moment) (level region number : ℕ) (rights : Rights) → IsUpToDate depth root (stored_all memory stores) moments
      → Contains unlinked number → MayKeep depth root moments (PagingEntry level region number rights) → ⊥
  leads_nowhere moments level region number rights is named held =
      let reached = entry_reached depth root (stored_all memory stores) level region number rights (is (PagingEntry level region number rights) held) in
      unreached number named level reached.0 reached.1

  -- what is kept of the memory before the stores is dropped, or may be kept of the memory after them
  abbrev pub Passes : Flush → Type 0
  Passes flush = (kept : Kept) → Reads depth root memory kept → (IsDropped flush kept → ⊥) → Reads depth root (stored_all memory stores) kept

  -- ---- stores that add

  add_take : (m : Memory) (n : ℕ) (some : List Store) → AllAdd m some → AllAdd m (take n some)
  add_take m (suc n) (store ∷ later) all = (all.0, add_take (stored m store) n later all.1)
  add_take m _ _ all = tt

  pub adding_suffices : AllAdd memory stores → Suffices depth root memory stores Nothing unlinked
  adding_suffices all = record {
    between = λ earlier done address end is low canonical found.
        let ended = finds_walk depth root (stored_all memory (take done stores)) (while_stored memory (take done stores) earlier) address end
        (added depth root memory (take done stores) earlier (add_take memory done stores all) is) canonical found in
        ⊎_elim (λ e. inl (ended ∙ e)) (λ e. inr (ended ∙ e)) (switched done address low canonical);
    after = λ earlier is kept held. added depth root memory stores earlier all is kept held.0;
    freed = leads_nowhere;
  }

  -- ---- stores that take away

  take_take : (m : Memory) (n : ℕ) (some : List Store) → AllTake m some → AllTake m (take n some)
  take_take m (suc n) (store ∷ later) all = (all.0, take_take (stored m store) n later all.1)
  take_take m _ _ all = tt

  pub taking_suffices : (flush : Flush) → AllTake memory stores → Passes flush → Suffices depth root memory stores flush unlinked
  taking_suffices flush all passes = record {
    between = λ earlier done address end is low canonical found.
        let kept = taken depth root memory memory (take done stores) earlier (less_refl memory) (take_take memory done stores all) is in
        ⊎_elim
        (λ e. inl e)
        (λ e. ⊎_elim (λ s. inl (e ∙ s)) (λ s. inr (e ∙ s)) (switched done address low canonical))
        (taken_find depth root (stored_all memory (take done stores)) memory (while_stored memory (take done stores) earlier) kept.0 kept.1 address end found);
    after = λ earlier is kept held. passes kept ((taken depth root memory memory stores earlier (less_refl memory) all is).0 kept held.0) held.1;
    freed = leads_nowhere;
  }

  -- ---- what the flush of a page drops, with the tables or not

  pub passes_page : (base : ℕ) (size : Size) → ChangesPageAlone depth root memory (stored_all memory stores) base
      → ((level region number : ℕ) (rights : Rights) → Reads depth root memory (PagingEntry level region number rights)
      → Reads depth root (stored_all memory stores) (PagingEntry level region number rights)) → Passes (Page base size)
  passes_page base size alone links (Translation level page frame rights) reads held = ⊎_elim (λ r. r) (λ there. absurd (held there))
      (translation_or_page depth root memory (stored_all memory stores) base alone level page frame rights reads)
  passes_page base size alone links (PagingEntry level region number rights) reads held = links level region number rights reads

  pub passes_tables : (base : ℕ) (size : Size) → ChangesPageAlone depth root memory (stored_all memory stores) base → Passes (PageAndTables base size)
  passes_tables base size alone (Translation level page frame rights) reads held = ⊎_elim (λ r. r) (λ there. absurd (held there))
      (translation_or_page depth root memory (stored_all memory stores) base alone level page frame rights reads)
  passes_tables base size alone (PagingEntry level region number rights) reads held = absurd (held tt)

  pub passes_range : (base : ℕ) (size : Size) → ChangesRangeAlone depth root memory (stored_all memory stores) base size → Passes (Range base size)
  passes_range base size alone (Translation level page frame rights) reads held = ⊎_elim (λ r. r) (λ there. absurd (held there))
      (translation_or_range depth root memory (stored_all memory stores) base size alone level page frame rights reads)
  passes_range base size alone (PagingEntry level region number rights) reads held = absurd (held tt)

-- ---- one store

module _ (depth : Depth) (root : ℕ) (memory : Memory) (store : Store) (unlinked : List ℕ) (calm : IsCalm depth root memory (stored memory store))
    (unreached : AreUnreached depth root (stored memory store) unlinked) where
  pub switched_once : IsSwitched depth root memory (store ∷ [])
  switched_once zero address low canonical = inl refl
  switched_once (suc done) address low canonical = inr (again done) where
    again : (n : ℕ) → walk depth (stored_all memory (store ∷ take n [])) root address ≡ walk depth (stored memory store) root address
    again zero = refl
    again (suc n) = refl

  find_once : (earlier : List Moment) (done address : ℕ) (end : Walk) → IsUpToDate depth root memory earlier → IsCanonical depth address
      → MayFind depth root (stored_all memory (take done (store ∷ []))) (while_stored memory (take done (store ∷ [])) earlier) address end
      → (end ≡ walk depth memory root address) ⊎ (end ≡ walk depth (stored memory store) root address)
  find_once earlier zero address end is canonical found =
      inl (finds_walk depth root memory (Is memory ∷ earlier) address end (stays_up_to_date depth root memory earlier is) canonical found)
  find_once earlier (suc zero) address end is canonical found =
      replaced_find depth root memory (stored memory store) calm address canonical (Is (stored memory store) ∷ Is memory ∷ earlier)
      (replaced_keeps depth root memory (stored memory store) calm (Is memory ∷ earlier) (stays_up_to_date depth root memory earlier is)) end found
  find_once earlier (suc (suc done)) address end is canonical found =
      replaced_find depth root memory (stored memory store) calm address canonical (Is (stored memory store) ∷ Is memory ∷ earlier)
      (replaced_keeps depth root memory (stored memory store) calm (Is memory ∷ earlier) (stays_up_to_date depth root memory earlier is)) end found

  pub replacing_suffices : (flush : Flush) → Passes depth root memory (store ∷ []) unlinked switched_once unreached flush
      → Suffices depth root memory (store ∷ []) flush unlinked
  replacing_suffices flush passes = record {
    between = λ earlier done address end is low canonical found. find_once earlier done address end is canonical found;
    after = λ earlier is kept held. ⊎_elim (λ old. passes kept old held.1) (λ new. new)
        (replaced_keeps depth root memory (stored memory store) calm (Is memory ∷ earlier) (stays_up_to_date depth root memory earlier is) kept held.0);
    freed = leads_nowhere depth root memory (store ∷ []) unlinked switched_once unreached;
  }
