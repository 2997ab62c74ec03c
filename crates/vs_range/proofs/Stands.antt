-- What a processor may keep while plans follow one another, before a flush.
use Rattle.std.proofs.Common.{◌≡◌, ◌≢◌, ℕ, suc, ◌≤◌, List, [], ◌∷◌, Contains, Some, ◌⊎◌, inl, inr, ⊎_elim, sym, ◌∙◌, arith}
use Rattle.std.specs.FinMap as finite
use Rattle.vs_types.proofs.Lists.{Contains-head, Contains-tail}
use Rattle.std.proofs.Common.{subst}
use Rattle.vs_types.specs.Depth.{IsCanonical}
use Rattle.vs_types.specs.Page.{intersection}
use Rattle.vs_types.specs.declared.addresses.depth.Depth.{Depth}
use Rattle.vs_types.specs.declared.addresses.page.Rights.{Rights}
use Rattle.vs_types.specs.declared.entries.entry.Meaning.TheVariants as entry
use Rattle.vs_walk.specs.Memory.{Memory}
use Rattle.vs_space.specs.Path.{found_at}
use Rattle.vs_space.proofs.Writes.{found_alike, get_written_other}
use Rattle.vs_plan.specs.declared.plans.plan.Flush.{Flush}
use Rattle.vs_plan.specs.declared.plans.plan.Store.{Store}
use Rattle.vs_plan.specs.Flushed.{while_stored}
use Rattle.vs_plan.specs.Processor.{page_number, region_number, Kept, Translation, PagingEntry, KeptBefore, OfRoot, OfTable, OfPage}
use Rattle.vs_plan.specs.Processor.{Moment, Is, MayKeep}
use Rattle.vs_plan.specs.Shown.{frames_of}
use Rattle.vs_plan.specs.Stores.{stored, stored_all}
use Rattle.vs_plan.proofs.Kept.{IsClosed, all_kept, Reads}
use Rattle.vs_range.specs.Several.{IsDroppedByOne}

-- a table that was unlinked, and may be kept still: its entries lead to no table, and the pages to which they lead are those of the memory, but
-- for what the flushes drop
pub record IsStale (depth : Depth) (root : ℕ) (memory : Memory) (flushes : List Flush) (gone : List ℕ) (level region number : ℕ)
    (rights : Rights) : Type 0 where
  pub named : Contains gone number
  pub dropped : IsDroppedByOne flushes (PagingEntry level region number rights)
  pub ends : (address next : ℕ) (own : Rights) → 1 ≤ level → IsCanonical depth address → region_number level address ≡ region
      → found_at level memory number address ≢ Some (entry.Table next own)
  pub pages : (address phys : ℕ) (own : Rights) → 1 ≤ level → IsCanonical depth address → region_number level address ≡ region
      → found_at level memory number address ≡ Some (entry.Leaf phys own)
      → (IsDroppedByOne flushes (Translation level (page_number level address) phys (intersection rights own)) → ⊥)
      → Reads depth root memory (Translation level (page_number level address) phys (intersection rights own))

-- what may be kept so far may be kept of this memory, but for what the flushes drop; and tables that were unlinked, of which those that count drop all
abbrev pub Stands : Depth → ℕ → Memory → List Flush → List Flush → List ℕ → Kept → Type 0
Stands depth root memory flushes counted gone (Translation level page frame rights) =
    (IsDroppedByOne flushes (Translation level page frame rights) → ⊥) → Reads depth root memory (Translation level page frame rights)
Stands depth root memory flushes counted gone (PagingEntry level region number rights) =
    Reads depth root memory (PagingEntry level region number rights) ⊎ IsStale depth root memory counted gone level region number rights

-- the last moment of stores is that of the memory after them
pub last_moment : (memory : Memory) (stores : List Store) (earlier : List Moment)
    → (before : List Moment) × (while_stored memory stores earlier ≡ Is (stored_all memory stores) ∷ before)
last_moment memory [] earlier = (earlier, λ i. Is memory ∷ earlier)
last_moment memory (s ∷ later) earlier = last_moment (stored memory s) later (Is memory ∷ earlier)

-- what was kept before the stores is kept after them
pub kept_on : (depth : Depth) (root : ℕ) (memory : Memory) (stores : List Store) (earlier : List Moment) (kept : Kept)
    → MayKeep depth root earlier kept → MayKeep depth root (while_stored memory stores earlier) kept
kept_on depth root memory [] earlier kept held = KeptBefore kept held
kept_on depth root memory (s ∷ later) earlier kept held = kept_on depth root (stored memory s) later (Is memory ∷ earlier) kept (KeptBefore kept held)

-- ---- while the stores of one plan are made

module _ (depth : Depth) (root : ℕ) (memory : Memory) (flushes counted : List Flush) (gone : List ℕ)
    (within : (kept : Kept) → IsDroppedByOne counted kept → IsDroppedByOne flushes kept) where
  -- reads of this memory add nothing to that
  pub stands_closed : IsClosed depth root memory (Stands depth root memory flushes counted gone)
  stands_closed = record {
    of_root = λ address canonical. inl (OfRoot address canonical);
    of_table = λ address below number next rights own canonical table found. ⊎_elim
        (λ held. inl (OfTable address below number next rights own canonical held found))
        (λ (stale : IsStale depth root memory counted gone (suc below) (region_number (suc below) address) number rights).
        absurd (stale.ends address next own (omega arith) canonical (λ i. region_number (suc below) address) found))
        table;
    of_page = λ address below number phys rights own canonical table found. ⊎_elim
        (λ held. λ spared. OfPage address below number phys rights own canonical held found)
        (λ (stale : IsStale depth root memory counted gone (suc below) (region_number (suc below) address) number rights). λ spared.
        stale.pages address phys own (omega arith) canonical (λ i. region_number (suc below) address) found
        (λ one. spared (within (Translation (suc below) (page_number (suc below) address) phys (intersection rights own)) one)))
        table;
  }

  -- beside a processor that began with what this memory says, what another may keep, but for what the flushes drop
  abbrev pub Beside : List Moment → Kept → Type 0
  Beside here (Translation level page frame rights) =
      (IsDroppedByOne flushes (Translation level page frame rights) → ⊥) → MayKeep depth root here (Translation level page frame rights)
  Beside here (PagingEntry level region number rights) =
      MayKeep depth root here (PagingEntry level region number rights) ⊎ IsStale depth root memory counted gone level region number rights

  pub begins_beside : (kept : Kept) → Stands depth root memory flushes counted gone kept → Beside (Is memory ∷ []) kept
  begins_beside (Translation level page frame rights) stands = stands
  begins_beside (PagingEntry level region number rights) stands = stands

  -- the frames that are gone are as they were
  abbrev pub AreAsBefore : Memory → Type 0
  AreAsBefore now = (number : ℕ) → Contains gone number → finite.get now number ≡ finite.get memory number

  -- it began with that
  abbrev pub HasRead : List Moment → Type 0
  HasRead here = (kept : Kept) → Reads depth root memory kept → MayKeep depth root here kept

  beside_before : (now : Memory) (here : List Moment) (kept : Kept) → Beside here kept → Beside (Is now ∷ here) kept
  beside_before now here (Translation level page frame rights) stands = λ spared. KeptBefore (Translation level page frame rights) (stands spared)
  beside_before now here (PagingEntry level region number rights) stands =
      ⊎_elim (λ held. inl (KeptBefore (PagingEntry level region number rights) held)) (λ stale. inr stale) stands

  beside_closed : (now : Memory) (here : List Moment) → AreAsBefore now → HasRead here → IsClosed depth root now (Beside (Is now ∷ here))
  beside_closed now here alike read = record {
    of_root = λ address canonical. inl (OfRoot address canonical);
    of_table = λ address below number next rights own canonical table found. ⊎_elim
        (λ held. inl (OfTable address below number next rights own canonical held found))
        (λ (stale : IsStale depth root memory counted gone (suc below) (region_number (suc below) address) number rights).
        absurd (stale.ends address next own (omega arith) canonical (λ i. region_number (suc below) address)
        (sym (found_alike (suc below) memory now number address (alike number stale.named)) ∙ found)))
        table;
    of_page = λ address below number phys rights own canonical table found. ⊎_elim
        (λ held. λ spared. OfPage address below number phys rights own canonical held found)
        (λ (stale : IsStale depth root memory counted gone (suc below) (region_number (suc below) address) number rights). λ spared.
        KeptBefore (Translation (suc below) (page_number (suc below) address) phys (intersection rights own))
        (read (Translation (suc below) (page_number (suc below) address) phys (intersection rights own))
        (stale.pages address phys own (omega arith) canonical (λ i. region_number (suc below) address)
        (sym (found_alike (suc below) memory now number address (alike number stale.named)) ∙ found)
        (λ one. spared (within (Translation (suc below) (page_number (suc below) address) phys (intersection rights own)) one)))))
        table;
  }

  -- one more moment
  beside_is : (now : Memory) (earlier here : List Moment) → AreAsBefore now → HasRead here
      → ((kept : Kept) → MayKeep depth root earlier kept → Beside here kept)
      → (kept : Kept) → MayKeep depth root (Is now ∷ earlier) kept → Beside (Is now ∷ here) kept
  beside_is now earlier here alike read first kept held =
      all_kept (beside_closed now here alike read) (λ k before. beside_before now here k (first k before)) kept held

  pub beside_stores : (now : Memory) (stores : List Store) (earlier here : List Moment) → AreAsBefore now
      → ((number : ℕ) → Contains gone number → Contains (frames_of stores) number → ⊥) → HasRead here
      → ((kept : Kept) → MayKeep depth root earlier kept → Beside here kept)
      → (kept : Kept) → MayKeep depth root (while_stored now stores earlier) kept → Beside (while_stored now stores here) kept
  beside_stores now [] earlier here alike spared read first = beside_is now earlier here alike read first
  beside_stores now (s ∷ later) earlier here alike spared read first =
      beside_stores (stored now s) later (Is now ∷ earlier) (Is now ∷ here)
      (λ number named. get_written_other now s.frame s.index s.new number (λ same. spared number named
      (subst (Contains (s.frame ∷ frames_of later)) (sym same) (Contains-head s.frame (frames_of later))))
      ∙ alike number named)
      (λ number named among. spared number named (Contains-tail s.frame (frames_of later) number among))
      (λ kept reads. KeptBefore kept (read kept reads))
      (beside_is now earlier here alike read first)
