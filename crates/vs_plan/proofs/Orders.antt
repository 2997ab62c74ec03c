-- Memories of which one has entries that the other lacks.
use Rattle.std.proofs.Common.{◌≡◌, ℕ, zero, suc, List, [], ◌∷◌, Option, Some, ◌⊎◌, inl, inr, ⊎_elim, refl, sym, ◌∙◌}
use Rattle.std.proofs.lemmas.Option.{same_Some}
use Rattle.vs_types.specs.Page.{intersection}
use Rattle.vs_types.specs.declared.addresses.depth.Depth.{Depth}
use Rattle.vs_types.specs.declared.addresses.page.Rights.{Rights}
use Rattle.vs_types.specs.declared.entries.entry.Meaning.{Meaning}
use Rattle.vs_types.specs.declared.entries.entry.Meaning.TheVariants as entry
use Rattle.vs_walk.specs.Memory.{Memory}
use Rattle.vs_walk.specs.Walk.{walk, walk_from}
use Rattle.vs_walk.specs.declared.walk.Walk.{Walk}
use Rattle.vs_walk.specs.declared.walk.Walk.TheVariants.{NotMapped}
use Rattle.vs_walk.proofs.Walks.{walk_nowhere}
use Rattle.vs_space.specs.Path.{found_at}
use Rattle.vs_space.proofs.Paths.{walk_found, found_same}
use Rattle.vs_plan.specs.Processor.{page_number, region_number, Kept, Translation, PagingEntry, OfRoot, OfTable, OfPage}
use Rattle.vs_plan.specs.Processor.{Moment, Is, MayFind, ByTranslation, ByWalk, IsUpToDate}
use Rattle.vs_plan.specs.Stores.{stored, stored_all}
use Rattle.vs_plan.specs.Flushed.{while_stored}
use Rattle.vs_plan.specs.declared.plans.plan.Store.{Store}
use Rattle.vs_plan.proofs.Kept.{IsClosed, all_kept, Reads, all_reads, stays_up_to_date, entry_walk, translation_walk, region_index, region_wider}
use Rattle.vs_plan.proofs.Ways.{walk_alike}

-- each entry of the first memory is as in the second, or absent
abbrev pub IsLess : Memory → Memory → Type 0
IsLess less more = (level number address : ℕ)
    → (found_at level less number address ≡ found_at level more number address) ⊎ (found_at level less number address ≡ Some entry.Absent)

pub less_refl : (memory : Memory) → IsLess memory memory
less_refl memory level number address = inl refl

pub less_trans : (a b c : Memory) → IsLess a b → IsLess b c → IsLess a c
less_trans a b c first second level number address = ⊎_elim
    (λ same. ⊎_elim (λ again. inl (same ∙ again)) (λ none. inr (same ∙ none)) (second level number address))
    (λ none. inr none)
    (first level number address)

-- what leads on in the first memory does so in the second
less_found : (less more : Memory) → IsLess less more → (level number address : ℕ) (means : Meaning) → (means ≡ entry.Absent → ⊥)
    → found_at level less number address ≡ Some means → found_at level more number address ≡ Some means
less_found less more is level number address means some found = ⊎_elim
    (λ same. sym same ∙ found)
    (λ none. absurd (some (same_Some means entry.Absent (sym found ∙ none))))
    (is level number address)

less_closed : (depth : Depth) (root : ℕ) (less more : Memory) → IsLess less more → IsClosed depth root less (Reads depth root more)
less_closed depth root less more is = record {
  of_root = λ address canonical. OfRoot address canonical;
  of_table = λ address below number next rights own canonical table found.
      OfTable address below number next rights own canonical table
      (less_found less more is (suc below) number address (entry.Table next own) (λ e. cc) found);
  of_page = λ address below number phys rights own canonical table found.
      OfPage address below number phys rights own canonical table
      (less_found less more is (suc below) number address (entry.Leaf phys own) (λ e. cc) found);
}

pub less_reads : (depth : Depth) (root : ℕ) (less more : Memory) → IsLess less more → (kept : Kept) → Reads depth root less kept → Reads depth root more kept
less_reads depth root less more is kept reads = all_reads (less_closed depth root less more is) kept reads

-- ---- walks in the lesser memory

-- the walks from each table of a level are so
abbrev Goes : Memory → Memory → ℕ → ℕ → Type 0
Goes less more level address = (next : ℕ) (own : Rights)
    → (walk_from less level next own address ≡ walk_from more level next own address) ⊎ (walk_from less level next own address ≡ NotMapped)

-- a walk of the lesser memory goes as in the other, or ends at an absent entry
pub less_walk : (less more : Memory) → IsLess less more → (level number : ℕ) (rights : Rights) (address : ℕ)
    → (walk_from less level number rights address ≡ walk_from more level number rights address) ⊎ (walk_from less level number rights address ≡ NotMapped)
less_walk less more is zero number rights address = inl (walk_nowhere less number rights address ∙ sym (walk_nowhere more number rights address))
less_walk less more is (suc below) number rights address = ⊎_elim
    (λ same. by (λ next own. less_walk less more is below next own address) (found_at (suc below) less number address) refl same)
    (λ none. inr (walk_found less below number rights address entry.Absent none))
    (is (suc below) number address)
  where
    by : Goes less more below address → (o : Option Meaning) → found_at (suc below) less number address ≡ o
        → found_at (suc below) less number address ≡ found_at (suc below) more number address
        → (walk_from less (suc below) number rights address ≡ walk_from more (suc below) number rights address)
        ⊎ (walk_from less (suc below) number rights address ≡ NotMapped)
    by go (Some (entry.Table next own)) is same =
        let here = walk_found less below number rights address (entry.Table next own) is in
        let there = walk_found more below number rights address (entry.Table next own) (sym same ∙ is) in
        ⊎_elim (λ e. inl (here ∙ e ∙ sym there)) (λ e. inr (here ∙ e)) (go next (intersection rights own))
    by go o is same = inl (walk_alike more less below number rights address same o (sym same ∙ is) (λ next own e. cc))

-- a kept entry of the other memory is one of the lesser too, or nothing of its region is mapped there
abbrev LeadsOrEnds : Depth → ℕ → Memory → Kept → Type 0
LeadsOrEnds depth root less (Translation level page frame rights) = Unit {0}
LeadsOrEnds depth root less (PagingEntry level region number rights) = (address : ℕ) → region_number level address ≡ region
    → Reads depth root less (PagingEntry level region number rights) ⊎ (walk depth less root address ≡ NotMapped)

leads_closed : (depth : Depth) (root : ℕ) (less more : Memory) → IsLess less more → IsClosed depth root more (LeadsOrEnds depth root less)
leads_closed depth root less more is = record {
  of_root = λ address canonical other same. inl (OfRoot address canonical);
  of_table = λ address below number next rights own canonical table found other same.
      let wider = region_wider below other address same in
      ⊎_elim
      (λ reads. ⊎_elim
      (λ alike. inl (OfTable address below number next rights own canonical reads (alike ∙ found)))
      (λ none. inr (entry_walk depth root less (suc below) (region_number (suc below) address) number rights reads other wider
      ∙ walk_found less below number rights other entry.Absent
      (found_same (suc below) less number other address (region_index below other address same) ∙ none)))
      (is (suc below) number address))
      (λ nothing. inr nothing)
      (table other wider);
  of_page = λ address below number phys rights own canonical table found. tt;
}

-- a walk of the lesser memory from a kept entry of the other
pub less_from : (depth : Depth) (root : ℕ) (less more : Memory) → IsLess less more → (level number : ℕ) (rights : Rights) (address : ℕ)
    → Reads depth root more (PagingEntry level (region_number level address) number rights)
    → (walk_from less level number rights address ≡ walk depth more root address) ⊎ (walk_from less level number rights address ≡ walk depth less root address)
less_from depth root less more is level number rights address reads = ⊎_elim
    (λ same. inl (same ∙ sym (entry_walk depth root more level (region_number level address) number rights reads address refl)))
    (λ ends. inr (⊎_elim
    (λ leads. sym (entry_walk depth root less level (region_number level address) number rights leads address refl))
    (λ nothing. ends ∙ sym nothing)
    (all_reads (leads_closed depth root less more is) (PagingEntry level (region_number level address) number rights) reads address refl)))
    (less_walk less more is level number rights address)

-- ---- stores one after another

-- each store keeps the entries that are not absent
abbrev pub AllAdd : Memory → List Store → Type 0
AllAdd memory [] = Unit {0}
AllAdd memory (store ∷ later) = IsLess memory (stored memory store) × AllAdd (stored memory store) later

-- each store makes entries absent, and changes nothing else
abbrev pub AllTake : Memory → List Store → Type 0
AllTake memory [] = Unit {0}
AllTake memory (store ∷ later) = IsLess (stored memory store) memory × AllTake (stored memory store) later

-- after stores that add, a processor is up to date with no flush
pub added : (depth : Depth) (root : ℕ) (memory : Memory) (stores : List Store) (earlier : List Moment) → AllAdd memory stores
    → IsUpToDate depth root memory earlier → IsUpToDate depth root (stored_all memory stores) (while_stored memory stores earlier)
added depth root memory [] earlier all is = stays_up_to_date depth root memory earlier is
added depth root memory (store ∷ later) earlier all is = added depth root (stored memory store) later (Is memory ∷ earlier) all.1
    (λ kept held. less_reads depth root memory (stored memory store) all.0 kept (stays_up_to_date depth root memory earlier is kept held))

-- after stores that take away, it keeps no more than before them
pub taken : (depth : Depth) (root : ℕ) (first memory : Memory) (stores : List Store) (earlier : List Moment) → IsLess memory first → AllTake memory stores
    → IsUpToDate depth root first earlier
    → IsUpToDate depth root first (while_stored memory stores earlier) × IsLess (stored_all memory stores) first
taken depth root first memory [] earlier less all is = (λ kept held. all_kept (less_closed depth root memory first less) is kept held, less)
taken depth root first memory (store ∷ later) earlier less all is =
    taken depth root first (stored memory store) later (Is memory ∷ earlier) (less_trans (stored memory store) memory first all.0 less) all.1
    (λ kept held. all_kept (less_closed depth root memory first less) is kept held)

-- what an access finds meanwhile
pub taken_find : (depth : Depth) (root : ℕ) (less first : Memory) (moments : List Moment) → IsUpToDate depth root first moments → IsLess less first
    → (address : ℕ) (end : Walk) → MayFind depth root less moments address end
    → (end ≡ walk depth first root address) ⊎ (end ≡ walk depth less root address)
taken_find depth root less first moments is smaller address end (ByTranslation level frame rights held) =
    inl (sym (translation_walk depth root first level (page_number level address) frame rights (is _ held) address refl))
taken_find depth root less first moments is smaller address end (ByWalk level number rights held) =
    less_from depth root less first smaller level number rights address (is _ held)
