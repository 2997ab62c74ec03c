-- One store, after which each table is reached as before.
use Rattle.std.proofs.Common.{◌≡◌, ◌≢◌, ℕ, zero, suc, ◌≤◌, List, ◌∷◌, Option, Some, IsSome, ◌⊎◌, inl, inr, ⊎_elim, refl, sym, subst, ◌∙◌, arith}
use Rattle.std.proofs.lemmas.Bool.{cases_eq}
use Rattle.std.specs.FinMap as finite
use Rattle.vs_types.specs.Depth.{IsCanonical}
use Rattle.vs_types.specs.Page.{intersection}
use Rattle.vs_types.specs.declared.addresses.depth.Depth.{Depth}
use Rattle.vs_types.specs.declared.addresses.page.Rights.{Rights}
use Rattle.vs_types.specs.declared.entries.entry.Meaning.{Meaning}
use Rattle.vs_types.specs.declared.entries.entry.Meaning.TheVariants as entry
use Rattle.vs_walk.specs.Memory.{Memory}
use Rattle.vs_walk.specs.Walk.{walk, walk_from}
use Rattle.vs_walk.specs.declared.walk.Walk.{Walk}
use Rattle.vs_walk.proofs.Walks.{walk_nowhere}
use Rattle.vs_space.specs.Held.{with_word}
use Rattle.vs_space.specs.Path.{found_at}
use Rattle.vs_space.proofs.Paths.{walk_found}
use Rattle.vs_space.proofs.Writes.{found_elsewhere}
use Rattle.vs_plan.specs.Processor.{page_number, region_number, Kept, Translation, PagingEntry, OfRoot, OfTable, OfPage}
use Rattle.vs_plan.specs.Processor.{Moment, Is, MayKeep, MayFind, ByTranslation, ByWalk, IsUpToDate}
use Rattle.vs_plan.proofs.Kept.{IsClosed, all_kept, Reads, all_reads, entry_walk, translation_walk}
use Rattle.vs_plan.proofs.Ways.{walk_alike}

-- in each table that is reached the entry is as before, or the table is reached in the new memory too
abbrev pub IsCalm : Depth → ℕ → Memory → Memory → Type 0
IsCalm depth root old new = (address level number : ℕ) (rights : Rights) → IsCanonical depth address
    → Reads depth root old (PagingEntry level (region_number level address) number rights)
    → (found_at level new number address ≡ found_at level old number address)
    ⊎ Reads depth root new (PagingEntry level (region_number level address) number rights)

module _ (depth : Depth) (root : ℕ) (old new : Memory) (calm : IsCalm depth root old new) where
  abbrev OfEither : Kept → Type 0
  OfEither kept = Reads depth root old kept ⊎ Reads depth root new kept

  either_closed : IsClosed depth root new OfEither
  either_closed = record {
    of_root = λ address canonical. inl (OfRoot address canonical);
    of_table = λ address below number next rights own canonical table found. ⊎_elim
        (λ reads. ⊎_elim
        (λ same. inl (OfTable address below number next rights own canonical reads (sym same ∙ found)))
        (λ again. inr (OfTable address below number next rights own canonical again found))
        (calm address (suc below) number rights canonical reads))
        (λ reads. inr (OfTable address below number next rights own canonical reads found))
        table;
    of_page = λ address below number phys rights own canonical table found. ⊎_elim
        (λ reads. ⊎_elim
        (λ same. inl (OfPage address below number phys rights own canonical reads (sym same ∙ found)))
        (λ again. inr (OfPage address below number phys rights own canonical again found))
        (calm address (suc below) number rights canonical reads))
        (λ reads. inr (OfPage address below number phys rights own canonical reads found))
        table;
  }

  -- what may be kept may be kept of the old memory or of the new one
  pub replaced_keeps : (earlier : List Moment) → IsUpToDate depth root old earlier → (kept : Kept) → MayKeep depth root (Is new ∷ earlier) kept
      → Reads depth root old kept ⊎ Reads depth root new kept
  replaced_keeps earlier is kept held = all_kept either_closed (λ k before. inl (is k before)) kept held

  module _ (address : ℕ) (canonical : IsCanonical depth address) where
    abbrev Ends : ℕ → Type 0
    Ends level = (number : ℕ) (rights : Rights) → Reads depth root old (PagingEntry level (region_number level address) number rights)
        → (walk_from new level number rights address ≡ walk depth old root address) ⊎ (walk_from new level number rights address ≡ walk depth new root address)

    ends_at : (below number : ℕ) (rights : Rights) → Ends below
        → Reads depth root old (PagingEntry (suc below) (region_number (suc below) address) number rights)
        → found_at (suc below) new number address ≡ found_at (suc below) old number address
        → (o : Option Meaning) → found_at (suc below) old number address ≡ o
        → (walk_from new (suc below) number rights address ≡ walk depth old root address)
        ⊎ (walk_from new (suc below) number rights address ≡ walk depth new root address)
    ends_at below number rights go reads same (Some (entry.Table next own)) found =
        let first = walk_found new below number rights address (entry.Table next own) (same ∙ found) in
        ⊎_elim (λ e. inl (first ∙ e)) (λ e. inr (first ∙ e))
        (go next (intersection rights own) (OfTable address below number next rights own canonical reads found))
    ends_at below number rights go reads same o found = inl (walk_alike old new below number rights address same o found (λ next own e. cc)
        ∙ sym (entry_walk depth root old (suc below) (region_number (suc below) address) number rights reads address refl))

    pub replaced_walk : (level : ℕ) → Ends level
    replaced_walk zero number rights reads = inl
        (walk_nowhere new number rights address ∙ sym (walk_nowhere old number rights address)
        ∙ sym (entry_walk depth root old 0 (region_number 0 address) number rights reads address refl))
    replaced_walk (suc below) number rights reads = ⊎_elim
        (λ same. ends_at below number rights (replaced_walk below) reads same (found_at (suc below) old number address) refl)
        (λ again. inr (sym (entry_walk depth root new (suc below) (region_number (suc below) address) number rights again address refl)))
        (calm address (suc below) number rights canonical reads)

    -- an access finds what the old memory or the new one says
    pub replaced_find : (moments : List Moment)
        → ((kept : Kept) → MayKeep depth root moments kept → Reads depth root old kept ⊎ Reads depth root new kept)
        → (end : Walk) → MayFind depth root new moments address end
        → (end ≡ walk depth old root address) ⊎ (end ≡ walk depth new root address)
    replaced_find moments either end (ByTranslation level frame rights held) = ⊎_elim
        (λ reads. inl (sym (translation_walk depth root old level (page_number level address) frame rights reads address refl)))
        (λ reads. inr (sym (translation_walk depth root new level (page_number level address) frame rights reads address refl)))
        (either (Translation level (page_number level address) frame rights) held)
    replaced_find moments either end (ByWalk level number rights held) = ⊎_elim
        (λ reads. replaced_walk level number rights reads)
        (λ reads. inr (sym (entry_walk depth root new level (region_number level address) number rights reads address refl)))
        (either (PagingEntry level (region_number level address) number rights) held)

-- ---- a word of a frame that is reached as a table of one level alone, if at all

module _ (depth : Depth) (root : ℕ) (memory : Memory) (frame index word height : ℕ) (used : IsSome (finite.get memory frame))
    (once : (level region : ℕ) (rights : Rights) → Reads depth root memory (PagingEntry level region frame rights) → level ≡ height) where
  -- tables of its level and above are reached as before
  abbrev IsAbove : Kept → Type 0
  IsAbove (Translation level page phys rights) = Unit {0}
  IsAbove (PagingEntry level region number rights) = Reads depth root memory (PagingEntry level region number rights)
      × (height ≤ level → Reads depth root (with_word memory frame index word) (PagingEntry level region number rights))

  above_closed : IsClosed depth root memory IsAbove
  above_closed = record {
    of_root = λ address canonical. (OfRoot address canonical, λ high. OfRoot address canonical);
    of_table = λ address below number next rights own canonical table found. (
      OfTable address below number next rights own canonical table.0 found,
      λ high. OfTable address below number next rights own canonical (table.1 (omega arith))
          (found_elsewhere (suc below) memory frame index word number address used
          (λ same there. past below (once (suc below) (region_number (suc below) address) rights
          (subst (λ n. Reads depth root memory (PagingEntry (suc below) (region_number (suc below) address) n rights)) same table.0)) high) ∙ found),
    );
    of_page = λ address below number phys rights own canonical table found. tt;
  } where
    past : (below : ℕ) → suc below ≡ height → height ≤ below → ⊥
    past below e le = omega arith

  pub word_calm : IsCalm depth root memory (with_word memory frame index word)
  word_calm address level number rights canonical reads = ⊎_elim
      (λ (same : number ≡ frame).
      let at = once level (region_number level address) rights
      (subst (λ n. Reads depth root memory (PagingEntry level (region_number level address) n rights)) same reads) in
      inr ((all_reads above_closed (PagingEntry level (region_number level address) number rights) reads).1 (omega arith)))
      (λ (other : number ≢ frame).
      inl (found_elsewhere level memory frame index word number address used (λ same there. other same)))
      (cases_eq number frame)
