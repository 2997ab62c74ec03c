-- What a processor may keep and what a plan asks of a memory don't depend on flags.
use Rattle.std.proofs.Common.{◌≡◌, ℕ, zero, suc, List, Option, Some, IsSome, refl, sym, ap, subst, ◌∙◌, arith, ◌≤◌}
use Rattle.std.specs.Prelude.{is_some}
use Rattle.std.specs.FinMap as finite
use Rattle.std.proofs.lemmas.List.Elements.{length_all_zip}
use Rattle.vs_types.specs.Depth.{levels}
use Rattle.vs_types.specs.Page.{intersection}
use Rattle.vs_types.specs.Space.{Space}
use Rattle.vs_types.specs.declared.addresses.depth.Depth.{Depth}
use Rattle.vs_types.specs.declared.addresses.page.Rights.{Rights}
use Rattle.vs_types.specs.declared.entries.entry.Meaning.{Meaning}
use Rattle.vs_types.specs.declared.entries.entry.Meaning.TheVariants as entry
use Rattle.vs_walk.specs.Memory.{Memory, AreWhole}
use Rattle.vs_walk.specs.Walk.{walk_from}
use Rattle.vs_walk.specs.declared.walk.Walk.{Walk}
use Rattle.vs_walk.proofs.Walks.{walk_nowhere}
use Rattle.vs_space.specs.Flags.{IsSameButFlags, AreSameButFlags}
use Rattle.vs_space.specs.Path.{found_at, table_at}
use Rattle.vs_space.proofs.Flagged.{flagged_found}
use Rattle.vs_space.proofs.Paths.{agree_table, walk_found}
use Rattle.vs_space.proofs.Writes.{words_in}
use Rattle.vs_plan.specs.declared.plans.plan.Flush.{Flush}
use Rattle.vs_plan.specs.declared.plans.plan.Store.{Store}
use Rattle.vs_plan.specs.Flushed.{Suffices}
use Rattle.vs_plan.specs.Lived.{AreButFlags, AsTold, Next, Later, Flushed, SufficesButFlags}
use Rattle.vs_plan.specs.Premise.{IsPremise, HasOwnWay}
use Rattle.vs_plan.specs.Processor.{region_number, Kept, PagingEntry, MayKeepBy, KeptBefore, OfRoot, OfTable, OfPage, Moment, MayKeep, MayFind, ByTranslation}
use Rattle.vs_plan.specs.Processor.{ByWalk, IsUpToDate}
use Rattle.vs_plan.proofs.Kept.{IsClosed, Reads, all_kept, all_reads}
use Rattle.vs_plan.proofs.OtherFlags.{same_translations}
use Rattle.vs_plan.proofs.Ways.{walk_alike}

-- what may be kept of a memory may be kept of another in which the same is found
alike_closed : (depth : Depth) (root : ℕ) (m m' : Memory) (before : Kept → Type 0)
    → ((level number address : ℕ) → 1 ≤ level → found_at level m' number address ≡ found_at level m number address)
    → IsClosed depth root m (MayKeepBy depth root m' before)
alike_closed depth root m m' before alike = record {
  of_root = λ address canonical. OfRoot address canonical;
  of_table = λ address below number next rights own canonical table found.
      OfTable address below number next rights own canonical table (alike (suc below) number address (omega arith) ∙ found);
  of_page = λ address below number phys rights own canonical table found.
      OfPage address below number phys rights own canonical table (alike (suc below) number address (omega arith) ∙ found);
}

-- ---- the memory

module _ {old new : Memory} (is : AreSameButFlags old new) where
  pub flags_table : (depth : Depth) (root level address : ℕ) → table_at (levels depth) new root level address ≡ table_at (levels depth) old root level address
  flags_table depth root level address = agree_table (levels depth) root old new address level
      (λ j number above at. flagged_found is j number address (omega (arith, above)))

  pub flags_own : (depth : Depth) (root address : ℕ) → HasOwnWay depth old root address → HasOwnWay depth new root address
  flags_own depth root address own = record {
    once = λ level number other b at there. own.once level number other b
        (sym (flags_table depth root level address) ∙ at) (sym (flags_table depth root other b) ∙ there);
  }

  pub flags_whole : AreWhole old → AreWhole new
  flags_whole whole number words got =
      let used : IsSome (finite.get old number) = sym (is.frames number) ∙ ap is_some got in
      let before = words_in old number used in
      sym (length_all_zip IsSameButFlags _ words (is.words number _ words before got)) ∙ whole number _ before

  pub flags_premise : (depth : Depth) (root address : ℕ) (space : Space) → IsPremise depth old root address space → IsPremise depth new root address space
  flags_premise depth root address space premise = record {
    whole = flags_whole premise.whole;
    is_space = premise.is_space;
    translates = same_translations is depth root space premise.translates;
    own = flags_own depth root address premise.own;
  }

  pub flags_walk : (level number : ℕ) (rights : Rights) (address : ℕ) → walk_from new level number rights address ≡ walk_from old level number rights address
  flags_walk zero number rights address = walk_nowhere new number rights address ∙ sym (walk_nowhere old number rights address)
  flags_walk (suc below) number rights address =
      by (λ next own. flags_walk below next own address) (found_at (suc below) old number address) refl
    where
      same : found_at (suc below) new number address ≡ found_at (suc below) old number address
      same = flagged_found is (suc below) number address (omega arith)

      by : ((next : ℕ) (own : Rights) → walk_from new below next own address ≡ walk_from old below next own address) → (o : Option Meaning)
          → found_at (suc below) old number address ≡ o
          → walk_from new (suc below) number rights address ≡ walk_from old (suc below) number rights address
      by go (Some (entry.Table next own)) found =
          walk_found new below number rights address (entry.Table next own) (same ∙ found) ∙ go next (intersection rights own)
          ∙ sym (walk_found old below number rights address (entry.Table next own) found)
      by go o found = walk_alike old new below number rights address same o found (λ next own e. cc)

  -- ---- what is kept

  new_closed : (depth : Depth) (root : ℕ) (before : Kept → Type 0) → IsClosed depth root new (MayKeepBy depth root old before)
  new_closed depth root before = alike_closed depth root new old before (λ level number address some. sym (flagged_found is level number address some))

  pub flags_reads : (depth : Depth) (root : ℕ) (kept : Kept) → Reads depth root old kept → Reads depth root new kept
  flags_reads depth root kept reads = all_reads (alike_closed depth root old new (λ k. ⊥) (flagged_found is)) kept reads

  pub flags_read : (depth : Depth) (root : ℕ) (kept : Kept) → Reads depth root new kept → Reads depth root old kept
  flags_read depth root kept reads = all_reads (new_closed depth root (λ k. ⊥)) kept reads

pub lived_kept : (depth : Depth) (root : ℕ) (lived told : List Moment) → AreButFlags lived told → (kept : Kept) → MayKeep depth root lived kept
    → MayKeep depth root told kept
lived_kept depth root lived told (AsTold moments) kept held = held
lived_kept depth root lived told (Next before said memory now are same) kept held =
    all_kept (new_closed same depth root (MayKeep depth root said)) (λ k was. KeptBefore k (lived_kept depth root before said are k was)) kept held
lived_kept depth root lived told (Later before said memory now are same) kept held =
    all_kept (new_closed same depth root (MayKeep depth root said)) (λ k was. lived_kept depth root before _ are k was) kept held
lived_kept depth root lived told (Flushed before said flush are) kept held = (lived_kept depth root before said are kept held.0, held.1)

module _ (depth : Depth) (root : ℕ) (lived told : List Moment) (memory now : Memory) (are : AreButFlags lived told) (same : AreSameButFlags memory now) where
  pub lived_up_to_date : IsUpToDate depth root memory told → IsUpToDate depth root now lived
  lived_up_to_date is kept held = flags_reads same depth root kept (is kept (lived_kept depth root lived told are kept held))

  pub lived_finds : (address : ℕ) (end : Walk) → MayFind depth root now lived address end → MayFind depth root memory told address end
  lived_finds address end (ByTranslation level frame rights held) =
      ByTranslation level frame rights (lived_kept depth root lived told are _ held)
  lived_finds address end (ByWalk level number rights held) =
      subst (MayFind depth root memory told address) (sym (flags_walk same level number rights address))
      (ByWalk level number rights (lived_kept depth root lived told are (PagingEntry level (region_number level address) number rights) held))

pub lived_suffices : (depth : Depth) (root : ℕ) (memory : Memory) (stores : List Store) (flush : Flush) (unlinked : List ℕ)
    → Suffices depth root memory stores flush unlinked → SufficesButFlags depth root memory stores flush unlinked
lived_suffices depth root memory stores flush unlinked suffices = record {
  between = λ earlier lived done address now end is low canonical are same found.
      suffices.between earlier done address end is low canonical (lived_finds depth root lived _ _ now are same address end found);
  after = λ earlier lived now is are same.
      lived_up_to_date depth root _ _ _ now (Flushed lived _ flush are) same (suffices.after earlier is);
  freed = λ moments level region number rights now same is named held.
      suffices.freed moments level region number rights (λ kept held. flags_read same depth root kept (is kept held)) named held;
}
