-- Frames that no way leads to are not read.
use Rattle.std.proofs.Common.{◌≡◌, ℕ, suc, List, ◌∷◌, ◌∙◌}
use Rattle.vs_types.specs.declared.addresses.depth.Depth.{Depth}
use Rattle.vs_types.specs.declared.addresses.page.Rights.{Rights}
use Rattle.vs_walk.specs.Memory.{Memory}
use Rattle.vs_space.specs.Path.{found_at}
use Rattle.vs_space.proofs.Writes.{found_alike}
use Rattle.vs_plan.specs.Other.{HasSameTables}
use Rattle.vs_plan.specs.Processor.{region_number, Kept, PagingEntry, OfRoot, OfTable, OfPage, Moment, Is, IsUpToDate}
use Rattle.vs_plan.proofs.Kept.{IsClosed, Reads, all_kept, all_reads, reads_closed}
use Rattle.vs_plan.proofs.Stays.{entry_reached}

module _ (depth : Depth) (root : ℕ) (old new : Memory) (same : HasSameTables depth root old new) where
  found_same : (below address number : ℕ) (rights : Rights) → Reads depth root old (PagingEntry (suc below) (region_number (suc below) address) number rights)
      → found_at (suc below) new number address ≡ found_at (suc below) old number address
  found_same below address number rights reads =
      let reached = entry_reached depth root old (suc below) (region_number (suc below) address) number rights reads in
      found_alike (suc below) old new number address (same (suc below) reached.0 number reached.1)

  abbrev IsOfBoth : Kept → Type 0
  IsOfBoth kept = Reads depth root old kept × Reads depth root new kept

  both_closed : IsClosed depth root old IsOfBoth
  both_closed = record {
    of_root = λ address canonical. (OfRoot address canonical, OfRoot address canonical);
    of_table = λ address below number next rights own canonical table found. (
      OfTable address below number next rights own canonical table.0 found,
      OfTable address below number next rights own canonical table.1 (found_same below address number rights table.0 ∙ found),
    );
    of_page = λ address below number phys rights own canonical table found. (
      OfPage address below number phys rights own canonical table.0 found,
      OfPage address below number phys rights own canonical table.1 (found_same below address number rights table.0 ∙ found),
    );
  }

  pub unread_keeps : (moments : List Moment) → IsUpToDate depth root old moments → IsUpToDate depth root new (Is new ∷ moments)
  unread_keeps moments is kept held =
      all_kept (reads_closed depth root new) (λ k before. (all_reads both_closed k (is k before)).1) kept held
