-- The least that a flush drops.
use Rattle.std.specs.Prelude.{◌≡◌, ℕ, ◌+◌, ◌<◌, ◌≤◌}
use Rattle.vs_types.specs.Page.{bytes_of}
use Rattle.vs_plan.specs.declared.plans.plan.Flush.{Flush}
use Rattle.vs_plan.specs.declared.plans.plan.Flush.TheVariants.{Nothing, Page, PageAndTables, Range}
use Rattle.vs_plan.specs.Processor.{Kept, Translation, PagingEntry, IsDropped, region_number}

-- translations as ever, but of the entries that lead to tables only those on the walks of the addresses that are flushed. So does an
-- INVPCID of one address (type 0), for pages that aren't global, and an INVLPG where EFER.TCE is 1
abbrev pub IsDroppedOnWalk : Flush → Kept → Type 0
IsDroppedOnWalk Nothing kept = ⊥
IsDroppedOnWalk (Page base size) kept = IsDropped (Page base size) kept
IsDroppedOnWalk (PageAndTables base size) (Translation level page frame rights) = IsDropped (PageAndTables base size) (Translation level page frame rights)
IsDroppedOnWalk (PageAndTables base size) (PagingEntry level region number rights) = region ≡ region_number level base
IsDroppedOnWalk (Range base size) (Translation level page frame rights) = IsDropped (Range base size) (Translation level page frame rights)
IsDroppedOnWalk (Range base size) (PagingEntry level region number rights) =
    (address : ℕ) × (base ≤ address) × (address < base + bytes_of size) × (region ≡ region_number level address)
