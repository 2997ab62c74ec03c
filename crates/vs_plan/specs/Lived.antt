-- What a processor lives through while flags are set in entries, beside the memories that are given.
use Rattle.std.specs.Prelude.{◌≡◌, ◌⊎◌, ◌≤◌, ℕ, List, ◌∷◌, Contains, length, take}
use Rattle.vs_types.specs.Depth.{IsCanonical}
use Rattle.vs_types.specs.declared.addresses.depth.Depth.{Depth}
use Rattle.vs_types.specs.declared.addresses.page.Rights.{Rights}
use Rattle.vs_walk.specs.Memory.{Memory}
use Rattle.vs_walk.specs.Walk.{walk}
use Rattle.vs_walk.specs.declared.walk.Walk.{Walk}
use Rattle.vs_space.specs.Flags.{AreSameButFlags}
use Rattle.vs_plan.specs.declared.plans.plan.Flush.{Flush}
use Rattle.vs_plan.specs.declared.plans.plan.Store.{Store}
use Rattle.vs_plan.specs.Flushed.{while_stored}
use Rattle.vs_plan.specs.Processor.{Moment, Is, Flushes, PagingEntry, MayKeep, MayFind, IsUpToDate}
use Rattle.vs_plan.specs.Stores.{stored_all}

-- moments that are as given, but that flags were set: each memory is as given, or as the one before it, but for the flags
pub data AreButFlags : List Moment → List Moment → Type 0 where
  AsTold : (moments : List Moment) → AreButFlags moments moments
  Next : (lived told : List Moment) (memory now : Memory) → AreButFlags lived told → AreSameButFlags memory now
      → AreButFlags (Is now ∷ lived) (Is memory ∷ told)
  Later : (lived told : List Moment) (memory now : Memory) → AreButFlags lived (Is memory ∷ told) → AreSameButFlags memory now
      → AreButFlags (Is now ∷ lived) (Is memory ∷ told)
  Flushed : (lived told : List Moment) (flush : Flush) → AreButFlags lived told → AreButFlags (Flushes flush ∷ lived) (Flushes flush ∷ told)

-- a flush suffices, whatever flags are set before, between and after the stores
pub record SufficesButFlags (depth : Depth) (root : ℕ) (memory : Memory) (stores : List Store) (flush : Flush) (unlinked : List ℕ) : Type 0 where
  -- after any number of the stores, an access finds what a walk finds before all of them, or after all of them
  pub between : (earlier lived : List Moment) (done address : ℕ) (now : Memory) (end : Walk) → IsUpToDate depth root memory earlier
      → done ≤ length stores → IsCanonical depth address → AreButFlags lived (while_stored memory (take done stores) earlier)
      → AreSameButFlags (stored_all memory (take done stores)) now → MayFind depth root now lived address end
      → (end ≡ walk depth memory root address) ⊎ (end ≡ walk depth (stored_all memory stores) root address)
  -- after all stores and the flush a processor is up to date
  pub after : (earlier lived : List Moment) (now : Memory) → IsUpToDate depth root memory earlier
      → AreButFlags lived (while_stored memory stores earlier) → AreSameButFlags (stored_all memory stores) now
      → IsUpToDate depth root now (Flushes flush ∷ lived)
  -- and one that is up to date keeps nothing that leads into a frame that was unlinked
  pub freed : (moments : List Moment) (level region number : ℕ) (rights : Rights) (now : Memory)
      → AreSameButFlags (stored_all memory stores) now → IsUpToDate depth root now moments → Contains unlinked number
      → MayKeep depth root moments (PagingEntry level region number rights) → ⊥
