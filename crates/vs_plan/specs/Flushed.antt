-- What a flush after some stores is to bring about, for each processor.
use Rattle.std.specs.Prelude.{◌≡◌, ◌⊎◌, ◌≤◌, ℕ, List, [], ◌∷◌, Contains, length, take}
use Rattle.vs_types.specs.Depth.{IsCanonical}
use Rattle.vs_types.specs.declared.addresses.depth.Depth.{Depth}
use Rattle.vs_types.specs.declared.addresses.page.Rights.{Rights}
use Rattle.vs_walk.specs.Memory.{Memory}
use Rattle.vs_walk.specs.Walk.{walk}
use Rattle.vs_walk.specs.declared.walk.Walk.{Walk}
use Rattle.vs_plan.specs.declared.plans.plan.Flush.{Flush}
use Rattle.vs_plan.specs.declared.plans.plan.Store.{Store}
use Rattle.vs_plan.specs.Processor.{Moment, Is, Flushes, PagingEntry, MayKeep, MayFind, IsUpToDate}
use Rattle.vs_plan.specs.Stores.{stored, stored_all}

-- the moments of the memory as it is, and as each store leaves it, after earlier ones; the latest comes first
abbrev pub while_stored : Memory → List Store → List Moment → List Moment
while_stored memory [] earlier = Is memory ∷ earlier
while_stored memory (store ∷ later) earlier = while_stored (stored memory store) later (Is memory ∷ earlier)

-- for each processor that was up to date before the stores:
pub record Suffices (depth : Depth) (root : ℕ) (memory : Memory) (stores : List Store) (flush : Flush) (unlinked : List ℕ) : Type 0 where
  -- after any number of the stores, an access finds what a walk finds before all of them, or after all of them
  pub between : (earlier : List Moment) (done address : ℕ) (end : Walk) → IsUpToDate depth root memory earlier → done ≤ length stores
      → IsCanonical depth address
      → MayFind depth root (stored_all memory (take done stores)) (while_stored memory (take done stores) earlier) address end
      → (end ≡ walk depth memory root address) ⊎ (end ≡ walk depth (stored_all memory stores) root address)
  -- after all stores and the flush it is up to date
  pub after : (earlier : List Moment) → IsUpToDate depth root memory earlier
      → IsUpToDate depth root (stored_all memory stores) (Flushes flush ∷ while_stored memory stores earlier)
  -- and a processor that is up to date keeps nothing that leads into a frame that was unlinked
  pub freed : (moments : List Moment) (level region number : ℕ) (rights : Rights) → IsUpToDate depth root (stored_all memory stores) moments
      → Contains unlinked number → MayKeep depth root moments (PagingEntry level region number rights) → ⊥
