-- The way of an address through the tables of a memory, from the root down.
use Rattle.std.specs.Prelude.{◌≡◌, ℕ, suc, Some}
use Rattle.vs_types.specs.Depth.{levels}
use Rattle.vs_types.specs.Entry.{all_rights}
use Rattle.vs_types.specs.Page.{intersection}
use Rattle.vs_types.specs.declared.addresses.depth.Depth.{Depth}
use Rattle.vs_types.specs.declared.addresses.page.Rights.{Rights}
use Rattle.vs_types.specs.declared.entries.entry.Meaning.TheVariants as entry
use Rattle.vs_walk.specs.Memory.{Memory}
use Rattle.vs_space.specs.Path.{found_at}

-- the entries for an address lead from the root to this table of this level, and allow these rights
pub data IsWay (depth : Depth) (memory : Memory) (root address : ℕ) : ℕ → ℕ → Rights → Type 0 where
  Begins : IsWay depth memory root address (levels depth) root all_rights
  Leads : (level number next : ℕ) (rights own : Rights) → IsWay depth memory root address (suc level) number rights
      → found_at (suc level) memory number address ≡ Some (entry.Table next own)
      → IsWay depth memory root address level next (intersection rights own)
