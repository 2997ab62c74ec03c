-- Another root of the same depth in the same memory, which may share tables with the root of a plan: what has to hold of it before the plan
-- is carried out, and what holds of it then.
use Rattle.std.specs.Prelude.{◌≡◌, ◌≢◌, ◌⊎◌, ℕ, ◌≤◌, All, Contains, Some, length, take}
use Rattle.std.specs.FinMap as finite
use Rattle.vs_types.specs.Depth.{levels}
use Rattle.vs_types.specs.declared.addresses.depth.Depth.{Depth}
use Rattle.vs_types.specs.declared.addresses.page.Rights.{Rights}
use Rattle.vs_types.specs.declared.entries.entry.Meaning.TheVariants as entry
use Rattle.vs_walk.specs.Memory.{Memory}
use Rattle.vs_walk.specs.Walk.{walk}
use Rattle.vs_space.specs.Path.{found_at, table_at}
use Rattle.vs_plan.specs.declared.plans.plan.Fill.{Fill}
use Rattle.vs_plan.specs.declared.plans.plan.Plan.{Plan}
use Rattle.vs_plan.specs.declared.plans.target.Target.{Target}
use Rattle.vs_plan.specs.Flushed.{Suffices}
use Rattle.vs_plan.specs.Right.{begun, ended}
use Rattle.vs_plan.specs.Stores.{stored_all}
use Rattle.vs_plan.specs.Target.{PinsRoot}

-- all tables to which a root's ways lead are the same in both memories
abbrev pub HasSameTables : Depth → ℕ → Memory → Memory → Type 0
HasSameTables depth root old new = (level address number : ℕ) → table_at (levels depth) old root level address ≡ Some number
    → finite.get new number ≡ finite.get old number

-- the memory after the fill and some of the stores
abbrev pub after_some : Memory → Plan → ℕ → Memory
after_some memory plan done = stored_all (begun memory plan) (take done plan.stores.items)

-- the entries of both roots for an address lead to one table, and allow the same; their flags may differ
pub record IsShared (depth : Depth) (memory : Memory) (root other address : ℕ) : Type 0 where
  pub table : ℕ
  pub rights : Rights
  pub here : found_at (levels depth) memory root address ≡ Some (entry.Table table rights)
  pub there : found_at (levels depth) memory other address ≡ Some (entry.Table table rights)

-- no table on the way of an address from the other root is one on the way of the base from the root
abbrev pub MeetsNone : Depth → Memory → ℕ → ℕ → ℕ → ℕ → Type 0
MeetsNone depth memory root other base address = (level height number : ℕ) → table_at (levels depth) memory other level address ≡ Some number
    → table_at (levels depth) memory root height base ≢ Some number

-- no way leads from a root to a frame
abbrev pub LeadsNotTo : Depth → Memory → ℕ → ℕ → Type 0
LeadsNotTo depth memory root frame = (level address : ℕ) → table_at (levels depth) memory root level address ≢ Some frame

-- the roots have no tables in common but those of addresses that have the same way from both below the roots. For any other address no
-- table on its way from the other root is one that the root leads to; nor is the other root
pub record AreBeside (depth : Depth) (memory : Memory) (root other : ℕ) : Type 0 where
  pub other_root : LeadsNotTo depth memory root other
  pub ways : (address : ℕ) → IsShared depth memory root other address
      ⊎ ((level number : ℕ) → table_at (levels depth) memory other level address ≡ Some number → LeadsNotTo depth memory root number)

-- before a plan for this base:
pub record IsBeside (target : Target) (memory : Memory) (base : ℕ) (plan : Plan) (other : ℕ) : Type 0 where
  -- the other root is no table on the base's way
  pub root : (level : ℕ) → table_at (levels target.depth) memory target.root level base ≢ Some other
  -- below the roots each address has the same way from both, or meets no table on the base's way
  pub ways : (address : ℕ) → IsShared target.depth memory target.root other address ⊎ MeetsNone target.depth memory target.root other base address
  -- where the base's own is the same from both, the tables that the root leads to stay
  pub pinned : IsShared target.depth memory target.root other base → PinsRoot target
  -- and neither leads to the spare frames that are stored into or filled
  pub spare : All (λ store. LeadsNotTo target.depth memory target.root store.frame → LeadsNotTo target.depth memory other store.frame) plan.stores.items
  pub fill : (fill : Fill) → plan.fill ≡ Some fill → LeadsNotTo target.depth memory other fill.frame

-- while it is carried out, and then:
pub record IsRightBeside (target : Target) (memory : Memory) (base : ℕ) (plan : Plan) (other : ℕ) : Type 0 where
  -- the fill changes no table that is reached from the other root
  pub filled : HasSameTables target.depth other memory (begun memory plan)
  -- after any number of the stores: where the roots' entries led to one table, they do so still, and both walks are one
  pub stays : (done address : ℕ) → done ≤ length plan.stores.items → IsShared target.depth memory target.root other address
      → IsShared target.depth (after_some memory plan done) target.root other address
  pub shared : (done address : ℕ) → done ≤ length plan.stores.items → IsShared target.depth memory target.root other address
      → walk target.depth (after_some memory plan done) other address ≡ walk target.depth (after_some memory plan done) target.root address
  -- and where no table on the base's way was met, an address is walked as before
  pub apart : (done address : ℕ) → done ≤ length plan.stores.items → MeetsNone target.depth memory target.root other base address
      → walk target.depth (after_some memory plan done) other address ≡ walk target.depth memory other address
  -- no way leads from the other root to a frame that was unlinked
  pub freed : (number : ℕ) → Contains plan.unlinked.items number → LeadsNotTo target.depth (ended memory plan) other number
  -- the flush suffices for processors that walk from the other root too
  pub suffices : Suffices target.depth other (begun memory plan) plan.stores.items plan.flush plan.unlinked.items
