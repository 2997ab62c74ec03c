-- A right plan, for a root beside its own.
use Rattle.std.proofs.Common.{◌≡◌, ℕ, ◌-◌, ◌≤◌, List, Contains, Option, Some, None, ◌⊎◌, inl, inr, ⊎_elim, refl, sym, ap, ◌∙◌, arith}
use Rattle.std.proofs.lemmas.List.Elements.{All-contains}
use Rattle.vs_types.specs.Depth.{levels}
use Rattle.vs_types.specs.Entry.{meaning}
use Rattle.vs_types.specs.Space.{Space}
use Rattle.vs_types.specs.declared.addresses.depth.Depth.{Depth}
use Rattle.vs_types.specs.declared.entries.entry.Meaning.TheVariants as entry
use Rattle.vs_walk.specs.Memory.{Memory}
use Rattle.vs_space.specs.Path.{found_at, table_in, table_at}
use Rattle.vs_space.proofs.Paths.{table_first, table_below}
use Rattle.vs_space.proofs.Writes.{found_alike}
use Rattle.vs_plan.specs.declared.plans.plan.Fill.{Fill}
use Rattle.vs_plan.specs.declared.plans.plan.Plan.{Plan}
use Rattle.vs_plan.specs.declared.plans.plan.Store.{Store}
use Rattle.vs_plan.specs.declared.plans.request.Request.{Request}
use Rattle.vs_plan.specs.declared.plans.request.Request.TheVariants.{Join, Collapse}
use Rattle.vs_plan.specs.declared.plans.target.Target.{Target}
use Rattle.vs_plan.specs.Other.{HasSameTables, IsShared, MeetsNone, IsBeside, IsRightBeside}
use Rattle.vs_plan.specs.Premise.{IsPremise}
use Rattle.vs_plan.specs.Request.{address_of}
use Rattle.vs_plan.specs.Right.{IsRight, IsMeant, OfPage, OfLink, OfSpare, IsMeantBy, IsOnWay, IsUnlinkedBy, begun}
use Rattle.vs_plan.specs.Stores.{stored_all, filled}
use Rattle.vs_plan.specs.Target.{PinsRoot, highest_link}
use Rattle.vs_plan.proofs.Forms.{form_suffices}
use Rattle.vs_plan.proofs.Given.{WasUnlinked, parts_of, was_unlinked}
use Rattle.vs_plan.proofs.OtherRoots.{one_less, IsStore, OnWay, OffWays, AreMeant, IsOther, shared_walk, shared_stays, apart_walk, other_switched, other_freed}
use Rattle.vs_plan.proofs.OtherRoots.{for_other}
use Rattle.vs_plan.proofs.PlansSuffice.{form_of, are_for, switched}
use Rattle.vs_plan.proofs.Filled.{own_as, insert_same, table_as, walk_as}

-- ---- the stores of a right plan

-- a link of a pinned root isn't changed
no_link : (target : Target) (level : ℕ) (word : ℕ) → PinsRoot target → level ≤ highest_link target → level ≡ levels target.depth
    → table_in (Some (meaning level word)) ≡ None
no_link target level word pinned may top = absurd (omega (arith, pinned, may, top))

-- the root is pinned, or its entry for the base isn't shared
abbrev Keeps : Target → Memory → ℕ → ℕ → Type 0
Keeps target memory base other = PinsRoot target ⊎ (IsShared target.depth memory target.root other base → ⊥)

-- a store into a link on the way
link_store : {target : Target} {memory : Memory} {base : ℕ} (other : ℕ) {s : Store} → Keeps target memory base other → (on : IsOnWay target memory base s)
    → on.level ≤ highest_link target → IsStore target memory base other s
link_store {target} other {s = s} keeps on may = OnWay on.level on.reached (λ top. ⊎_elim
    (λ pinned. inl (no_link target on.level s.old pinned may top))
    (λ unshared. inr (on.index, unshared))
    keeps)

store_of : {target : Target} {memory : Memory} {base : ℕ} {unlinked : List ℕ} (other : ℕ) {s : Store} → Keeps target memory base other
    → IsMeant target memory base unlinked s → IsStore target memory base other s
store_of other keeps (OfPage on ends) = OnWay on.level on.reached (λ top. inl ends)
store_of other keeps (OfLink on below leads named high new) = link_store other keeps on high
store_of other keeps (OfSpare spare low) = OffWays spare.unreached

store_by : (target : Target) (memory : Memory) (request : Request) (unlinked : List ℕ) (other : ℕ) (s : Store)
    → Keeps target memory (address_of request) other → IsMeantBy target memory request unlinked s → IsStore target memory (address_of request) other s
store_by target memory (Join base) unlinked other s keeps meant = link_store other keeps meant.on meant.may
store_by target memory (Collapse base phys rights) unlinked other s keeps meant = link_store other keeps meant.on meant.may
store_by target memory _ unlinked other s keeps meant = store_of other keeps meant

-- an address whose way from the other root meets no table on its own way from the root isn't shared
pub meets_unshared : (depth : Depth) (memory : Memory) (root other base : ℕ) → MeetsNone depth memory root other base base
    → IsShared depth memory root other base → ⊥
meets_unshared depth memory root other base none shared =
    none (levels depth - 1) (levels depth - 1) shared.table (leads other shared.there) (leads root shared.here)
  where
    leads : (top : ℕ) → found_at (levels depth) memory top base ≡ Some (entry.Table shared.table shared.rights)
        → table_at (levels depth) memory top (levels depth - 1) base ≡ Some shared.table
    leads top found =
        table_below (levels depth) top memory (levels depth) (levels depth - 1) base top (one_less depth) (table_first (levels depth) top memory base)
        ∙ ap table_in found

beside_keeps : (target : Target) (memory : Memory) (base : ℕ) (plan : Plan) (other : ℕ) → IsBeside target memory base plan other
    → Keeps target memory base other
beside_keeps target memory base plan other beside = ⊎_elim
    (λ shared. inl (beside.pinned shared))
    (λ none. inr (meets_unshared target.depth memory target.root other base none))
    (beside.ways base)

-- ---- in the memory in which the stores begin

module _ (target : Target) (memory start : Memory) (same : HasSameTables target.depth target.root memory start) where
  root_table : (level address : ℕ) → table_at (levels target.depth) start target.root level address
      ≡ table_at (levels target.depth) memory target.root level address
  root_table = table_as target.depth target.root memory start same

  module _ (other : ℕ) (other_same : HasSameTables target.depth other memory start) where
    pub other_table : (level address : ℕ) → table_at (levels target.depth) start other level address ≡ table_at (levels target.depth) memory other level address
    other_table = table_as target.depth other memory start other_same

    root_found : (root address : ℕ) → HasSameTables target.depth root memory start
        → found_at (levels target.depth) start root address ≡ found_at (levels target.depth) memory root address
    root_found root address alike = found_alike (levels target.depth) memory start root address
        (alike (levels target.depth) address root (table_first (levels target.depth) root memory address))

    pub begins_shared : (address : ℕ) → IsShared target.depth memory target.root other address → IsShared target.depth start target.root other address
    begins_shared address shared = record {
      table = shared.table;
      rights = shared.rights;
      here = root_found target.root address same ∙ shared.here;
      there = root_found other address other_same ∙ shared.there;
    }

    begins_store : (base : ℕ) (s : Store) → IsStore target memory base other s → IsStore target start base other s
    begins_store base s (OnWay level reached keeps) = OnWay level (root_table level base ∙ reached) (λ top. ⊎_elim
        (λ ends. inl ends)
        (λ unshared. inr (
          unshared.0,
          λ shared. unshared.1 (record {
            table = shared.table;
            rights = shared.rights;
            here = sym (root_found target.root base same) ∙ shared.here;
            there = sym (root_found other base other_same) ∙ shared.there;
          }),
        ))
        (keeps top))
    begins_store base s (OffWays unreached) = OffWays (λ level address at. unreached level address (sym (root_table level address) ∙ at))

    pub begins_none : (base address : ℕ) → MeetsNone target.depth memory target.root other base address
        → MeetsNone target.depth start target.root other base address
    begins_none base address none level height number at on =
        none level height number (sym (other_table level address) ∙ at) (sym (root_table height base) ∙ on)

    begins_beside : (base : ℕ) (plan : Plan) → IsBeside target memory base plan other → IsOther target start base plan.stores.items other
    begins_beside base plan beside = record {
      root = λ level at. beside.root level (sym (root_table level base) ∙ at);
      ways = λ address. ⊎_elim (λ shared. inl (begins_shared address shared)) (λ none. inr (begins_none base address none)) (beside.ways address);
      spare = λ k d lt off level address at. beside.spare k d lt (λ l a on. off l a (root_table l a ∙ on)) level address
          (sym (other_table level address) ∙ at);
    }

-- the fill changes no table of the other root
fill_same : (target : Target) (memory : Memory) (base : ℕ) (plan : Plan) (other : ℕ) → IsBeside target memory base plan other
    → HasSameTables target.depth other memory (begun memory plan)
fill_same target memory base plan other beside = by plan.fill refl where
  by : (fill : Option Fill) → plan.fill ≡ fill → HasSameTables target.depth other memory (filled memory fill)
  by None is = λ level address number at. refl
  by (Some fill) is = insert_same target.depth other memory fill.frame _ (beside.fill fill is)

-- ---- all of it

module _ (target : Target) (request : Request) (memory : Memory) (space : Space) (offered : List (Option ℕ)) (plan : Plan) (other : ℕ)
    (premise : IsPremise target.depth memory target.root (address_of request) space) (right : IsRight target request memory space offered plan)
    (beside : IsBeside target memory (address_of request) plan other) where
  pub filled_other : HasSameTables target.depth other memory (begun memory plan)
  filled_other = fill_same target memory (address_of request) plan other beside

  pub filled_root : HasSameTables target.depth target.root memory (begun memory plan)
  filled_root = (parts_of premise right).same

  gone_there : (number : ℕ) → Contains plan.unlinked.items number
      → WasUnlinked target (begun memory plan) (stored_all (begun memory plan) plan.stores.items) (address_of request) number
  gone_there number named =
      let was = was_unlinked target memory (stored_all (begun memory plan) plan.stores.items) request number
      (All-contains (IsUnlinkedBy target memory (stored_all (begun memory plan) plan.stores.items) request) plan.unlinked.items number right.unlinked named) in
      record {
        level = was.level;
        was = root_table target memory (begun memory plan) filled_root was.level (address_of request) ∙ was.was;
        lower = was.lower;
        unreached = was.unreached;
      }

  pub are : AreMeant target (begun memory plan) (address_of request) other plan.stores.items plan.unlinked.items
  are = record {
    own = own_as target.depth target.root memory (begun memory plan) filled_root (address_of request) premise.own;
    meant = λ k d lt. begins_store target memory (begun memory plan) filled_root other filled_other (address_of request) _
        (store_by target memory request plan.unlinked.items other _ (beside_keeps target memory (address_of request) plan other beside) (right.meant k d lt));
    found = right.found;
    gone = gone_there;
  }

  pub is_other : IsOther target (begun memory plan) (address_of request) plan.stores.items other
  is_other = begins_beside target memory (begun memory plan) filled_root other filled_other (address_of request) plan beside

  pub right_beside : IsRightBeside target memory (address_of request) plan other
  right_beside = record {
    filled = filled_other;
    stays = λ done address low shared. shared_stays target (begun memory plan) (address_of request) plan.stores.items plan.unlinked.items other are is_other
        done address (begins_shared target memory (begun memory plan) filled_root other filled_other address shared);
    shared = λ done address low shared. shared_walk
        (shared_stays target (begun memory plan) (address_of request) plan.stores.items plan.unlinked.items other are is_other
        done address (begins_shared target memory (begun memory plan) filled_root other filled_other address shared));
    apart = λ done address low none. apart_walk target (begun memory plan) (address_of request) plan.stores.items plan.unlinked.items other are is_other
        done address (begins_none target memory (begun memory plan) filled_root other filled_other (address_of request) address none)
        ∙ walk_as target.depth other memory (begun memory plan) filled_other address;
    freed = λ number named level address at. other_freed target (begun memory plan) (address_of request) plan.stores.items plan.unlinked.items other
        are is_other number named level address at;
    suffices = form_suffices target.depth other (begun memory plan) plan.stores.items plan.flush plan.unlinked.items
        (form_of target memory (begun memory plan) space offered plan.reply plan.fill request plan.stores.items plan.unlinked.items
        plan.flush (parts_of premise right))
        (other_switched target (begun memory plan) (address_of request) plan.stores.items plan.unlinked.items other are is_other
        (switched (parts_of premise right)))
        (other_freed target (begun memory plan) (address_of request) plan.stores.items plan.unlinked.items other are is_other)
        (for_other target (begun memory plan) (address_of request) plan.stores.items plan.unlinked.items other are is_other plan.flush
        (are_for target memory (begun memory plan) space offered plan.reply plan.fill request plan.stores.items plan.unlinked.items
        plan.flush (parts_of premise right)));
  }
