-- Roots that have only tables in common that are the same from both stay so, and keep what plans ask of them.
use Rattle.std.proofs.Common.{◌≡◌, ◌≢◌, ℕ, List, Contains, Option, Some, None, ◌⊎◌, inl, inr, ⊎_elim, refl, sym, ap, subst, ◌∙◌, arith, All}
use Rattle.std.proofs.lemmas.Bool.{cases_eq}
use Rattle.std.proofs.lemmas.Option.{same_Some}
use Rattle.vs_types.specs.Depth.{levels, IsCanonical}
use Rattle.vs_types.specs.Space.{Space}
use Rattle.vs_types.specs.Step.{look}
use Rattle.vs_types.specs.declared.addresses.depth.Depth.{Depth}
use Rattle.vs_types.proofs.Lists.{Contains-cases}
use Rattle.vs_walk.specs.Memory.{Memory}
use Rattle.vs_walk.specs.Walk.{walk, as_walk, TranslatesAs}
use Rattle.vs_space.specs.Path.{table_at}
use Rattle.vs_space.proofs.Paths.{table_first, reached_within}
use Rattle.vs_plan.specs.declared.plans.plan.Fill.{Fill}
use Rattle.vs_plan.specs.declared.plans.plan.Plan.{Plan}
use Rattle.vs_plan.specs.declared.plans.plan.Store.{Store}
use Rattle.vs_plan.specs.declared.plans.request.Request.{Request}
use Rattle.vs_plan.specs.declared.plans.target.Target.{Target}
use Rattle.vs_plan.specs.Other.{IsShared, MeetsNone, LeadsNotTo, AreBeside, IsBeside}
use Rattle.vs_plan.specs.Premise.{IsPremise, HasOwnWay}
use Rattle.vs_plan.specs.Request.{address_of}
use Rattle.vs_plan.specs.Answered.{space_after}
use Rattle.vs_plan.specs.Right.{IsRight, IsNewTable, written_frames, begun, ended}
use Rattle.vs_plan.specs.Shown.{frames_of}
use Rattle.vs_plan.specs.Target.{PinsRoot}
use Rattle.vs_plan.proofs.BesidePlans.{meets_unshared, other_table, begins_shared, begins_none, filled_other, filled_root, are, is_other}
use Rattle.vs_plan.proofs.Growing.{frame_among}
use Rattle.vs_plan.proofs.OtherRoots.{shared_alike, shared_after, shared_table, shared_walk, table_after, apart_after}
use Rattle.vs_plan.proofs.Filled.{walk_as}

-- no table on the way of an address from the other root is one that the root leads to
abbrev IsApart : Depth → Memory → ℕ → ℕ → ℕ → Type 0
IsApart depth memory root other address = (level number : ℕ) → table_at (levels depth) memory other level address ≡ Some number
    → LeadsNotTo depth memory root number

meets_none : (depth : Depth) (memory : Memory) (root other address base : ℕ) → IsApart depth memory root other address
    → MeetsNone depth memory root other base address
meets_none depth memory root other address base apart = λ level height number at. apart level number at height base

not_shared : (depth : Depth) (memory : Memory) (root other address : ℕ) → IsApart depth memory root other address
    → IsShared depth memory root other address → ⊥
not_shared depth memory root other address apart =
    meets_unshared depth memory root other address (meets_none depth memory root other address address apart)

-- what a plan asks of a root beside its own
pub beside_of : (target : Target) (memory : Memory) (base : ℕ) (plan : Plan) (other : ℕ) → AreBeside target.depth memory target.root other
    → (IsShared target.depth memory target.root other base → PinsRoot target)
    → All (λ (store : Store). LeadsNotTo target.depth memory target.root store.frame → LeadsNotTo target.depth memory other store.frame) plan.stores.items
    → ((fill : Fill) → plan.fill ≡ Some fill → LeadsNotTo target.depth memory other fill.frame) → IsBeside target memory base plan other
beside_of target memory base plan other roots pinned spare fill = record {
  root = λ level at. roots.other_root level base at;
  ways = λ address. ⊎_elim
      (λ shared. inl shared)
      (λ apart. inr (meets_none target.depth memory target.root other address base apart))
      (roots.ways address);
  pinned = pinned;
  spare = spare;
  fill = fill;
}

-- ---- the other way round

module _ (depth : Depth) (memory : Memory) (root other : ℕ) (roots : AreBeside depth memory root other)
    (own : (address : ℕ) → HasOwnWay depth memory root address) where
  is_other_root : (level address number : ℕ) → level ≡ levels depth → table_at (levels depth) memory other level address ≡ Some number → other ≡ number
  is_other_root level address number top at = same_Some other number
      (sym (table_first (levels depth) other memory address) ∙ sym (ap (λ l. table_at (levels depth) memory other l address) top) ∙ at)

  root_off : LeadsNotTo depth memory other root
  root_off level address at = ⊎_elim
      (λ shared. ⊎_elim
      (λ (top : level ≡ levels depth). roots.other_root (levels depth) address
      (table_first (levels depth) root memory address ∙ ap Some (sym (is_other_root level address root top at))))
      (λ (low : level ≢ levels depth). low (sym ((own address).once level root (levels depth) address
      (sym (shared_table shared level low) ∙ at) (table_first (levels depth) root memory address)).0))
      (cases_eq level (levels depth)))
      (λ apart. apart level root at (levels depth) address (table_first (levels depth) root memory address))
      (roots.ways address)

  way_off : (address : ℕ) → IsApart depth memory root other address → IsApart depth memory other root address
  way_off address apart level number at l b there = ⊎_elim
      (λ shared. ⊎_elim
      (λ (top : l ≡ levels depth). roots.other_root level address (at ∙ ap Some (sym (is_other_root l b number top there))))
      (λ (low : l ≢ levels depth).
      let both = (own address).once level number l b at (sym (shared_table shared l low) ∙ there) in
      let within = reached_within (levels depth) root memory level address number at in
      not_shared depth memory root other address apart
      (shared_alike shared address (both.1 (levels depth) (omega (arith, within, both.0, low)) (omega arith))))
      (cases_eq l (levels depth)))
      (λ other_apart. other_apart l number there level address at)
      (roots.ways b)

  pub swapped : AreBeside depth memory other root
  swapped = record {
    other_root = root_off;
    ways = λ address. ⊎_elim
        (λ shared. inl (record { table = shared.table; rights = shared.rights; here = shared.there; there = shared.here }))
        (λ apart. inr (way_off address apart))
        (roots.ways address);
  }

-- ---- after a plan

module _ (target : Target) (request : Request) (memory : Memory) (space : Space) (offered : List (Option ℕ)) (plan : Plan) (other : ℕ)
    (premise : IsPremise target.depth memory target.root (address_of request) space) (right : IsRight target request memory space offered plan)
    (beside : IsBeside target memory (address_of request) plan other) (roots : AreBeside target.depth memory target.root other) where
  abbrev after : Memory
  after = ended memory plan

  -- the other root leads to no new table
  new_off : (number : ℕ) → IsNewTable target memory plan.fill plan.stores.items number → LeadsNotTo target.depth memory other number
  new_off number new = by plan.fill refl new.written where
    of_store : Contains (frames_of plan.stores.items) number → LeadsNotTo target.depth memory other number
    of_store among = frame_among plan.stores.items number among
        (λ n. LeadsNotTo target.depth memory target.root n → LeadsNotTo target.depth memory other n) beside.spare new.spare.unreached

    by : (fill : Option Fill) → plan.fill ≡ fill → Contains (written_frames fill plan.stores.items) number → LeadsNotTo target.depth memory other number
    by None is among = of_store among
    by (Some fill) is among = ⊎_elim
        (λ (same : fill.frame ≡ number). subst (LeadsNotTo target.depth memory other) same (beside.fill fill is))
        (λ more. of_store more)
        (Contains-cases fill.frame (frames_of plan.stores.items) number among)

  -- a table to which the other root led and the root didn't, the root doesn't lead to now
  not_met : (number : ℕ) → LeadsNotTo target.depth memory target.root number → (level address : ℕ)
      → table_at (levels target.depth) memory other level address ≡ Some number → LeadsNotTo target.depth after target.root number
  not_met number off level address at l b there = ⊎_elim
      (λ old. off l b old)
      (λ new. new_off number new level address at)
      (right.reaches l b number there)

  shared_ended : (address : ℕ) → IsShared target.depth memory target.root other address → IsShared target.depth after target.root other address
  shared_ended address shared = shared_after target (begun memory plan) (address_of request) plan.stores.items plan.unlinked.items other
      (are target request memory space offered plan other premise right beside) (is_other target request memory space offered plan other premise right beside)
      address (begins_shared target memory (begun memory plan) (filled_root target request memory space offered plan other premise right beside) other
      (filled_other target request memory space offered plan other premise right beside) address shared)

  none_begun : (address : ℕ) → IsApart target.depth memory target.root other address
      → MeetsNone target.depth (begun memory plan) target.root other (address_of request) address
  none_begun address apart = begins_none target memory (begun memory plan) (filled_root target request memory space offered plan other premise right beside)
      other (filled_other target request memory space offered plan other premise right beside) (address_of request) address
      (meets_none target.depth memory target.root other address (address_of request) apart)

  table_ended : (address level : ℕ) → IsApart target.depth memory target.root other address
      → table_at (levels target.depth) after other level address ≡ table_at (levels target.depth) memory other level address
  table_ended address level apart = table_after target (begun memory plan) (address_of request) plan.stores.items plan.unlinked.items other
      (are target request memory space offered plan other premise right beside) (is_other target request memory space offered plan other premise right beside)
      address level (none_begun address apart)
      ∙ other_table target memory (begun memory plan) (filled_root target request memory space offered plan other premise right beside) other
      (filled_other target request memory space offered plan other premise right beside) level address

  walk_ended : (address : ℕ) → IsApart target.depth memory target.root other address
      → walk target.depth after other address ≡ walk target.depth memory other address
  walk_ended address apart = apart_after target (begun memory plan) (address_of request) plan.stores.items plan.unlinked.items other
      (are target request memory space offered plan other premise right beside) (is_other target request memory space offered plan other premise right beside)
      address (none_begun address apart)
      ∙ walk_as target.depth other memory (begun memory plan) (filled_other target request memory space offered plan other premise right beside) address

  pub beside_again : AreBeside target.depth after target.root other
  beside_again = record {
    other_root = not_met other roots.other_root (levels target.depth) 0 (table_first (levels target.depth) other memory 0);
    ways = λ address. ⊎_elim
        (λ shared. inl (shared_ended address shared))
        (λ apart. inr (λ level number at.
        let was = sym (table_ended address level apart) ∙ at in
        not_met number (apart level number was) level address was))
        (roots.ways address);
  }

  -- a table of the other root is one that it led to and the root didn't, or one to which the root leads by the same address
  where_from : (level address number : ℕ) → table_at (levels target.depth) after other level address ≡ Some number
      → ((table_at (levels target.depth) memory other level address ≡ Some number) × LeadsNotTo target.depth memory target.root number)
      ⊎ (table_at (levels target.depth) after target.root level address ≡ Some number)
  where_from level address number at = ⊎_elim
      (λ (top : level ≡ levels target.depth).
      let same : other ≡ number = same_Some other number (sym (table_first (levels target.depth) other after address)
      ∙ sym (ap (λ l. table_at (levels target.depth) after other l address) top) ∙ at) in
      inl (
        ap (λ l. table_at (levels target.depth) memory other l address) top ∙ table_first (levels target.depth) other memory address ∙ ap Some same,
        subst (LeadsNotTo target.depth memory target.root) same roots.other_root,
      ))
      (λ (low : level ≢ levels target.depth). ⊎_elim
      (λ shared. inr (sym (shared_table (shared_ended address shared) level low) ∙ at))
      (λ apart. let was = sym (table_ended address level apart) ∙ at in inl (was, apart level number was))
      (roots.ways address))
      (cases_eq level (levels target.depth))

  pub own_again : (address : ℕ) → HasOwnWay target.depth memory target.root address → HasOwnWay target.depth memory other address
      → HasOwnWay target.depth after other address
  own_again address own own_other = record {
    once = λ level number l b at there. ⊎_elim
        (λ old. ⊎_elim
        (λ old_there. own_other.once level number l b old.0 old_there.0)
        (λ new_there. absurd (not_met number old.1 level address old.0 l b new_there))
        (where_from l b number there))
        (λ new. ⊎_elim
        (λ old_there. absurd (not_met number old_there.1 l b old_there.0 level address new))
        (λ new_there. (right.own address own).once level number l b new new_there)
        (where_from l b number there))
        (where_from level address number at);
  }

  pub translates_again : (before then : Space) → TranslatesAs target.depth memory other before
      → ((address : ℕ) → IsCanonical target.depth address → IsShared target.depth memory target.root other address
      → look then address ≡ look (space_after target request space plan.reply) address)
      → ((address : ℕ) → IsCanonical target.depth address → (IsShared target.depth memory target.root other address → ⊥)
      → look then address ≡ look before address)
      → TranslatesAs target.depth after other then
  translates_again before then translates here elsewhere address canonical = ⊎_elim
      (λ shared. shared_walk (shared_ended address shared) ∙ right.safe.done address canonical ∙ ap as_walk (sym (here address canonical shared)))
      (λ apart. walk_ended address apart ∙ translates address canonical
      ∙ ap as_walk (sym (elsewhere address canonical (not_shared target.depth memory target.root other address apart))))
      (roots.ways address)
