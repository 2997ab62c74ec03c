-- What is said of a range is said of each with the same parts.
use Rattle.std.proofs.Common.{◌≡◌, ℕ, subst}
use Rattle.vs_types.specs.declared.addresses.page.Size.{Size}
use Rattle.vs_types.specs.Space.{Space}
use Rattle.vs_walk.specs.Memory.{Memory}
use Rattle.vs_plan.specs.declared.plans.request.Request.{Request}
use Rattle.vs_plan.specs.declared.plans.target.Target.{Target}
use Rattle.vs_plan.specs.Premise.{IsPremise}
use Rattle.vs_range.specs.declared.planner.RangePlanner.{RangePlanner}
use Rattle.vs_range.specs.declared.run.Run.{Run}
use Rattle.vs_range.specs.Planner.{IsMap, IsRunNext, IsHarvestNext, IsAbsentFor, EndsBeyond}

abbrev moved : RangePlanner → Target → Request → ℕ → ℕ → ℕ → RangePlanner
moved r target request level base bytes =
    record r { planner = record r.planner { target = target; request = request; level = level }; base = base; bytes = bytes }

as_moved : (r : RangePlanner) (target : Target) (request : Request) (level base bytes : ℕ) → r.planner.target ≡ target
    → r.planner.request ≡ request → r.planner.level ≡ level → r.base ≡ base → r.bytes ≡ bytes → r ≡ moved r target request level base bytes
as_moved r target request level base bytes a b c d e = λ i. moved r (a i) (b i) (c i) (d i) (e i)

module _ (memory : Memory) (r s : RangePlanner) (target : r.planner.target ≡ s.planner.target) (request : r.planner.request ≡ s.planner.request)
    (base : r.base ≡ s.base) (bytes : r.bytes ≡ s.bytes) where
  between : (level : ℕ) → r.planner.level ≡ level → r ≡ moved r s.planner.target s.planner.request level s.base s.bytes
  between level same = as_moved r s.planner.target s.planner.request level s.base s.bytes target request same base bytes

  pub run_as : (made : Run) → r.planner.level ≡ s.planner.level → IsRunNext memory r made → IsRunNext memory s made
  run_as made level is =
      let at = subst (λ (x : RangePlanner). IsRunNext memory x made) (between s.planner.level level) is in
      record {
        of_table = record {
          rights = at.of_table.rights;
          way = at.of_table.way;
          level = at.of_table.level;
          index = at.of_table.index;
          aligned = at.of_table.aligned;
          change = at.of_table.change;
        };
        some = at.some;
        within = at.within;
        longest = at.longest;
        forgets = at.forgets;
        right = at.right;
      }

  pub harvest_as : (made : Run) → r.planner.level ≡ s.planner.level → IsHarvestNext memory r made → IsHarvestNext memory s made
  harvest_as made level is =
      let at = subst (λ (x : RangePlanner). IsHarvestNext memory x made) (between s.planner.level level) is in
      record {
        kind = at.kind;
        of_table = record {
          rights = at.of_table.rights;
          way = at.of_table.way;
          level = at.of_table.level;
          index = at.of_table.index;
          aligned = at.of_table.aligned;
          change = at.of_table.change;
        };
        pages = at.pages;
        some = at.some;
        within = at.within;
        longest = at.longest;
        forgets = at.forgets;
        found = at.found;
        cleared = at.cleared;
        dropped = at.dropped;
      }

  pub absent_as : (gap : ℕ) → IsAbsentFor memory r gap → IsAbsentFor memory s gap
  absent_as gap is =
      let at = subst (λ (x : RangePlanner). IsAbsentFor memory x gap) (between r.planner.level (λ i. r.planner.level)) is in
      record {
        kind = at.kind;
        some = at.some;
        nothing = at.nothing;
        level = at.level;
        number = at.number;
        rights = at.rights;
        way = at.way;
        gap = at.gap;
        whole = at.whole;
        longest = at.longest;
      }

  abbrev Beyond : RangePlanner → Size → Type 0
  Beyond x size = (IsMap x.planner.request → ⊥) × ((space : Space)
      → IsPremise x.planner.target.depth memory x.planner.target.root x.base space → EndsBeyond space x.base x.bytes size)

  pub beyond_as : (size : Size) → Beyond r size → Beyond s size
  beyond_as size is =
      let at = subst (λ (x : RangePlanner). Beyond x size) (between r.planner.level (λ i. r.planner.level)) is in at
