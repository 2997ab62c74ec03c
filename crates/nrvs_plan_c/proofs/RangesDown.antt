-- How a range comes down the way of its base, over frames that are all shown.
use Rattle.std.proofs.Common.{◌≡◌, ◌≢◌, ℕ, suc, ◌<◌, ◌≤◌, ◌⊎◌, Bool, false, List, Option, Some, None, inl, inr, ⊎_elim, refl, sym, ap, subst, ◌∙◌, arith}
use Rattle.std.specs.Prelude.{IsSome, nat_eq, slice_index}
use Rattle.std.specs.FinMap as finite
use Rattle.std.proofs.lemmas.Bool.{cases_lt}
use Rattle.vs_types.specs.Depth.{index_at, levels}
use Rattle.vs_types.specs.Entry.{meaning}
use Rattle.vs_types.specs.Page.{bytes_of, intersection, level_of}
use Rattle.vs_types.specs.declared.addresses.depth.Depth.{Depth}
use Rattle.vs_types.specs.declared.addresses.page.Rights.{Rights}
use Rattle.vs_types.specs.declared.addresses.page.Size.{Size}
use Rattle.vs_types.specs.declared.addresses.page.Size.TheVariants.{K4, M2, G1}
use Rattle.vs_types.specs.declared.entries.entry.Meaning.TheVariants as entry
use Rattle.vs_walk.specs.Memory.{Memory}
use Rattle.vs_space.specs.Path.{found_at}
use Rattle.vs_space.proofs.Paths.{words_found}
use Rattle.vs_plan.specs.declared.plans.planner.Phase.TheVariants.{Descent}
use Rattle.vs_plan.specs.declared.plans.request.Request.{Request}
use Rattle.vs_plan.specs.declared.plans.request.Request.TheVariants.{Map, Unmap, Protect, Ask}
use Rattle.vs_plan.specs.declared.plans.target.Target.{Target}
use Rattle.vs_plan.specs.Request.{lowest_of}
use Rattle.vs_plan.specs.Shown.{IsShown}
use Rattle.vs_plan.specs.Target.{frames_end}
use Rattle.vs_plan.specs.Way.{IsWay, Begins, Leads}
use Rattle.vs_plan.proofs.Ways.{way_within}
use Rattle.vs_range.specs.declared.planner.RangePlanner.{RangePlanner}
use Rattle.vs_range.specs.Planner.{IsMap, IsInRun, IsPageAt, IsRanged, IsSeenPage}
use Rattle.vs_range.proofs.Seeing.{descended}
use Rattle.nrvs_plan_c.specs.declared.records.range.Run.{Run}
use Rattle.nrvs_plan_c.specs.Direct.{HasNoneBeyond}
use Rattle.nrvs_plan_c.specs.Kept.{phase_in, planner_in, request_in, target_in}
use Rattle.vs_types.specs.Bits.{rights_at}
use Rattle.nrvs_plan_c.specs.Range.{HasBegunRange, IsSoundRange, KeepsRange, TakesPageOf, range_in}
use Rattle.nrvs_plan_c.specs.RangeIn.{StandsAt}
use Rattle.nrvs_plan_c.specs.inside.Stepped.{FollowsLinkOf}

-- ---- one way

module _ {depth : Depth} {m : Memory} {root a : ℕ} where
  -- a way leads to one table of a level
  pub way_one : (level n : ℕ) (rights : Rights) → IsWay depth m root a level n rights → (other k : ℕ) (above : Rights)
      → IsWay depth m root a other k above → level ≡ other → (n ≡ k) × (rights ≡ above)
  way_one level n rights Begins other k above Begins same = (refl, refl)
  way_one level n rights Begins other k above (Leads l p next up own way found) same = absurd (omega (arith, same, way_within (suc l) p up way))
  way_one level n rights (Leads l p next up own way found) other k above Begins same = absurd (omega (arith, same, way_within (suc l) p up way))
  way_one level n rights (Leads l p next up own way found) other k above (Leads j q then high mine there has) same =
      let before = way_one (suc l) p up way (suc j) q high there (ap suc same) in
      let alike : found_at (suc l) m p a ≡ found_at (suc j) m q a = λ i. found_at (suc (same i)) m (before.0 i) a in
      let both : Some (entry.Table next own) ≡ Some (entry.Table then mine) = sym found ∙ alike ∙ has in
      let number : next ≡ then = cc in
      let allows : own ≡ mine = cc in
      (number, λ i. intersection (before.1 i) (allows i))

  -- above a table on the way is a link, to a frame that is there
  pub link_above : (low k : ℕ) (mine : Rights) → IsWay depth m root a low k mine → (level n : ℕ) (rights : Rights) → IsWay depth m root a level n rights
      → low < level → (next : ℕ) × (own : Rights) × (found_at level m n a ≡ Some (entry.Table next own))
      × (IsSome (finite.get m k) → IsSome (finite.get m next))
  link_above low k mine Begins level n rights way lower = absurd (omega (arith, lower, way_within level n rights way))
  link_above low k mine (Leads l p next up own on found) level n rights way lower = ⊎_elim
      (λ (over : suc l < level).
      let rest = link_above (suc l) p up on level n rights way over in
      let at = words_found (suc l) m p a (entry.Table next own) found in
      (rest.0, rest.1, rest.2, λ here. rest.3 (subst (λ (o : Option (List ℕ)). IsSome o) (sym at.1) refl)))
      (λ (le : level ≤ suc l).
      let same : suc l ≡ level = omega (arith, le, lower) in
      let one = way_one (suc l) p up on level n rights way same in
      let alike : found_at (suc l) m p a ≡ found_at level m n a = λ i. found_at (same i) m (one.0 i) a in
      (next, own, sym alike ∙ found, λ here. here))
      (cases_lt (suc l) level)

-- ---- the page at the base

-- at this table something is decided: a page ends beyond the range, or is dealt with in a run
abbrev pub IsDecided : RangePlanner → List ℕ → Type 0
IsDecided range words =
    ((size : Size) × IsSeenPage range words size × (IsMap range.planner.request → ⊥) × (range.bytes < bytes_of size))
    ⊎ (((size : Size) × IsSeenPage range words size × (bytes_of size ≤ range.bytes) × IsInRun range words range.planner.request)
    ⊎ (IsMap range.planner.request × (range.planner.phase ≡ Descent) × IsInRun range words range.planner.request))

level_some : (size : Size) → 1 ≤ level_of size
level_some K4 = omega arith
level_some M2 = omega arith
level_some G1 = omega arith

low_none : (request : Request) → IsRanged request → (IsMap request → ⊥) → lowest_of request ≡ 1
low_none (Map page bits) ranged none = absurd (none tt)
low_none (Unmap base) ranged none = refl
low_none (Protect base rights) ranged none = refl
low_none (Ask address) ranged none = refl
low_none _ ranged none = absurd ranged

low_run : (range : RangePlanner) (words : List ℕ) (request : Request) → IsInRun range words request → 1 ≤ range.planner.level
    → lowest_of request ≤ range.planner.level
low_run range words (Map page bits) run some = omega (arith, run.level)
low_run range words (Unmap base) run some = some
low_run range words (Protect base rights) run some = some
low_run range words (Ask address) run some = some
low_run range words _ run some = absurd run

low_map : (range : RangePlanner) (words : List ℕ) (request : Request) → IsMap request → IsInRun range words request
    → lowest_of request ≡ range.planner.level
low_map range words (Map page bits) map run = sym run.level
low_map range words _ map run = absurd map

seen_some : (range : RangePlanner) (words : List ℕ) (size : Size) → IsSeenPage range words size → 1 ≤ range.planner.level
seen_some range words size seen = let one = level_some size in omega (arith, one, seen.1.level)

pub decided_low : (range : RangePlanner) (words : List ℕ) → IsRanged range.planner.request → IsDecided range words
    → lowest_of range.planner.request ≤ range.planner.level
decided_low range words ranged decided = ⊎_elim
    (λ beyond.
    let one = low_none range.planner.request ranged beyond.2 in
    let some = seen_some range words beyond.0 beyond.1 in
    omega (arith, one, some))
    (λ within. ⊎_elim
    (λ page. low_run range words range.planner.request page.3 (seen_some range words page.0 page.1))
    (λ map. let same = low_map range words range.planner.request map.0 map.2 in omega (arith, same))
    within)
    decided

-- what is decided has ended
pub decided_ends : (range : RangePlanner) (words : List ℕ) (run : Run) (status : ℕ) → TakesPageOf range words run status → IsDecided range words
    → status ≡ 32 → ⊥
decided_ends range words run status takes decided is = ⊎_elim
    (λ beyond. let ended = (takes.beyond beyond.0 beyond.1 beyond.2 beyond.3).0 in omega (arith, ended, is))
    (λ within. ⊎_elim
    (λ page. by_run (takes.within page.0 page.1 page.2 page.3))
    (λ map. by_run (takes.mapped map.0 map.1 map.2))
    within)
    decided where
      by_run : (status ≡ 34) ⊎ (status ≡ 35) → ⊥
      by_run run = ⊎_elim (λ (e : status ≡ 34). omega (arith, e, is)) (λ (e : status ≡ 35). omega (arith, e, is)) run

-- ---- one step down

-- a planner of the same range, with these parts
abbrev like : RangePlanner → Target → Request → ℕ → Rights → ℕ → ℕ → Bool → RangePlanner
like range target request level rights base bytes alone = record range {
  planner = record range.planner { target = target; request = request; level = level; rights = rights };
  base = base;
  bytes = bytes;
  alone = alone;
}

module _ (memory : Memory) (before after : Run) (words : List ℕ) (status : ℕ) (sound : IsSoundRange before) (shown : IsShown memory (planner_in before.plan))
    (there : finite.get memory before.plan.frame ≡ Some words) (takes : TakesPageOf (range_in before) words after status)
    (leads : FollowsLinkOf before words after status) (none : HasNoneBeyond (target_in before.plan.call) memory) where
  module _ (range : RangePlanner) (its : List ℕ) (stands : StandsAt before memory range) (got : finite.get memory range.planner.number ≡ Some its)
      (descends : phase_in before.plan.way.phase ≡ Descent) (together : nat_eq before.own 1 ≡ false) where
    way_before : IsWay (target_in before.plan.call).depth memory (target_in before.plan.call).root before.base before.plan.way.level before.plan.frame
        (rights_at before.plan.way.allowed)
    way_before = subst (λ a. IsWay (target_in before.plan.call).depth memory (target_in before.plan.call).root a before.plan.way.level before.plan.frame
        (rights_at before.plan.way.allowed)) sound.base (descended (planner_in before.plan) descends shown).way

    way_its : IsWay (target_in before.plan.call).depth memory (target_in before.plan.call).root before.base range.planner.level range.planner.number
        range.planner.rights
    way_its = subst (λ a. IsWay (target_in before.plan.call).depth memory (target_in before.plan.call).root a range.planner.level range.planner.number
        range.planner.rights) stands.of_base
        (subst (λ (t : Target). IsWay t.depth memory t.root range.base range.planner.level range.planner.number range.planner.rights) stands.of_target
        stands.way)

    -- it is at the table that is seen
    abbrev here : RangePlanner
    here = like range (target_in before.plan.call) (request_in before.plan.call) before.plan.way.level (rights_at before.plan.way.allowed) before.base
        before.bytes false

    page_here : (size : Size) → IsPageAt here (slice_index words (index_at before.plan.way.level before.base)) size
        → IsPageAt (range_in before) (slice_index words (index_at before.plan.way.level before.base)) size
    page_here size at = record { page = at.page; level = at.level; aligned = at.aligned }

    run_here : (request : Request) → IsInRun here words request → IsInRun (range_in before) words request
    run_here (Map page bits) room = record {
      level = room.level;
      absent = room.absent;
      allows = room.allows;
      room = room.room;
      within = room.within;
      low = room.low;
      phys = room.phys;
    }
    run_here (Unmap base) both = (together, both.1)
    run_here (Protect base rights) allows = allows
    run_here (Ask address) run = tt
    run_here _ run = absurd run

    takes_here : TakesPageOf here words after status
    takes_here = record {
      beyond = λ size seen no_map less. takes.beyond size (descends, page_here size seen.1) no_map less;
      within = λ size seen fits run. takes.within size (descends, page_here size seen.1) fits (run_here (request_in before.plan.call) run);
      mapped = λ map phase run. takes.mapped map descends (run_here (request_in before.plan.call) run);
    }

    pub at_same : range.planner.level ≡ before.plan.way.level → TakesPageOf range its after status
    at_same same =
        let one = way_one range.planner.level range.planner.number range.planner.rights way_its before.plan.way.level before.plan.frame
        (rights_at before.plan.way.allowed) way_before same in
        let both : Some its ≡ Some words = sym got ∙ ap (finite.get memory) one.0 ∙ there in
        let text : its ≡ words = cc in
        let is : range ≡ here =
        λ i. like range (stands.of_target i) (stands.of_request i) (same i) (one.1 i) (stands.of_base i) (stands.of_bytes i) (stands.together i) in
        subst (λ (r : RangePlanner). TakesPageOf r its after status) (sym is)
        (subst (λ (ws : List ℕ). TakesPageOf here ws after status) (sym text) takes_here)

    pub at_lower : IsDecided range its → range.planner.level < before.plan.way.level
        → (status ≡ 32) × (range.planner.level ≤ after.plan.way.level) × (phase_in after.plan.way.phase ≡ Descent) × (nat_eq after.own 1 ≡ false)
    at_lower decided lower =
        let link = link_above range.planner.level range.planner.number range.planner.rights way_its before.plan.way.level before.plan.frame
        (rights_at before.plan.way.allowed) way_before lower in
        let at = words_found before.plan.way.level memory before.plan.frame before.base (entry.Table link.0 link.1) link.2 in
        let both : Some at.0 ≡ Some words = sym at.1 ∙ there in
        let text : at.0 ≡ words = cc in
        let says = subst (λ (ws : List ℕ). meaning before.plan.way.level (slice_index ws (index_at before.plan.way.level before.base))
        ≡ entry.Table link.0 link.1) text at.2 in
        let ranged = subst IsRanged (sym stands.of_request) sound.kind in
        let least = subst (λ (q : Request). lowest_of q ≤ range.planner.level) stands.of_request (decided_low range its ranged decided) in
        let low : lowest_of (request_in before.plan.call) < before.plan.way.level = omega (arith, least, lower) in
        let on = leads link.0 link.1 descends low says (within link.0 (link.3 (subst (λ (o : Option (List ℕ)). IsSome o) (sym got) refl))) in
        (on.0, omega (arith, on.1, lower), on.2, on.3 ∙ together)
      where
        within : (next : ℕ) → IsSome (finite.get memory next) → next < frames_end (target_in before.plan.call)
        within next some = ⊎_elim
            (λ (low : next < frames_end (target_in before.plan.call)). low)
            (λ (far : frames_end (target_in before.plan.call) ≤ next).
            let nothing : IsSome {T = List ℕ} None = subst (λ (o : Option (List ℕ)). IsSome o) (none next far) some in absurd (cc))
            (cases_lt next (frames_end (target_in before.plan.call)))

-- ---- all steps

-- a range comes down: as long as words are asked for, to a table at which something is decided; once it has ended it took the page there
pub record ComesDown (memory : Memory) (run : Run) (status : ℕ) : Type 0 where
  pub down : (range : RangePlanner) (words : List ℕ) → StandsAt run memory range → finite.get memory range.planner.number ≡ Some words
      → IsDecided range words → status ≡ 32
      → (range.planner.level ≤ run.plan.way.level) × (phase_in run.plan.way.phase ≡ Descent) × (nat_eq run.own 1 ≡ false)
  pub taken : status ≢ 32 → (range : RangePlanner) (words : List ℕ) → StandsAt run memory range → finite.get memory range.planner.number ≡ Some words
      → TakesPageOf range words run status

stands_before : (memory : Memory) (before after : Run) (range : RangePlanner) → KeepsRange before after → StandsAt after memory range
    → StandsAt before memory range
stands_before memory before after range kept stands = record {
  of_target = stands.of_target ∙ ap target_in kept.call;
  of_request = stands.of_request ∙ ap request_in kept.call;
  of_base = stands.of_base ∙ kept.base;
  of_bytes = stands.of_bytes ∙ kept.bytes;
  together = stands.together;
  way = stands.way;
}

pub comes_begun : (memory : Memory) (target : Target) (request : Request) (bytes : ℕ) (run : Run) → HasBegunRange target request bytes run
    → ComesDown memory run 32
comes_begun memory target request bytes run begun = record {
  down = λ range words stands got decided is. (
    top range stands,
    begun.descends,
    ap (λ n. nat_eq n 1) begun.together,
  );
  taken = λ ended. absurd (ended refl);
} where
  top : (range : RangePlanner) → StandsAt run memory range → range.planner.level ≤ run.plan.way.level
  top range stands =
      let most = subst (λ (t : Target). range.planner.level ≤ levels t.depth) stands.of_target
      (way_within range.planner.level range.planner.number range.planner.rights stands.way) in
      omega (arith, most, begun.top)

pub comes_on : (memory : Memory) (before after : Run) (words : List ℕ) (status : ℕ) → IsSoundRange before → IsShown memory (planner_in before.plan)
    → finite.get memory before.plan.frame ≡ Some words → TakesPageOf (range_in before) words after status
    → FollowsLinkOf before words after status → HasNoneBeyond (target_in before.plan.call) memory → KeepsRange before after
    → ComesDown memory before 32 → ComesDown memory after status
comes_on memory before after words status sound shown there takes leads none kept come = record {
  down = λ range its stands got decided is.
      let then = stands_before memory before after range kept stands in
      let at = come.down range its then got decided refl in
      ⊎_elim
      (λ (lower : range.planner.level < before.plan.way.level).
      let on = at_lower memory before after words status sound shown there takes leads none range its then got at.1 at.2 decided lower in
      (on.1, on.2, on.3))
      (λ (high : before.plan.way.level ≤ range.planner.level).
      let same : range.planner.level ≡ before.plan.way.level = omega (arith, high, at.0) in
      absurd (decided_ends range its after status
      (at_same memory before after words status sound shown there takes leads none range its then got at.1 at.2 same) decided is))
      (cases_lt range.planner.level before.plan.way.level);
  taken = λ ended range its stands got.
      let by = by_decided ended range its (stands_before memory before after range kept stands) got in
      record {
        beyond = λ size seen no_map less. (by (inl (size, seen, no_map, less))).beyond size seen no_map less;
        within = λ size seen fits run. (by (inr (inl (size, seen, fits, run)))).within size seen fits run;
        mapped = λ map phase run. (by (inr (inr (map, phase, run)))).mapped map phase run;
      };
} where
  by_decided : status ≢ 32 → (range : RangePlanner) (its : List ℕ) → StandsAt before memory range → finite.get memory range.planner.number ≡ Some its
      → IsDecided range its → TakesPageOf range its after status
  by_decided ended range its then got decided =
      let at = come.down range its then got decided refl in
      ⊎_elim
      (λ (lower : range.planner.level < before.plan.way.level).
      absurd (ended (at_lower memory before after words status sound shown there takes leads none range its then got at.1 at.2 decided lower).0))
      (λ (high : before.plan.way.level ≤ range.planner.level).
      let same : range.planner.level ≡ before.plan.way.level = omega (arith, high, at.0) in
      at_same memory before after words status sound shown there takes leads none range its then got at.1 at.2 same)
      (cases_lt range.planner.level before.plan.way.level)
