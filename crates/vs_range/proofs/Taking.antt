-- What is done with the page that begins at the base of a range.
use Rattle.std.proofs.Common.{◌≡◌, ◌≢◌, ℕ, ◌+◌, ◌%◌, ◌<◌, ◌≤◌, ◌⊎◌, List, Bool, true, false, inl, inr, ⊎_elim, refl, sym, ap, subst, ◌∙◌, arith}
use Rattle.std.specs.Prelude.{slice_index}
use Rattle.vs_types.specs.Depth.{index_at}
use Rattle.vs_types.specs.Entry.{meaning, size_at}
use Rattle.vs_types.specs.Page.{bytes_of}
use Rattle.vs_types.specs.declared.addresses.page.Page.{Page}
use Rattle.vs_types.specs.declared.addresses.page.Rights.{Rights}
use Rattle.vs_types.specs.declared.addresses.page.Size.{Size}
use Rattle.vs_types.specs.declared.entries.entry.Meaning.TheVariants as entry
use Rattle.vs_space.proofs.Written.{size_same}
use Rattle.vs_plan.specs.declared.plans.request.Request.{Request}
use Rattle.vs_plan.specs.declared.plans.request.Request.TheVariants.{Map}
use Rattle.vs_plan.proofs.Stored.{even_absent}
use Rattle.vs_range.specs.declared.planner.RangePlanner.{RangePlanner}
use Rattle.vs_range.specs.declared.planner.RangeStep.{RangeStep}
use Rattle.vs_range.specs.declared.planner.RangeStep.TheVariants.{Beyond}
use Rattle.vs_range.specs.inside.Entry.{TakesEntry}
use Rattle.vs_range.specs.Planner.{FollowsLink, IsMap, IsMapRoom, IsPageAt, HasOther, IsInRun, IsRunStep, TakesPage}

-- a level has pages of one size
pub same_size : (range : RangePlanner) (word other : ℕ) (size wanted : Size) → IsPageAt range word size → IsPageAt range other wanted → size ≡ wanted
same_size range word other size wanted at there =
    sym (size_same size) ∙ ap size_at (sym at.level ∙ there.level) ∙ size_same wanted

pub aligned_at : (range : RangePlanner) (word : ℕ) (size : Size) → IsPageAt range word size
    → range.base % bytes_of (size_at range.planner.level) ≡ 0
aligned_at range word size at =
    ap (λ (s : Size). range.base % bytes_of s) (ap size_at at.level ∙ size_same size) ∙ at.aligned

module _ (range : RangePlanner) (words : List ℕ) where
  abbrev word_here : ℕ
  word_here = slice_index words (index_at range.planner.level range.base)

  -- where there is no link
  pub absent_links : slice_index words (index_at range.planner.level range.base) % 2 ≡ 0 → (next : ℕ) (own : Rights)
      → meaning range.planner.level (slice_index words (index_at range.planner.level range.base)) ≡ entry.Table next own → ⊥
  absent_links even next own link =
      let both : entry.Table next own ≡ entry.Absent = sym link ∙ even_absent range.planner.level word_here even in
      cc

  pub page_links : (word : ℕ) (size : Size) → word ≡ slice_index words (index_at range.planner.level range.base) → IsPageAt range word size
      → (after : RangePlanner) (step : RangeStep) → FollowsLink range words after step
  page_links word size read at after step = λ next own phase low link within.
      let both : entry.Leaf at.page.phys at.page.own ≡ entry.Table next own =
      sym at.page.says ∙ ap (meaning range.planner.level) read ∙ link in
      cc

  -- a map whose page isn't written here
  pub none_maps : (page : Page) (bits word : ℕ) (step : RangeStep) → range.planner.request ≡ Map page bits → word ≡ word_here
      → (IsMapRoom range page word 1 → ⊥) → TakesPage range words step
  none_maps page bits word step request read none = record {
    beyond = λ size seen no_map less. absurd (no_map (subst IsMap (sym request) tt));
    within = λ size seen fits run. absurd (no_room run);
    mapped = λ map phase run. absurd (no_room run);
  } where
    no_room : IsInRun range words range.planner.request → ⊥
    no_room run = none (subst (λ w. IsMapRoom range page w 1) (sym read) (subst (λ (q : Request). IsInRun range words q) request run))

  -- and one whose pages are
  pub run_maps : (page : Page) (bits : ℕ) (step : RangeStep) → range.planner.request ≡ Map page bits → IsRunStep step → TakesPage range words step
  run_maps page bits step request is_run = record {
    beyond = λ size seen no_map less. absurd (no_map (subst IsMap (sym request) tt));
    within = λ size seen fits run. is_run;
    mapped = λ map phase run. is_run;
  }

  pub absent_takes : (step : RangeStep) → (IsMap range.planner.request → ⊥) → word_here % 2 ≡ 0 → TakesPage range words step
  absent_takes step other even = record {
    beyond = λ size seen no_map less. absurd (none size seen.1);
    within = λ size seen fits run. absurd (none size seen.1);
    mapped = λ map phase run. absurd (other map);
  } where
    none : (size : Size) → IsPageAt range word_here size → ⊥
    none size at =
        let both : entry.Leaf at.page.phys at.page.own ≡ entry.Absent = sym at.page.says ∙ even_absent range.planner.level word_here even in
        cc

  pub none_takes : (word : ℕ) (step : RangeStep) → (IsMap range.planner.request → ⊥) → word ≡ word_here
      → ((size : Size) → IsPageAt range word size → ⊥) → TakesPage range words step
  none_takes word step other read none = record {
    beyond = λ size seen no_map less. absurd (none size (subst (λ w. IsPageAt range w size) (sym read) seen.1));
    within = λ size seen fits run. absurd (none size (subst (λ w. IsPageAt range w size) (sym read) seen.1));
    mapped = λ map phase run. absurd (other map);
  }

  pub beyond_takes : (word bytes : ℕ) (size : Size) → (IsMap range.planner.request → ⊥) → word ≡ word_here → IsPageAt range word size
      → bytes ≡ bytes_of size → range.bytes < bytes → (after : RangePlanner) → TakesEntry range words after (Beyond size)
  beyond_takes word bytes size other read at same_bytes few after = record {
    taken = record {
      beyond = λ larger seen no_map less. ap Beyond (same_size range word _ size larger at seen.1);
      within = λ larger seen fits run. absurd (too_few larger (same_size range word _ size larger at seen.1) fits);
      mapped = λ map phase run. absurd (other map);
    };
    leads = page_links word size read at after (Beyond size);
  } where
    too_few : (larger : Size) → size ≡ larger → bytes_of larger ≤ range.bytes → ⊥
    too_few larger same fits =
        let fits_it : bytes_of size ≤ range.bytes = subst (λ (s : Size). bytes_of s ≤ range.bytes) (sym same) fits in
        omega arith

  pub refused_takes : (word : ℕ) (size : Size) (step : RangeStep) → (IsMap range.planner.request → ⊥) → IsPageAt range word size
      → bytes_of size ≤ range.bytes → (IsInRun range words range.planner.request → ⊥) → TakesPage range words step
  refused_takes word size step other at fits no_run = record {
    beyond = λ larger seen no_map less. absurd (enough larger (same_size range word _ size larger at seen.1) less);
    within = λ larger seen fits run. absurd (no_run run);
    mapped = λ map phase run. absurd (other map);
  } where
    enough : (larger : Size) → size ≡ larger → range.bytes < bytes_of larger → ⊥
    enough larger same less =
        let less_it : range.bytes < bytes_of size = subst (λ (s : Size). range.bytes < bytes_of s) (sym same) less in
        omega arith

  pub run_takes : (word : ℕ) (size : Size) → word ≡ word_here → IsPageAt range word size → bytes_of size ≤ range.bytes → (after : RangePlanner)
      → (step : RangeStep) → IsRunStep step → TakesEntry range words after step
  run_takes word size read at fits after step is_run = record {
    taken = record {
      beyond = λ larger seen no_map less. absurd (enough larger (same_size range word _ size larger at seen.1) less);
      within = λ larger seen fits run. is_run;
      mapped = λ map phase run. is_run;
    };
    leads = page_links word size read at after step;
  } where
    enough : (larger : Size) → size ≡ larger → range.bytes < bytes_of larger → ⊥
    enough larger same less =
        let less_it : range.bytes < bytes_of size = subst (λ (s : Size). range.bytes < bytes_of s) (sym same) less in
        omega arith

-- one page that is the only word of its table
pub lone_page : (words now : List ℕ) (index at count pages : ℕ) → now ≡ words → index ≡ at → count ≡ 0 → pages ≤ count + 1 → 1 ≤ pages
    → (count < pages → (i : ℕ) → i < 512 → (i < index) ⊎ (index + pages ≤ i) → slice_index now i ≡ 0) → HasOther words at 1 → ⊥
lone_page words now index at count pages same here none few some alone has =
    has.some (ap (λ (ws : List ℕ). slice_index ws has.other) (sym same) ∙ alone (omega arith) has.other has.low (⊎_elim
    (λ (below : has.other < at). let low : has.other < index = omega arith in inl low)
    (λ (above : at + 1 ≤ has.other). let past : index + pages ≤ has.other = omega arith in inr past)
    has.apart))
