-- The first page below the level of a page that is to be mapped.
use Rattle.std.proofs.Common.{◌≡◌, ℕ, suc, ◌+◌, ◌-◌, ◌*◌, ◌%◌, ◌^◌, ◌<◌, ◌≤◌, List, [], Some, None, IsTrue, ⊎_elim, refl, sym, ap, subst, ◌∙◌, mod-eq_of_lt}
use Rattle.std.proofs.Common.{arith}
use Rattle.std.specs.Prelude.{slice_index}
use Rattle.std.proofs.lemmas.Bool.{cases_lt}
use Rattle.std.specs.FinMap as finite
use Rattle.vs_types.specs.Depth.{levels, entry_bytes, index_at, IsCanonical}
use Rattle.vs_types.specs.Entry.{meaning}
use Rattle.vs_types.specs.Page.{level_of, bytes_of, covers, intersection, IsPage}
use Rattle.vs_types.specs.Space.{Space, page_at, table_count, least_overlapped}
use Rattle.vs_types.specs.Step.{Stepped}
use Rattle.vs_types.specs.declared.addresses.page.Page.{Page}
use Rattle.vs_types.specs.declared.addresses.page.Rights.{Rights}
use Rattle.vs_types.specs.declared.entries.entry.Meaning.TheVariants as entry
use Rattle.vs_types.specs.declared.requests.answer.Answer.TheVariants as answers
use Rattle.vs_types.proofs.Pages.{covers_means, covered_canonical, canonical_fits, level_at_most, three_levels}
use Rattle.vs_walk.specs.Memory.{Memory}
use Rattle.vs_walk.specs.Walk.{walk, TranslatesAs}
use Rattle.vs_walk.specs.declared.walk.Walk.TheVariants.{NotMapped}
use Rattle.vs_space.specs.Held.{word_at}
use Rattle.vs_space.specs.Path.{table_in, SamePath}
use Rattle.vs_space.proofs.Meets.{never_table}
use Rattle.vs_space.proofs.Overlaps.{overlapped_least}
use Rattle.vs_space.proofs.Prunes.{word_in, entry_word}
use Rattle.vs_space.proofs.Regions.{nothing_at, path_covers}
use Rattle.vs_plan.specs.declared.plans.plan.Plan.{Plan}
use Rattle.vs_plan.specs.declared.plans.plan.Reply.TheVariants as replies
use Rattle.vs_plan.specs.declared.plans.planner.Planner.{Planner}
use Rattle.vs_plan.specs.declared.plans.request.Request.TheVariants.{Map}
use Rattle.vs_plan.specs.Premise.{IsPremise}
use Rattle.vs_plan.specs.Request.{IsRequest, IsMapped, IsWhole, address_of, lowest_of, stepped}
use Rattle.vs_plan.specs.Answered.{LiesOverEmpty}
use Rattle.vs_plan.specs.Right.{IsRight}
use Rattle.vs_plan.specs.Shown.{IsSearched, IsShown, IsShownIn}
use Rattle.vs_plan.specs.Target.{frames_end}
use Rattle.vs_plan.specs.Way.{IsWay}
use Rattle.vs_plan.specs.declared.plans.planner.Phase.TheVariants as phases
use Rattle.vs_plan.specs.inside.Ended.{IsAtEnd, HasEnded, IsFirstPresent, ChangesNothing}
use Rattle.vs_plan.proofs.Pages.{reserved_never, page_here, premise_table}
use Rattle.vs_plan.proofs.Parts.{beyond_right, leads_beyond, nothing_right, due_as}
use Rattle.vs_space.proofs.Maps.{map_overlaps}
use Rattle.vs_space.proofs.Stretches.{next_index, next_path, next_canonical, next_aligned, earlier}
use Rattle.vs_plan.proofs.Ways.{way_shared, way_walk, walk_level, way_on}
use Rattle.vs_plan.proofs.Stored.{found_word, even_absent, absent_even}

module _ {memory : Memory} {p : Planner} {words : List ℕ} (request : IsRequest p.target p.request) (some : 1 ≤ p.level)
    (searched : IsSearched memory p) (there : finite.get memory p.number ≡ Some words) where
  abbrev page : Page
  page = searched.page

  mapped : IsMapped p.target page searched.bits
  mapped = subst (IsWhole p.target) searched.request request.whole

  good : IsPage p.target.depth page
  good = mapped.good

  low : p.level < levels p.target.depth
  low = omega (arith, searched.below, level_at_most page.size, three_levels p.target.depth)

  place : address_of p.request ≡ page.base
  place = ap address_of searched.request

  -- an address of the table whose entry is absent
  quiet : (b : ℕ) → SamePath (levels p.target.depth) (suc p.level) p.base b → slice_index words (index_at p.level b) % 2 ≡ 0
      → walk p.target.depth memory p.target.root b ≡ NotMapped
  quiet b path even =
      way_walk p.level p.number searched.rights searched.way b path
      ∙ walk_level memory p.level p.number searched.rights b entry.Absent some
      (found_word p.level memory p.number b _ (word_in memory p.number (index_at p.level b) words there)
      ∙ ap Some (even_absent p.level (slice_index words (index_at p.level b)) even))

  -- ---- no entry is present

  pub empty_right : ((i : ℕ) → i < 512 → slice_index words i % 2 ≡ 0) → (plan : Plan) → ChangesNothing (replies.Empty p.number p.base) 0 plan → (space : Space)
      → IsPremise p.target.depth memory p.target.root (address_of p.request) space → IsRight p.target p.request memory space [] plan
  empty_right none plan is space premise =
      nothing_right premise (due_as p.target space searched.request refl) plan is tt
      (subst (λ r. LiesOverEmpty p.target memory r p.number p.base) (sym searched.request) (record {
        level = p.level;
        rights = searched.rights;
        below = searched.below;
        covered = (path_covers p.target.depth page good p.base searched.canonical searched.same_path).0;
        way = searched.way;
        empty = λ i lt. entry_word p.level memory p.number i (slice_index words i) entry.Absent (word_in memory p.number i words there)
            (sym (even_absent p.level (slice_index words i) (none i lt)));
      }))
      premise.translates refl

  -- ---- the first entry that is present

  -- where it begins, as it is computed
  pub next_exact : (index offset : ℕ) → offset ≡ index * entry_bytes p.level → index < 512 → (p.base + offset) % 18446744073709551616
      ≡ p.base + index * 2 ^ (3 + 9 * p.level)
  next_exact index offset exact within =
      let fits = canonical_fits p.target.depth (p.base + index * 2 ^ (3 + 9 * p.level))
      (next_canonical p.target.depth p.level p.base index (p.base + index * 2 ^ (3 + 9 * p.level)) searched.canonical low searched.aligned within refl) in
      ap (λ n. (p.base + n) % 18446744073709551616) exact ∙ mod-eq_of_lt fits

  module _ {index next : ℕ} (first : IsFirstPresent words index) (next_is : next ≡ p.base + index * 2 ^ (3 + 9 * p.level)) where
    abbrev word : ℕ
    word = slice_index words index

    at_index : index_at p.level next ≡ index
    at_index = next_index p.target.depth p.level p.base index next searched.canonical low searched.aligned first.within next_is

    path : SamePath (levels p.target.depth) (suc p.level) p.base next
    path = next_path p.target.depth p.level p.base index next searched.canonical low searched.aligned first.within next_is

    canonical : IsCanonical p.target.depth next
    canonical = next_canonical p.target.depth p.level p.base index next searched.canonical low searched.aligned first.within next_is

    aligned : next % 2 ^ (3 + 9 * p.level) ≡ 0
    aligned = next_aligned p.target.depth p.level p.base index next searched.canonical low searched.aligned first.within next_is

    way : IsWay p.target.depth memory p.target.root next p.level p.number searched.rights
    way = way_shared next p.level p.number searched.rights searched.way path

    word_is : word_at memory p.number (index_at p.level next) ≡ Some word
    word_is = ap (word_at memory p.number) at_index ∙ word_in memory p.number index words there

    same_path : SamePath (levels p.target.depth) (level_of page.size) page.base next
    same_path = λ i from to. searched.same_path i from to ∙ path i (omega (arith, searched.below, from)) to

    before : (b : ℕ) → IsCanonical p.target.depth b → page.base ≤ b → b < next → walk p.target.depth memory p.target.root b ≡ NotMapped
    before b is_b from high = ⊎_elim
        (λ (lower : b < p.base). searched.before b is_b from lower)
        (λ (later : p.base ≤ b).
        let at = earlier p.target.depth p.level p.base index next searched.canonical low searched.aligned first.within next_is b later high in
        quiet b at.1 (first.before (index_at p.level b) at.0))
        (cases_lt b p.base)

    -- it leads to a table
    pub search_on : {found : ℕ} {own : Rights} → meaning p.level word ≡ entry.Table found own
        → IsSearched memory (record p { base = next; number = found; level = p.level - 1 })
    search_on {found} {own} says = record {
      page = page;
      bits = searched.bits;
      request = searched.request;
      below = omega (arith, searched.below);
      rights = intersection searched.rights own;
      way = way_on way some (found_word p.level memory p.number next word word_is ∙ ap Some says);
      canonical = canonical;
      from = omega (arith, searched.from, next_is);
      same_path = same_path;
      aligned = let e : 12 + 9 * (p.level - 1) ≡ 3 + 9 * p.level = omega arith in subst (λ n. next % 2 ^ n ≡ 0) (sym e) aligned;
      before = before;
    }

    pub shown_on : {found : ℕ} {own : Rights} → meaning p.level word ≡ entry.Table found own → p.phase ≡ phases.Search
        → IsShown memory (record p { base = next; number = found; level = p.level - 1 })
    shown_on {found} {own} says is =
        subst (λ phase. IsShownIn phase memory (record p { base = next; number = found; level = p.level - 1 })) (sym is) (search_on says)

    module _ {space : Space} (premise : IsPremise p.target.depth memory p.target.root (address_of p.request) space) (plan : Plan) where
      -- it is a page
      pub leaf_right : {phys : ℕ} {own : Rights} → meaning p.level word ≡ entry.Leaf phys own → ChangesNothing (replies.Answer (answers.Overlap next)) 0 plan
          → IsRight p.target p.request memory space [] plan
      leaf_right {phys} {own} says is =
          let here = page_here way some word_is premise canonical says in
          let q = here.0 in
          let inside = (path_covers p.target.depth page good next canonical same_path).0 in
          let offset : next % bytes_of q.size ≡ 0 = ap (λ l. next % entry_bytes l) here.1.level_is ∙ aligned in
          let begins : q.base ≡ next = omega (arith, here.1.base, offset) in
          let held : page_at space q.base ≡ Some q = ap (page_at space) begins ∙ here.1.here in
          let least : least_overlapped space page ≡ Some q.base =
          overlapped_least premise.is_space page q held (subst (λ b. IsTrue (covers page b)) (sym begins) inside) (λ a from high.
          let spans = (covers_means page next).0 inside in
          let covered = (covers_means page a).1 (from, omega (arith, high, begins, spans.1)) in
          let is_a = covered_canonical (2 ^ 51) p.target.depth page a good covered in
          nothing_at (premise_table premise) a is_a (before a is_a from (omega (arith, high, begins)))) in
          let stays : stepped p.target.depth space p.request ≡ record { space = space; answer = answers.Overlap next } =
          ap (stepped p.target.depth space) searched.request
          ∙ map_overlaps p.target.depth (table_count p.target.depth (finite.insert space page.base page)) space page next (least ∙ ap Some begins) in
          nothing_right premise (due_as p.target space searched.request refl) plan is tt (sym (ap (λ (s : Stepped). s.answer) stays))
          (subst (λ (s : Space). TranslatesAs p.target.depth memory p.target.root s) (sym (ap (λ (s : Stepped). s.space) stays)) premise.translates) refl

      -- it leads to a frame beyond the physical addresses
      pub search_beyond : {found : ℕ} {own : Rights} → meaning p.level word ≡ entry.Table found own → frames_end p.target ≤ found
          → ChangesNothing (replies.Reserved p.number index) 0 plan → IsRight p.target p.request memory space [] plan
      search_beyond {found} {own} says far is =
          beyond_right premise plan is (leads_beyond p.target next p.level p.number searched.rights some way
          (found_word p.level memory p.number next word word_is ∙ ap Some says) (sym at_index) far)

      pub search_reserved : meaning p.level word ≡ entry.Reserved → IsRight p.target p.request memory space [] plan
      search_reserved says = absurd (reserved_never way some word_is premise canonical says)

    -- it isn't absent
    pub search_present : meaning p.level word ≡ entry.Absent → ⊥
    search_present says = first.present (absent_even p.level word says)

-- ---- the search begins, at the entry of the page's own level

module _ {p : Planner} {page : Page} {bits : ℕ} (word : ℕ) (end : IsAtEnd p) (is : p.request ≡ Map page bits) {found : ℕ} {own : Rights}
    (says : meaning p.level word ≡ entry.Table found own) where
  own_deep : 1 < p.level
  own_deep = ⊎_elim
      (λ (deep : 1 < p.level). deep)
      (λ (le : p.level ≤ 1).
      let one : p.level ≡ 1 = omega (arith, end.some) in
      absurd (never_table word found own (ap (λ l. meaning l word) (sym one) ∙ says)))
      (cases_lt 1 p.level)

  pub search_begins : {memory : Memory} → HasEnded memory p word
      → IsSearched memory (record p { phase = phases.Search; base = page.base; number = found; level = p.level - 1 })
  search_begins {memory} ended = record {
    page = page;
    bits = bits;
    request = is;
    below = omega (arith, own_level, own_deep);
    rights = intersection p.rights own;
    way = subst (λ a. IsWay p.target.depth memory p.target.root a (p.level - 1) found (intersection p.rights own)) place
        (way_on ended.way end.some (found_word p.level memory p.number (address_of p.request) word ended.word_is ∙ ap Some says));
    canonical = subst (IsCanonical p.target.depth) place end.request.canonical;
    from = omega arith;
    same_path = λ i from to. refl;
    aligned = let e : 12 + 9 * (p.level - 1) ≡ 3 + 9 * level_of page.size = omega (arith, own_level, own_deep) in
        subst (λ n. page.base % 2 ^ n ≡ 0) (sym e) good.aligned;
    before = λ b is_b from high. absurd (omega (arith, from, high));
  } where
    place : address_of p.request ≡ page.base
    place = ap address_of is

    good : IsPage p.target.depth page
    good = (let whole : IsMapped p.target page bits = subst (IsWhole p.target) is end.request.whole in whole.good)

    lowest : lowest_of p.request ≡ level_of page.size
    lowest = ap lowest_of is

    own_level : p.level ≡ level_of page.size
    own_level = ⊎_elim
        (λ (deep : lowest_of p.request < p.level).
        let none : table_in (Some (entry.Table found own)) ≡ None = ap (λ e. table_in (Some e)) (sym says) ∙ ended.ends deep in absurd (cc))
        (λ (le : p.level ≤ lowest_of p.request). omega (arith, lowest, end.lowest))
        (cases_lt (lowest_of p.request) p.level)
