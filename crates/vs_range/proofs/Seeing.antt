-- What the planner of a range has seen makes its run right.
use Rattle.std.proofs.Common.{◌≡◌, ◌≢◌, ℕ, ◌+◌, ◌-◌, ◌*◌, ◌%◌, ◌<◌, ◌≤◌, ◌⊎◌, List, [], Bool, true, false, Option, Some, None, inl, inr, ⊎_elim, refl, sym, ap, subst, ◌∙◌, arith}
use Rattle.std.specs.Prelude.{IfSome, IsFalse, cond, slice_index, unwrap_or}
use Rattle.std.specs.FinMap as finite
use Rattle.std.proofs.lemmas.Bool.{cases_lt}
use Rattle.vs_types.specs.Depth.{levels, index_at, entry_bytes, IsCanonical}
use Rattle.vs_types.specs.Entry.{meaning, size_at}
use Rattle.vs_types.specs.Page.{level_of, bytes_of, intersection}
use Rattle.vs_types.specs.Space.{Space}
use Rattle.vs_types.specs.declared.addresses.depth.Depth.{Depth}
use Rattle.vs_types.specs.declared.addresses.depth.Depth.TheVariants.{Four, Five}
use Rattle.vs_types.specs.declared.addresses.page.Page.{Page}
use Rattle.vs_types.specs.declared.addresses.page.Rights.{Rights}
use Rattle.vs_types.specs.declared.addresses.page.Size.{Size}
use Rattle.vs_types.specs.declared.entries.entry.Meaning.TheVariants as entry
use Rattle.vs_walk.specs.Memory.{Memory}
use Rattle.vs_space.proofs.Written.{size_same, word_of}
use Rattle.vs_plan.specs.declared.plans.plan.Step.{Step}
use Rattle.vs_plan.specs.declared.plans.plan.Step.TheVariants as steps
use Rattle.vs_plan.specs.declared.plans.planner.Phase.TheVariants.{Descent}
use Rattle.vs_plan.specs.declared.plans.planner.Planner.{Planner}
use Rattle.vs_plan.specs.declared.plans.request.Request.{Request}
use Rattle.vs_plan.specs.declared.plans.request.Request.TheVariants.{Map, Unmap, Protect, Ask}
use Rattle.vs_plan.specs.Planner.{Awaits}
use Rattle.vs_plan.specs.Premise.{IsPremise}
use Rattle.vs_plan.specs.Request.{IsRequest, address_of}
use Rattle.vs_plan.specs.Shown.{IsShown, IsShownIn, IsDescended, IsNext}
use Rattle.vs_plan.specs.Target.{highest_link}
use Rattle.vs_plan.specs.Way.{IsWay}
use Rattle.vs_plan.proofs.Pages.{page_here}
use Rattle.vs_plan.proofs.Stored.{even_absent}
use Rattle.vs_range.specs.declared.planner.RangePlanner.{RangePlanner}
use Rattle.vs_range.specs.declared.planner.RangeStep.TheVariants.{Beyond}
use Rattle.vs_range.specs.Planner.{IsRanged, AwaitsRange, AwaitsNext, as_range, IsPageWord, IsPageAt, IsMapRoom, HasOther}
use Rattle.vs_range.specs.Planner.{IsMap, IsRunOf, change_of, harvest_run, map_run, protect_run, unmap_run, words_in}
use Rattle.vs_range.specs.declared.run.Run.{Run}
use Rattle.vs_range.specs.Planner.{EndsBeyond, EndsWith, IsLongest, IsAbsentFor, IsRunNext, IsRangeNext}
use Rattle.vs_range.specs.Run.{IsRunRight}
use Rattle.vs_range.proofs.Holes.{rest_low, some_left, hole, whole_end, table_end, next_index}
use Rattle.vs_range.proofs.MapRun.{map_run_right}
use Rattle.vs_range.proofs.OnTable.{IsAtTable}
use Rattle.vs_range.proofs.ProtectRun.{protect_run_right}
use Rattle.vs_range.proofs.UnmapRun.{unmap_run_right}

-- what was given, by its parts
pub some_given : (frame : Option ℕ) (P Q : ℕ → Type 0) → ((number : ℕ) → P number → Q number) → IfSome frame P → IfSome frame Q
some_given None P Q go is = is
some_given (Some number) P Q go is = go number is

-- ---- the step of the first page's planner

pub awaits_next : (range then : RangePlanner) (step : Step) → then.planner.request ≡ range.planner.request → then.base ≡ range.base → AwaitsRange range
    → Awaits then.planner step → AwaitsNext then (as_range step)
awaits_next range then (steps.See number) request base awaits is = (
  record {
    words = is.0;
    base = ap address_of request ∙ awaits.base ∙ sym base;
    kind = subst IsRanged (sym request) awaits.kind;
  },
  is.1,
)
awaits_next range then steps.Give request base awaits is = is
awaits_next range then (steps.Planned plan) request base awaits is = tt

pub range_next : (memory : Memory) (range : RangePlanner) (offered : List (Option ℕ)) (step : Step) → IsNext memory range.planner offered step
    → IsRangeNext memory range offered (as_range step)
range_next memory range offered (steps.See number) next = next
range_next memory range offered steps.Give next = next
range_next memory range offered (steps.Planned plan) next = next

beyond_bytes : (size : Size) (bytes left : ℕ) → bytes ≡ bytes_of size → left < bytes → left < bytes_of size
beyond_bytes size bytes left same less = subst (λ n. left < n) same less

-- the last page's word is not 0
pub last_word : (words before : List ℕ) (level index count : ℕ) → words ≡ before → 1 ≤ count
    → ((k : ℕ) → k < count → IsPageWord level (slice_index before (index + k))) → slice_index words (index + count - 1) ≢ 0
last_word words before level index count same some pages nothing =
    let is = pages (count - 1) (omega arith) in
    let at : index + (count - 1) ≡ index + count - 1 = omega arith in
    let none : slice_index before (index + (count - 1)) ≡ 0 =
    ap (slice_index before) at ∙ ap (λ (ws : List ℕ). slice_index ws (index + count - 1)) (sym same) ∙ nothing in
    let both : entry.Leaf is.phys is.own ≡ entry.Absent = sym is.says ∙ ap (meaning level) none ∙ even_absent level 0 refl in
    cc

-- dealt with by itself, the first page's table is asked for once less
pub alone_fewer : (level : ℕ) (alone : Bool) → IsFalse alone → level + cond true 0 1 < level + cond alone 0 1
alone_fewer level true is = absurd (cc)
alone_fewer level false is = omega arith

pub few_levels : (depth : Depth) → levels depth ≤ 5
few_levels Four = omega arith
few_levels Five = omega arith

-- ---- how long a run is

-- so many pages, where there is room for more: the word behind them ends the run, or else what ends the room
pub ends_here : {A : Type 0} (index count most bytes one : ℕ) → count ≤ most → (count < most → A)
    → (index + most ≡ 512) ⊎ (bytes < (most + 1) * one) → (index + count ≡ 512) ⊎ ((bytes < (count + 1) * one) ⊎ A)
ends_here {A} index count most bytes one few word room = ⊎_elim
    (λ (less : count < most). inr (inr (word less)))
    (λ (all : most ≤ count).
    let same : most ≡ count = omega arith in
    ⊎_elim
    (λ (e : index + most ≡ 512). inl (omega arith))
    (λ (e : bytes < (most + 1) * one). inr (inl (subst (λ n. bytes < (n + 1) * one) same e)))
    room)
    (cases_lt count most)

-- the same for a map, whose pages may end at the last physical address
pub map_ends : {A : Type 0} (index count most bytes one phys end : ℕ) → count ≤ most → (count < most → A)
    → (index + most ≡ 512) ⊎ ((bytes < (most + 1) * one) ⊎ (end < phys + (most + 1) * one))
    → (index + count ≡ 512) ⊎ ((bytes < (count + 1) * one) ⊎ (A ⊎ (end < phys + (count + 1) * one)))
map_ends {A} index count most bytes one phys end few word room = ⊎_elim
    (λ (less : count < most). inr (inr (inl (word less))))
    (λ (all : most ≤ count).
    let same : most ≡ count = omega arith in
    ⊎_elim
    (λ (e : index + most ≡ 512). inl (omega arith))
    (λ (e : (bytes < (most + 1) * one) ⊎ (end < phys + (most + 1) * one)). ⊎_elim
    (λ (f : bytes < (most + 1) * one). inr (inl (subst (λ n. bytes < (n + 1) * one) same f)))
    (λ (f : end < phys + (most + 1) * one). inr (inr (inr (subst (λ n. end < phys + (n + 1) * one) same f))))
    e)
    room)
    (cases_lt count most)

-- the same for an unmap, which may leave the last page of the table
pub unmap_ends : (A : ℕ → Type 0) (words : List ℕ) (index count pages most bytes one : ℕ) → count ≤ pages → pages ≤ count + 1 → pages ≤ most
    → (pages < most → A pages) → (index + most ≡ 512) ⊎ (bytes < (most + 1) * one)
    → (count < pages → (i : ℕ) → i < 512 → (i < index) ⊎ (index + pages ≤ i) → slice_index words i ≡ 0)
    → (index + count ≡ 512) ⊎ ((bytes < (count + 1) * one)
    ⊎ (A count ⊎ ((i : ℕ) → i < 512 → (i < index) ⊎ (index + count < i) → slice_index words i ≡ 0)))
unmap_ends A words index count pages most bytes one few least within word room alone = ⊎_elim
    (λ (less : count < pages). inr (inr (inr (λ i low apart. alone less i low (⊎_elim
    (λ (a : i < index). inl a)
    (λ (b : index + count < i). let past : index + pages ≤ i = omega arith in inr past)
    apart)))))
    (λ (all : pages ≤ count).
    let same : pages ≡ count = omega arith in
    ⊎_elim
    (λ (e : index + pages ≡ 512). inl (omega arith))
    (λ (e : (bytes < (pages + 1) * one) ⊎ A pages). ⊎_elim
    (λ (f : bytes < (pages + 1) * one). inr (inl (subst (λ n. bytes < (n + 1) * one) same f)))
    (λ (a : A pages). inr (inr (inl (subst A same a))))
    e)
    (ends_here {A = A pages} index pages most bytes one within word room))
    (cases_lt count pages)

-- what ends a run of these words, for this request
pub longest_as : (memory : Memory) (range : RangePlanner) (words : List ℕ) (run : Run) (request : Request) → range.planner.request ≡ request
    → finite.get memory run.frame ≡ Some words → EndsWith range run words request → IsLongest memory range run
longest_as memory range words run request same got ends =
    subst (λ (q : Request). EndsWith range run (unwrap_or (finite.get memory run.frame) []) q) (sym same)
    (subst (λ (ws : List ℕ). EndsWith range run ws request) (ap (λ (o : Option (List ℕ)). unwrap_or o []) (sym got)) ends)

-- ---- the table in which the way ends

pub descended : {memory : Memory} (p : Planner) → p.phase ≡ Descent → IsShown memory p → IsDescended memory p
descended {memory} p phase shown = subst (λ f. IsShownIn f memory p) phase shown

module _ (memory : Memory) (range : RangePlanner) (awaits : AwaitsRange range) (phase : range.planner.phase ≡ Descent) (shown : IsShown memory range.planner)
    (words : List ℕ) (got : finite.get memory range.planner.number ≡ Some words) where
  -- the way of the base
  way : IsWay range.planner.target.depth memory range.planner.target.root range.base range.planner.level range.planner.number range.planner.rights
  way = subst (λ a. IsWay range.planner.target.depth memory range.planner.target.root a range.planner.level range.planner.number range.planner.rights)
      awaits.base (descended range.planner phase shown).way

  at_table : (size : Size) → range.planner.level ≡ level_of size → (space : Space)
      → IsPremise range.planner.target.depth memory range.planner.target.root range.base space
      → IsAtTable range.planner.target memory space size range.base range.planner.number range.planner.rights
  at_table size level space premise = record {
    premise = premise;
    way = subst (λ l. IsWay range.planner.target.depth memory range.planner.target.root range.base l range.planner.number range.planner.rights) level way;
  }

  -- the page that begins at the base ends beyond the range
  ends_beyond : (size : Size) → IsPageAt range (slice_index words (index_at range.planner.level range.base)) size → range.bytes < bytes_of size
      → (space : Space) → IsPremise range.planner.target.depth memory range.planner.target.root range.base space → EndsBeyond space range.base range.bytes size
  ends_beyond size at few space premise =
      let found = page_here way awaits.words.some (word_of memory range.planner.number (index_at range.planner.level range.base) (Some words) got) premise
      (subst (IsCanonical range.planner.target.depth) awaits.base awaits.words.request.canonical) at.page.says in
      let same : found.0.size ≡ size = found.1.size ∙ ap size_at at.level ∙ size_same size in
      record {
        page = found.0;
        there = found.1.here;
        begins = begins found.0.base range.base (range.base % bytes_of found.0.size) found.1.base (ap (λ z. range.base % bytes_of z) same ∙ at.aligned);
        size_is = same;
        beyond = few;
      }
    where
      begins : (b a rest : ℕ) → b + rest ≡ a → rest ≡ 0 → b ≡ a
      begins b a rest sum none = omega arith

  -- so it is named, where it is no page of a map
  pub beyond_next : (word bytes : ℕ) (size : Size) → (IsMap range.planner.request → ⊥) → word ≡ slice_index words (index_at range.planner.level range.base)
      → IsPageAt range word size → bytes ≡ bytes_of size → range.bytes < bytes → IsRangeNext memory range [] (Beyond size)
  beyond_next word bytes size other read at same less = (
    other,
    ends_beyond size (subst (λ w. IsPageAt range w size) read at) (beyond_bytes size bytes range.bytes same less),
  )

  -- ---- the runs

  run_of : (run : Run) → run.frame ≡ range.planner.number → run.index ≡ index_at range.planner.level range.base
      → range.planner.level ≡ level_of run.size → range.base % bytes_of run.size ≡ 0 → run.change ≡ change_of range.planner.request run.size
      → IsRunOf memory range run
  run_of run frame index level aligned change = record {
    rights = range.planner.rights;
    way = subst (λ n. IsWay range.planner.target.depth memory range.planner.target.root range.base (level_of run.size) n range.planner.rights) (sym frame)
        (subst (λ l. IsWay range.planner.target.depth memory range.planner.target.root range.base l range.planner.number range.planner.rights) level way);
    level = level;
    index = index ∙ ap (λ l. index_at l range.base) level;
    aligned = aligned;
    change = change;
  }

  pub map_next : (page : Page) (bits word index count most : ℕ) → range.planner.request ≡ Map page bits → IsMapRoom range page word most
      → index ≡ index_at range.planner.level range.base → 1 ≤ count → count ≤ most
      → ((k : ℕ) → k < count → slice_index words (index + k) % 2 ≡ 0)
      → EndsWith range (map_run page bits count range.planner.number index) words (Map page bits)
      → IsRunNext memory range (map_run page bits count range.planner.number index)
  map_next page bits word index count most request room index_is some few absent ends =
      let asked : IsRequest range.planner.target (Map page bits) = subst (IsRequest range.planner.target) request awaits.words.request in
      let place : page.base ≡ range.base = sym (ap address_of request) ∙ awaits.base in
      let here : index ≡ index_at (level_of page.size) page.base =
      index_is ∙ ap (λ l. index_at l range.base) room.level ∙ ap (index_at (level_of page.size)) (sym place) in
      record {
        of_table = run_of (map_run page bits count range.planner.number index) refl index_is room.level
            (subst (λ a. a % bytes_of page.size ≡ 0) place asked.whole.good.aligned)
            (ap (λ (q : Request). change_of q page.size) (sym request));
        some = some;
        within = room.within count few;
        longest = longest_as memory range words (map_run page bits count range.planner.number index) (Map page bits) request got ends;
        forgets = inl refl;
        right = λ space premise. subst (λ q. IsRunRight range.planner.target q memory space (map_run page bits count range.planner.number index)) (sym request)
            (map_run_right range.planner.target page bits count range.planner.number index words range.planner.rights asked here
            (omega (arith, room.room, index_is, few)) room.allows absent (room.low count few) (room.phys count few) memory space got
            (subst (λ a. IsAtTable range.planner.target memory space page.size a range.planner.number range.planner.rights) (sym place)
            (at_table page.size room.level space premise)));
      }

  leaves : (size : Size) (index count : ℕ) → range.planner.level ≡ level_of size
      → ((k : ℕ) → k < count → IsPageWord range.planner.level (slice_index words (index + k)))
      → (k : ℕ) → k < count → (phys : ℕ) × (own : Rights) × (meaning (level_of size) (slice_index words (index + k)) ≡ entry.Leaf phys own)
  leaves size index count level pages k lt =
      let is = pages k lt in
      (is.phys, is.own, subst (λ l. meaning l (slice_index words (index + k)) ≡ entry.Leaf is.phys is.own) level is.says)

  pub protect_next : (size : Size) (rights : Rights) (word index count : ℕ) → range.planner.request ≡ Protect range.base rights → IsPageAt range word size
      → intersection range.planner.rights rights ≡ rights → index ≡ index_at range.planner.level range.base → 1 ≤ count → index + count ≤ 512
      → count * bytes_of size ≤ range.bytes → ((k : ℕ) → k < count → IsPageWord range.planner.level (slice_index words (index + k)))
      → EndsWith range (protect_run size range.base rights count range.planner.number index) words (Protect range.base rights)
      → IsRunNext memory range (protect_run size range.base rights count range.planner.number index)
  protect_next size rights word index count request at allows index_is some room within pages ends = record {
    of_table = run_of (protect_run size range.base rights count range.planner.number index) refl index_is at.level at.aligned
        (ap (λ (q : Request). change_of q size) (sym request));
    some = some;
    within = within;
    longest = longest_as memory range words (protect_run size range.base rights count range.planner.number index) (Protect range.base rights) request got ends;
    forgets = inr refl;
    right = λ space premise. subst (λ q. IsRunRight range.planner.target q memory space (protect_run size range.base rights count range.planner.number index))
        (sym request)
        (protect_run_right range.planner.target size range.base count range.planner.number index rights range.planner.rights words
        (subst (IsRequest range.planner.target) request awaits.words.request) at.aligned
        (index_is ∙ ap (λ l. index_at l range.base) at.level)
        room allows (leaves size index count at.level pages) memory space got (at_table size at.level space premise));
  }

  -- where the link to the table may be cleared, the lowest table that stays lies above it
  pub stays_above : (base : ℕ) → range.planner.request ≡ Unmap base → range.planner.level < highest_link range.planner.target
      → range.planner.level < range.planner.stop
  stays_above base request high =
      let met = (descended range.planner phase shown).met in
      ⊎_elim
      (λ (lower : range.planner.stop < highest_link range.planner.target). let busy = (met.busy base request lower).0 in omega arith)
      (λ (same : highest_link range.planner.target ≤ range.planner.stop). omega arith)
      (cases_lt range.planner.stop (highest_link range.planner.target))

  pub unmap_next : (size : Size) (word index count : ℕ) → range.planner.request ≡ Unmap range.base → IsPageAt range word size
      → index ≡ index_at range.planner.level range.base → 1 ≤ count → index + count ≤ 512
      → count * bytes_of size ≤ range.bytes → ((k : ℕ) → k < count → IsPageWord range.planner.level (slice_index words (index + k)))
      → (range.planner.level < highest_link range.planner.target → HasOther words index count)
      → EndsWith range (unmap_run size range.base count range.planner.number index) words (Unmap range.base)
      → IsRunNext memory range (unmap_run size range.base count range.planner.number index)
  unmap_next size word index count request at index_is some room within pages busy ends = record {
    of_table = run_of (unmap_run size range.base count range.planner.number index) refl index_is at.level at.aligned
        (ap (λ (q : Request). change_of q size) (sym request));
    some = some;
    within = within;
    longest = longest_as memory range words (unmap_run size range.base count range.planner.number index) (Unmap range.base) request got ends;
    forgets = inr refl;
    right = λ space premise. subst (λ q. IsRunRight range.planner.target q memory space (unmap_run size range.base count range.planner.number index))
        (sym request)
        (unmap_run_right range.planner.target size range.base count range.planner.number index range.planner.rights words
        (subst (IsRequest range.planner.target) request awaits.words.request) at.aligned
        (index_is ∙ ap (λ l. index_at l range.base) at.level)
        room (leaves size index count at.level pages)
        (λ low. busy (subst (λ l. l < highest_link range.planner.target) (sym at.level) low)) memory space got (at_table size at.level space premise));
  }

  pub harvest_of : (size : Size) (word index count : ℕ) → range.planner.request ≡ Ask range.base → IsPageAt range word size
      → index ≡ index_at range.planner.level range.base
      → IsRunOf memory range (harvest_run size range.base count range.planner.number index)
  harvest_of size word index count request at index_is =
      run_of (harvest_run size range.base count range.planner.number index) refl index_is at.level at.aligned
      (ap (λ (q : Request). change_of q size) (sym request))

  -- no page lies where the entries are absent
  pub absent_next : (index count bytes : ℕ) → (IsMap range.planner.request → ⊥) → index ≡ index_at range.planner.level range.base → 1 ≤ count
      → index + count ≤ 512 → ((k : ℕ) → k < count → slice_index words (index + k) % 2 ≡ 0)
      → (count < 512 - index → slice_index words (index + count) % 2 ≢ 0) → bytes ≡ entry_bytes range.planner.level → range.planner.level ≤ 5
      → IsAbsentFor memory range (count * bytes - range.base % bytes)
  absent_next index count bytes kind index_is some room absent behind bytes_is few =
      subst (λ b. IsAbsentFor memory range (count * b - range.base % b)) (sym bytes_is) (record {
        kind = kind;
        some = left_some (count * entry_bytes range.planner.level) (range.base % entry_bytes range.planner.level) left;
        nothing = λ address canonical low high. hole range.planner.target.depth memory range.planner.target.root range.base range.planner.level
            range.planner.number range.planner.rights way awaits.words.some few words got count
            (subst (λ i. i + count ≤ 512) index_is room)
            (λ k lt. subst (λ i. slice_index words (i + k) % 2 ≡ 0) index_is (absent k lt)) some address low high;
        level = range.planner.level;
        number = range.planner.number;
        rights = range.planner.rights;
        way = way;
        gap = subst (λ (ws : List ℕ). slice_index ws (index_at range.planner.level range.base) % 2 ≡ 0) words_are
            (subst (λ i. slice_index words i % 2 ≡ 0) (first_index index ∙ index_is) (absent 0 (omega (arith, some))));
        whole = whole_end range.planner.level range.base count awaits.words.some few left;
        longest = ⊎_elim
            (λ (less : index + count < 512). inr (subst (λ (ws : List ℕ). slice_index ws (index_at range.planner.level (range.base + last)) % 2 ≢ 0)
            words_are
            (subst (λ i. slice_index words i % 2 ≢ 0)
            (ap (λ i. i + count) index_is ∙ sym (next_index range.planner.level range.base count awaits.words.some few left
            (subst (λ i. i + count < 512) index_is less)))
            (behind (omega (arith, less))))))
            (λ (all : 512 ≤ index + count). inl (table_end range.planner.level range.base count awaits.words.some few left
            (ap (λ i. i + count) (sym index_is) ∙ whole_table index count room all)))
            (cases_lt (index + count) 512);
      })
    where
      last : ℕ
      last = count * entry_bytes range.planner.level - range.base % entry_bytes range.planner.level

      left : range.base % entry_bytes range.planner.level < count * entry_bytes range.planner.level
      left = some_left count (entry_bytes range.planner.level) (range.base % entry_bytes range.planner.level) some
          (rest_low range.planner.level range.base awaits.words.some few)

      words_are : words ≡ words_in memory range.planner.number
      words_are = ap (λ (o : Option (List ℕ)). unwrap_or o []) (sym got)

      left_some : (a b : ℕ) → b < a → 1 ≤ a - b
      left_some a b less = omega arith

      first_index : (i : ℕ) → i + 0 ≡ i
      first_index i = omega arith

      whole_table : (i n : ℕ) → i + n ≤ 512 → 512 ≤ i + n → i + n ≡ 512
      whole_table i n most least = omega arith
